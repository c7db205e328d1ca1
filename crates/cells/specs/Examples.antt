-- What the definitions say of some words and numbers: antt computes them. Assumes nothing.
use Rattle.std.specs.Prelude.{◌≡◌, refl, false, [], ◌∷◌, length}
use Rattle.std.specs.Float.{binary64}
use Rattle.std.specs.Float.Ieee.{of_bits}
use Rattle.decimal.specs.declared.answers.Units.TheVariants.{Whole}
use Rattle.decimal.specs.Reading.{whole}
use Rattle.decimal.specs.Scaled.{away, sized_of, units_of}
use Rattle.decimal.specs.Printed.{digits_onto, places_in, places_of, sign_of, fraction_onto, text_of}
use Rattle.cells.specs.Cells.{right_of, left_of, fits, written, no_number, infinite, too_large, said_of, cell_of}

-- ---- words: "ab" in four bytes; "abc" at place 1 of five bytes, in a field of three, of two (it is longer) and of five (which ends past the list); a number in a field of no width
pub right : right_of 4 (97 ∷ 98 ∷ []) ≡ 32 ∷ 32 ∷ 97 ∷ 98 ∷ []
unfolding right_of
right = refl

pub left : left_of 4 (97 ∷ 98 ∷ []) ≡ 97 ∷ 98 ∷ 32 ∷ 32 ∷ []
unfolding left_of
left = refl

pub in_place : written 3 1 3 (right_of 3 (97 ∷ 98 ∷ 99 ∷ [])) (7 ∷ 7 ∷ 7 ∷ 7 ∷ 7 ∷ []) ≡ 7 ∷ 97 ∷ 98 ∷ 99 ∷ 7 ∷ []
unfolding written fits right_of
in_place = refl

pub too_long : written 3 1 2 (right_of 2 (97 ∷ 98 ∷ 99 ∷ [])) (7 ∷ 7 ∷ 7 ∷ 7 ∷ 7 ∷ []) ≡ 7 ∷ 7 ∷ 7 ∷ 7 ∷ 7 ∷ []
unfolding written fits right_of
too_long = refl

pub past_the_end : written 3 1 5 (right_of 5 (97 ∷ 98 ∷ 99 ∷ [])) (7 ∷ 7 ∷ 7 ∷ 7 ∷ 7 ∷ []) ≡ 7 ∷ 7 ∷ 7 ∷ 7 ∷ 7 ∷ []
unfolding written fits right_of
past_the_end = refl

pub no_width : written 9 1 0 (cell_of 0 0 (Whole (whole false 5))) (7 ∷ 7 ∷ []) ≡ 7 ∷ 7 ∷ []
unfolding written fits
no_width = refl

-- ---- numbers in nine bytes: 1234.5 with one decimal; -0.0004 with three, where zero has no minus; -1.5 with none; the infinities; NaN; 1e18; -123456.5 with three decimals, which is too wide
pub plain : cell_of 9 1 (units_of 1 (of_bits binary64 0x40934A0000000000)) ≡ 32 ∷ 32 ∷ 32 ∷ 49 ∷ 50 ∷ 51 ∷ 52 ∷ 46 ∷ 53 ∷ []
unfolding cell_of right_of said_of units_of sized_of away of_bits text_of sign_of digits_onto places_of places_in fraction_onto
plain = refl

pub no_minus : cell_of 9 3 (units_of 3 (of_bits binary64 0xBF3A36E2EB1C432D)) ≡ 32 ∷ 32 ∷ 32 ∷ 32 ∷ 48 ∷ 46 ∷ 48 ∷ 48 ∷ 48 ∷ []
unfolding cell_of right_of said_of units_of sized_of away of_bits text_of sign_of digits_onto places_of places_in fraction_onto
no_minus = refl

pub tie : cell_of 9 0 (units_of 0 (of_bits binary64 0xBFF8000000000000)) ≡ 32 ∷ 32 ∷ 32 ∷ 32 ∷ 32 ∷ 32 ∷ 32 ∷ 45 ∷ 50 ∷ []
unfolding cell_of right_of said_of units_of sized_of away of_bits text_of sign_of digits_onto places_of places_in fraction_onto
tie = refl

pub infinity : cell_of 9 1 (units_of 1 (of_bits binary64 0x7FF0000000000000)) ≡ 32 ∷ 105 ∷ 110 ∷ 102 ∷ 105 ∷ 110 ∷ 105 ∷ 116 ∷ 101 ∷ []
unfolding cell_of right_of said_of units_of of_bits infinite sign_of
infinity = refl

pub minus_infinity : cell_of 9 1 (units_of 1 (of_bits binary64 0xFFF0000000000000)) ≡ 45 ∷ 105 ∷ 110 ∷ 102 ∷ 105 ∷ 110 ∷ 105 ∷ 116 ∷ 101 ∷ []
unfolding cell_of right_of said_of units_of of_bits infinite sign_of
minus_infinity = refl

pub not_a_number : cell_of 9 1 (units_of 1 (of_bits binary64 0x7FF8000000000000)) ≡ 110 ∷ 111 ∷ 32 ∷ 110 ∷ 117 ∷ 109 ∷ 98 ∷ 101 ∷ 114 ∷ []
unfolding cell_of right_of said_of units_of of_bits no_number
not_a_number = refl

pub too_large_lem : cell_of 9 0 (units_of 0 (of_bits binary64 0x43ABC16D674EC800)) ≡ 116 ∷ 111 ∷ 111 ∷ 32 ∷ 108 ∷ 97 ∷ 114 ∷ 103 ∷ 101 ∷ []
unfolding cell_of right_of said_of units_of sized_of away of_bits too_large
too_large_lem = refl

pub too_wide : cell_of 9 3 (units_of 3 (of_bits binary64 0xC0FE240800000000)) ≡ 116 ∷ 111 ∷ 111 ∷ 32 ∷ 108 ∷ 97 ∷ 114 ∷ 103 ∷ 101 ∷ []
unfolding cell_of right_of said_of units_of sized_of away of_bits text_of sign_of digits_onto places_of places_in fraction_onto too_large
too_wide = refl

-- ---- -1234.5 thousandths; the counts 4096 and 40960 in four bytes, where the second does not fit and its word neither
pub thousandths : cell_of 9 3 (units_of 0 (of_bits binary64 0xC0934A0000000000)) ≡ 32 ∷ 32 ∷ 32 ∷ 45 ∷ 49 ∷ 46 ∷ 50 ∷ 51 ∷ 53 ∷ []
unfolding cell_of right_of said_of units_of sized_of away of_bits text_of sign_of digits_onto places_of places_in fraction_onto
thousandths = refl

pub count : cell_of 4 0 (Whole (whole false 4096)) ≡ 52 ∷ 48 ∷ 57 ∷ 54 ∷ []
unfolding cell_of right_of said_of text_of sign_of digits_onto places_of places_in fraction_onto
count = refl

pub count_too_wide : written (length (said_of 4 0 (Whole (whole false 40960)))) 0 4 (cell_of 4 0 (Whole (whole false 40960))) (7 ∷ 7 ∷ 7 ∷ 7 ∷ []) ≡ 7 ∷ 7 ∷ 7 ∷ 7 ∷ []
unfolding written fits said_of too_large text_of sign_of digits_onto places_of places_in fraction_onto
count_too_wide = refl
