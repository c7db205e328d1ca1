-- What the definitions say of some texts and numbers: antt computes them. Assumes nothing.
use Rattle.std.specs.Prelude.{◌≡◌, refl, true, false, [], ◌∷◌, Ok, Err}
use Rattle.std.specs.Float.{binary64}
use Rattle.std.specs.Float.Ieee.{of_bits}
use Rattle.decimal.specs.declared.answers.NotRead.TheVariants.{Empty, TooLong, NotANumber}
use Rattle.decimal.specs.declared.answers.Units.TheVariants as units
use Rattle.decimal.specs.Reading.{is_digit, all_digits, value_from, whole, number_of, read_of, stretch}
use Rattle.decimal.specs.Words.{is_blank, keeps, run_of, word_at}
use Rattle.decimal.specs.Scaled.{away, sized_of, units_of}
use Rattle.decimal.specs.Printed.{digits_onto, places_in, places_of, sign_of, fraction_onto, text_of, shown, put_in, fits_in}

-- ---- reading: "-0042", "", "-", "12a", "+1", fifteen nines, sixteen digits, and the 42 of "x 42 y"
pub minus_42 : read_of (45 ∷ 48 ∷ 48 ∷ 52 ∷ 50 ∷ []) ≡ Ok (whole true 42)
unfolding read_of number_of all_digits is_digit value_from
minus_42 = refl

pub empty : read_of [] ≡ Err Empty
unfolding read_of
empty = refl

pub lone_minus : read_of (45 ∷ []) ≡ Err NotANumber
unfolding read_of number_of
lone_minus = refl

pub a_letter : read_of (49 ∷ 50 ∷ 97 ∷ []) ≡ Err NotANumber
unfolding read_of number_of all_digits is_digit value_from
a_letter = refl

pub a_plus : read_of (43 ∷ 49 ∷ []) ≡ Err NotANumber
unfolding read_of number_of all_digits is_digit value_from
a_plus = refl

pub fifteen : read_of (57 ∷ 57 ∷ 57 ∷ 57 ∷ 57 ∷ 57 ∷ 57 ∷ 57 ∷ 57 ∷ 57 ∷ 57 ∷ 57 ∷ 57 ∷ 57 ∷ 57 ∷ []) ≡ Ok (whole false 999999999999999)
unfolding read_of number_of all_digits is_digit value_from
fifteen = refl

pub sixteen : read_of (48 ∷ 48 ∷ 48 ∷ 48 ∷ 48 ∷ 48 ∷ 48 ∷ 48 ∷ 48 ∷ 48 ∷ 48 ∷ 48 ∷ 48 ∷ 48 ∷ 48 ∷ 49 ∷ []) ≡ Err TooLong
unfolding read_of number_of all_digits is_digit value_from
sixteen = refl

pub inside : read_of (stretch (120 ∷ 32 ∷ 52 ∷ 50 ∷ 32 ∷ 121 ∷ []) 2 4) ≡ Ok (whole false 42)
unfolding stretch read_of number_of all_digits is_digit value_from
inside = refl

-- ---- words: of " ab<tab>c" from 0, from 3, and past the end
pub first_word : word_at (32 ∷ 97 ∷ 98 ∷ 9 ∷ 99 ∷ []) 0 ≡ record { from = 1; to = 3 }
unfolding word_at run_of keeps is_blank
first_word = refl

pub next_word : word_at (32 ∷ 97 ∷ 98 ∷ 9 ∷ 99 ∷ []) 3 ≡ record { from = 4; to = 5 }
unfolding word_at run_of keeps is_blank
next_word = refl

pub no_word : word_at (32 ∷ 97 ∷ 98 ∷ 9 ∷ 99 ∷ []) 9 ≡ record { from = 5; to = 5 }
unfolding word_at run_of keeps is_blank
no_word = refl

-- ---- doubles: 0.5 and -0.5 at no decimals (a tie, away from zero), -0.25 at two, the double 2.675 at two (it is below the tie), -0.001 at two (no minus
-- at zero), 1e18, NaN and an infinity
pub tie_up : units_of 0 (of_bits binary64 0x3FE0000000000000) ≡ units.Whole (whole false 1)
unfolding units_of sized_of away of_bits
tie_up = refl

pub tie_down : units_of 0 (of_bits binary64 0xBFE0000000000000) ≡ units.Whole (whole true 1)
unfolding units_of sized_of away of_bits
tie_down = refl

pub quarter : units_of 2 (of_bits binary64 0xBFD0000000000000) ≡ units.Whole (whole true 25)
unfolding units_of sized_of away of_bits
quarter = refl

pub below_a_tie : units_of 2 (of_bits binary64 0x4005666666666666) ≡ units.Whole (whole false 267)
unfolding units_of sized_of away of_bits
below_a_tie = refl

pub no_minus : units_of 2 (of_bits binary64 0xBF50624DD2F1A9FC) ≡ units.Whole (whole false 0)
unfolding units_of sized_of away of_bits
no_minus = refl

pub too_large : units_of 0 (of_bits binary64 0x43ABC16D674EC800) ≡ units.TooLarge false
unfolding units_of sized_of away of_bits
too_large = refl

pub no_number : units_of 0 (of_bits binary64 0x7FF8000000000000) ≡ units.NotANumber
unfolding units_of of_bits
no_number = refl

pub infinite : units_of 0 (of_bits binary64 0xFFF0000000000000) ≡ units.Infinite true
unfolding units_of of_bits
infinite = refl

-- ---- printed: "   -0.05", "  12", "1234.500", and a field that is too narrow
pub small : shown 8 2 true 5 ≡ 32 ∷ 32 ∷ 32 ∷ 45 ∷ 48 ∷ 46 ∷ 48 ∷ 53 ∷ []
unfolding shown text_of sign_of digits_onto places_of places_in fraction_onto
small = refl

pub plain : shown 4 0 false 12 ≡ 32 ∷ 32 ∷ 49 ∷ 50 ∷ []
unfolding shown text_of sign_of digits_onto places_of places_in fraction_onto
plain = refl

pub filled : shown 8 3 false 1234500 ≡ 49 ∷ 50 ∷ 51 ∷ 52 ∷ 46 ∷ 53 ∷ 48 ∷ 48 ∷ []
unfolding shown text_of sign_of digits_onto places_of places_in fraction_onto
filled = refl

pub in_place : put_in 1 3 1 false 25 (7 ∷ 7 ∷ 7 ∷ 7 ∷ 7 ∷ []) ≡ 7 ∷ 50 ∷ 46 ∷ 53 ∷ 7 ∷ []
unfolding put_in fits_in shown text_of sign_of digits_onto places_of places_in fraction_onto
in_place = refl

pub too_narrow : put_in 1 3 1 true 25 (7 ∷ 7 ∷ 7 ∷ 7 ∷ 7 ∷ []) ≡ 7 ∷ 7 ∷ 7 ∷ 7 ∷ 7 ∷ []
unfolding put_in fits_in shown text_of sign_of digits_onto places_of places_in fraction_onto
too_narrow = refl
