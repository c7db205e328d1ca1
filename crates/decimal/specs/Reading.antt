-- A whole number as text, over the list of its bytes: a minus (45) or none, then from one to 15 digits (48 to 57).
use Rattle.std.specs.Prelude.{◌≡◌, refl, Bool, true, false, cond, List, [], ◌∷◌, ◌++◌, ℕ, ◌+◌, ◌-◌, ◌*◌, ltb, leb, eqb, length, take, drop, Result, Ok, Err}
use Rattle.std.specs.List.{list_all}
use Rattle.decimal.specs.declared.answers.Whole.{Whole}
use Rattle.decimal.specs.declared.answers.NotRead.{NotRead}
use Rattle.decimal.specs.declared.answers.NotRead.TheVariants.{Empty, TooLong, NotANumber}

unfoldable pub is_digit : ℕ → Bool
is_digit b = cond (ltb b 48) false (ltb b 58)

unfoldable pub all_digits : List ℕ → Bool
all_digits bs = list_all is_digit bs

-- the digits after a number n, in base 10
unfoldable pub value_from : ℕ → List ℕ → ℕ
value_from n [] = n
value_from n (b ∷ bs) = value_from (n * 10 + (b - 48)) bs

abbrev pub whole : Bool → ℕ → Whole
whole minus size = record { minus = minus; size = size }

-- what stands after the sign. Leading zeros count as digits. Another byte counts before the length does.
unfoldable pub number_of : Bool → List ℕ → Result Whole NotRead
number_of minus [] = Err NotANumber
number_of minus (b ∷ bs) = cond (all_digits (b ∷ bs)) (cond (leb (length (b ∷ bs)) 15) (Ok (whole minus (value_from 0 (b ∷ bs)))) (Err TooLong)) (Err NotANumber)

unfoldable pub read_of : List ℕ → Result Whole NotRead
read_of [] = Err Empty
read_of (b ∷ bs) = cond (eqb b 45) (number_of true bs) (number_of false (b ∷ bs))

-- the bytes from place a up to place e, as far as the list has them
unfoldable pub stretch : List ℕ → ℕ → ℕ → List ℕ
stretch text a e = take (e - a) (drop a text)

-- ---- one digit more at the end: ten times the number, and the digit
pub one_more : (n : ℕ) (ds : List ℕ) (d : ℕ) → value_from n (ds ++ (d ∷ [])) ≡ value_from n ds * 10 + (d - 48)
unfolding value_from
one_more n [] d = refl
one_more n (b ∷ bs) d = one_more (n * 10 + (b - 48)) bs d
