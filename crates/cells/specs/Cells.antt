-- What stands in a field of a line, over lists of bytes: a word at its right or its left, and the word for a number. A blank is 32.
use Rattle.std.specs.Prelude.{Bool, ◌&&◌, cond, List, [], ◌∷◌, ◌++◌, ℕ, ◌+◌, ◌-◌, leb, length, take, drop, replicate}
use Rattle.decimal.specs.declared.answers.Units.{Units}
use Rattle.decimal.specs.declared.answers.Units.TheVariants.{Whole, NotANumber, Infinite, TooLarge}
use Rattle.decimal.specs.Printed.{sign_of, text_of}

-- ---- a word in a field
unfoldable pub right_of : ℕ → List ℕ → List ℕ
right_of width w = replicate (width - length w) 32 ++ w

unfoldable pub left_of : ℕ → List ℕ → List ℕ
left_of width w = w ++ replicate (width - length w) 32

-- the field is in a list of `len` bytes, and `long` bytes are in the field
unfoldable pub fits : (len at width long : ℕ) → Bool
fits len at width long = leb (at + width) len && leb long width

-- the list afterwards: with the cell in its field where it fits, else as it was
unfoldable pub written : (long at width : ℕ) (cell out : List ℕ) → List ℕ
written long at width cell out = cond (fits (length out) at width long) (take at out ++ (cell ++ drop (at + width) out)) out

-- ---- what is said of a number: `no number`, `infinite`, `too large`, or its digits
unfoldable pub no_number : List ℕ
no_number = 110 ∷ 111 ∷ 32 ∷ 110 ∷ 117 ∷ 109 ∷ 98 ∷ 101 ∷ 114 ∷ []

unfoldable pub infinite : List ℕ
infinite = 105 ∷ 110 ∷ 102 ∷ 105 ∷ 110 ∷ 105 ∷ 116 ∷ 101 ∷ []

unfoldable pub too_large : List ℕ
too_large = 116 ∷ 111 ∷ 111 ∷ 32 ∷ 108 ∷ 97 ∷ 114 ∷ 103 ∷ 101 ∷ []

-- of units of 10 ^ -d, in a field
unfoldable pub said_of : (width d : ℕ) → Units → List ℕ
said_of width d (Whole n) = cond (leb (length (text_of d n.minus n.size)) width) (text_of d n.minus n.size) too_large
said_of width d NotANumber = no_number
said_of width d (Infinite minus) = sign_of minus ++ infinite
said_of width d (TooLarge minus) = too_large

unfoldable pub cell_of : (width d : ℕ) → Units → List ℕ
cell_of width d u = right_of width (said_of width d u)
