-- The places in use of an array, row by row: k of a vector, r rows of c columns of a matrix. A contract speaks of these and of nothing beyond them.
use Rattle.std.specs.Prelude.{ℕ, ◌*◌, List, take, Float}

unfoldable pub vec : ℕ → List Float → List Float
vec k a = take k a

unfoldable pub rect : ℕ → ℕ → List Float → List Float
rect r c a = take (r * c) a

-- the square one: a short name, so that a product of m by m and one of r by c are the same words
abbrev pub mat : ℕ → List Float → List Float
mat m a = rect m m a
