-- dense.rs: vectors and matrices, over the size. Each entry is a function of its own, so that a reader and a proof can name it.
-- Document 01, "Arithmetic": inner index ascending, from +0.0; a column whose multiplier equals 0 is left out where 01 says so, and nowhere else.
use Rattle.std.specs.Prelude.{ℕ, zero, suc, Bool, cond, List, ltb, Float}
use Rattle.definition.specs.Num.{◌⊕◌, ◌⊖◌, ◌⊗◌, ◌⊘◌, 0ᶠ, half, is_zero, abs_of, tabulate, matrix, at, ent, sum_to, sum_but, sum_from}

-- ---- vectors

-- a · b
unfoldable pub dot_at : List Float → List Float → ℕ → Float
dot_at a b i = at a i ⊗ at b i

unfoldable pub dot : ℕ → List Float → List Float → Float
dot k a b = sum_to k (dot_at a b)

-- y + s x, nothing left out
unfoldable pub axpy_at : List Float → Float → List Float → ℕ → Float
axpy_at y s x i = at y i ⊕ s ⊗ at x i

unfoldable pub axpy : ℕ → List Float → Float → List Float → List Float
axpy k y s x = tabulate k (axpy_at y s x)

-- each entry of x over s: the gains forward
unfoldable pub over_at : List Float → Float → ℕ → Float
over_at x s i = at x i ⊘ s

unfoldable pub over : ℕ → List Float → Float → List Float
over k x s = tabulate k (over_at x s)

-- each entry of x times s: the gains backward
unfoldable pub scaled_at : List Float → Float → ℕ → Float
scaled_at x s i = at x i ⊗ s

unfoldable pub scaled : ℕ → List Float → Float → List Float
scaled k x s = tabulate k (scaled_at x s)

-- row i of a matrix of m columns (row_to_vec)
unfoldable pub row_at : ℕ → List Float → ℕ → ℕ → Float
row_at m a i j = ent m a i j

unfoldable pub row : ℕ → List Float → ℕ → List Float
row m a i = tabulate m (row_at m a i)

-- ---- a matrix and a vector

-- M x, leaving out the columns at which x is 0
unfoldable pub zero_at : List Float → ℕ → Bool
zero_at x j = is_zero (at x j)

unfoldable pub mat_vec_term : ℕ → List Float → List Float → ℕ → ℕ → Float
mat_vec_term m a x i j = ent m a i j ⊗ at x j

unfoldable pub mat_vec_at : ℕ → List Float → List Float → ℕ → Float
mat_vec_at m a x i = sum_but m (zero_at x) (mat_vec_term m a x i)

unfoldable pub mat_vec : ℕ → List Float → List Float → List Float
mat_vec m a x = tabulate m (mat_vec_at m a x)

-- M' x, nothing left out
unfoldable pub mat_tVec_term : ℕ → List Float → List Float → ℕ → ℕ → Float
mat_tVec_term m a x j i = ent m a i j ⊗ at x i

unfoldable pub mat_tVec_at : ℕ → List Float → List Float → ℕ → Float
mat_tVec_at m a x j = sum_to m (mat_tVec_term m a x j)

unfoldable pub mat_tVec : ℕ → List Float → List Float → List Float
mat_tVec m a x = tabulate m (mat_tVec_at m a x)

-- P - a b', leaving out the columns at which b is 0
unfoldable pub less_of : Float → Float → Float → Float
less_of x a b = cond (is_zero b) x (x ⊖ a ⊗ b)

unfoldable pub outer_sub_at : ℕ → List Float → List Float → List Float → ℕ → ℕ → Float
outer_sub_at m p a b i j = less_of (ent m p i j) (at a i) (at b j)

unfoldable pub outer_sub : ℕ → List Float → List Float → List Float → List Float
outer_sub m p a b = matrix m m (outer_sub_at m p a b)

-- s a b', as (s a) b'
unfoldable pub outer_scaled_at : List Float → List Float → Float → ℕ → ℕ → Float
outer_scaled_at a b s i j = s ⊗ at a i ⊗ at b j

unfoldable pub outer_scaled : ℕ → List Float → List Float → Float → List Float
outer_scaled m a b s = matrix m m (outer_scaled_at a b s)

-- ---- matrices

-- A B, of r rows, k inner places and c columns
unfoldable pub product_term : ℕ → ℕ → List Float → List Float → ℕ → ℕ → ℕ → Float
product_term k c a b i j l = ent k a i l ⊗ ent c b l j

unfoldable pub product_at : ℕ → ℕ → List Float → List Float → ℕ → ℕ → Float
product_at k c a b i j = sum_to k (product_term k c a b i j)

unfoldable pub product : ℕ → ℕ → ℕ → List Float → List Float → List Float
product r k c a b = matrix r c (product_at k c a b)

-- A', of an A of r rows and c columns
unfoldable pub transpose_at : ℕ → List Float → ℕ → ℕ → Float
transpose_at c a i j = ent c a j i

unfoldable pub transpose : ℕ → ℕ → List Float → List Float
transpose r c a = matrix c r (transpose_at c a)

-- the square ones
abbrev pub mul : ℕ → List Float → List Float → List Float
mul m a b = product m m m a b

abbrev pub transposed : ℕ → List Float → List Float
transposed m a = transpose m m a

-- T P T' as (T P) T', and A' N B as (A' N) B (quad of smoother.rs; sandwich_t is A' N A)
unfoldable pub sandwich : ℕ → List Float → List Float → List Float
sandwich m t p = mul m (mul m t p) (transposed m t)

unfoldable pub quad : ℕ → List Float → List Float → List Float → List Float
quad m a n b = mul m (mul m (transposed m a) n) b

-- A + B and A - B
unfoldable pub plus_at : ℕ → List Float → List Float → ℕ → ℕ → Float
plus_at m a b i j = ent m a i j ⊕ ent m b i j

unfoldable pub plus : ℕ → List Float → List Float → List Float
plus m a b = matrix m m (plus_at m a b)

unfoldable pub minus_at : ℕ → List Float → List Float → ℕ → ℕ → Float
minus_at m a b i j = ent m a i j ⊖ ent m b i j

unfoldable pub minus : ℕ → List Float → List Float → List Float
minus m a b = matrix m m (minus_at m a b)

-- symmetrize_in_place: both mirrored entries become 0.5 (upper + lower); the diagonal stays
unfoldable pub sym_at : ℕ → List Float → ℕ → ℕ → Float
sym_at m a i j =
    cond (ltb i j) (half ⊗ (ent m a i j ⊕ ent m a j i)) (cond (ltb j i) (half ⊗ (ent m a j i ⊕ ent m a i j)) (ent m a i j))

unfoldable pub symmetrise : ℕ → List Float → List Float
symmetrise m a = matrix m m (sym_at m a)

-- ---- sums over a whole matrix, column by column

-- the sum of the squares
unfoldable pub sq_term : ℕ → List Float → ℕ → ℕ → Float
sq_term m a j i = ent m a i j ⊗ ent m a i j

unfoldable pub sq_to : ℕ → List Float → ℕ → Float
sq_to m a zero = 0ᶠ
sq_to m a (suc k) = sum_from (sq_to m a k) m (sq_term m a k)

unfoldable pub frob_sq : ℕ → List Float → Float
frob_sq m a = sq_to m a m

-- |z|' |M| |z|, leaving out only a zero outer factor: the columns at which z is 0
unfoldable pub abs_term : ℕ → List Float → List Float → ℕ → ℕ → Float
abs_term m z a j i = abs_of (at z i) ⊗ abs_of (at z j) ⊗ abs_of (ent m a i j)

unfoldable pub abs_column : ℕ → List Float → List Float → ℕ → Float → Float
abs_column m z a j s = cond (is_zero (at z j)) s (sum_from s m (abs_term m z a j))

unfoldable pub abs_to : ℕ → List Float → List Float → ℕ → Float
abs_to m z a zero = 0ᶠ
abs_to m z a (suc k) = abs_column m z a k (abs_to m z a k)

unfoldable pub abs_quad_form : ℕ → List Float → List Float → Float
abs_quad_form m z a = abs_to m z a m
