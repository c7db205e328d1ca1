-- Doubles by the logic's IEEE 754 account, each operation rounded once; vectors and matrices as lists, matrices row by row; sums.
-- Document 01, "Arithmetic": no fused step; a sum starts from +0.0 and its index ascends.
use Rattle.std.specs.Prelude.{ℕ, zero, suc, ◌+◌, ◌*◌, ◌/◌, ◌%◌, Bool, true, false, cond, List, [], ◌∷◌, get_or, replicate, Float}
use Rattle.std.specs.Float.{nan, inf, fin, binary64}
use Rattle.std.specs.Float.Ieee.{add, sub, mul, div, lt, le, eq, of_bits}

infixl 65 ◌⊕◌ ◌⊖◌
infixl 70 ◌⊗◌ ◌⊘◌
infix 50 ◌>ᶠ◌ ◌≤ᶠ◌
abbrev pub ◌⊕◌ : Float → Float → Float
x ⊕ y = add binary64 x y

abbrev pub ◌⊖◌ : Float → Float → Float
x ⊖ y = sub binary64 x y

abbrev pub ◌⊗◌ : Float → Float → Float
x ⊗ y = mul binary64 x y

abbrev pub ◌⊘◌ : Float → Float → Float
x ⊘ y = div binary64 x y

abbrev pub ◌>ᶠ◌ : Float → Float → Bool
x >ᶠ y = lt y x

abbrev pub ◌≤ᶠ◌ : Float → Float → Bool
x ≤ᶠ y = le x y

-- +0.0, 1 and 0.5
abbrev pub 0ᶠ : Float
0ᶠ = of_bits binary64 0

abbrev pub 1ᶠ : Float
1ᶠ = of_bits binary64 0x3ff0000000000000

abbrev pub half : Float
half = of_bits binary64 0x3fe0000000000000

-- TOLERANCE_RANK, TOLERANCE_CANCEL and SUSPECT_DUST of filter.rs: the doubles nearest to 1e-10, 1e-14 and 1e-6
abbrev pub rank_tol : Float
rank_tol = of_bits binary64 0x3ddb7cdfd9d7bdbb

abbrev pub cancel_tol : Float
cancel_tol = of_bits binary64 0x3d06849b86a12b9b

abbrev pub suspect_tol : Float
suspect_tol = of_bits binary64 0x3eb0c6f7a0b5ed8d

-- x as a number is 0: either zero, and no NaN
abbrev pub is_zero : Float → Bool
is_zero x = eq x 0ᶠ

unfoldable pub is_finite : Float → Bool
is_finite nan = false
is_finite (inf s) = false
is_finite (fin s m e) = true

unfoldable pub is_infinite : Float → Bool
is_infinite nan = false
is_infinite (inf s) = true
is_infinite (fin s m e) = false

-- the magnitude: the sign is cleared, of a zero and of an infinity too
unfoldable pub abs_of : Float → Float
abs_of nan = nan
abs_of (inf s) = inf false
abs_of (fin s m e) = fin false m e

-- max with 0: x if x > 0, else +0.0; so +0.0 of a NaN
unfoldable pub max0 : Float → Float
max0 x = cond (x >ᶠ 0ᶠ) x 0ᶠ

-- ---- lists by their places

-- f k, f (k + 1), .. , n of them
unfoldable pub tab_from {ℓ} : {A : Type ℓ} → ℕ → ℕ → (ℕ → A) → List A
tab_from k zero f = []
tab_from k (suc n) f = f k ∷ tab_from (suc k) n f

abbrev pub tabulate {ℓ} : {A : Type ℓ} → ℕ → (ℕ → A) → List A
tabulate n f = tab_from 0 n f

-- the matrix of r rows and c columns with f i j in row i, column j
abbrev pub matrix : ℕ → ℕ → (ℕ → ℕ → Float) → List Float
matrix r c f = tabulate (r * c) (λ k. f (k / c) (k % c))

abbrev pub zeros : ℕ → List Float
zeros k = replicate k 0ᶠ

-- entry i of a vector; entry (i, j) of a matrix of c columns
abbrev pub at : List Float → ℕ → Float
at x i = get_or x i nan

abbrev pub ent : ℕ → List Float → ℕ → ℕ → Float
ent c a i j = get_or a (i * c + j) nan

-- ---- sums

-- f 0 + f 1 + .. + f (k - 1), from +0.0, ascending
unfoldable pub sum_to : ℕ → (ℕ → Float) → Float
sum_to zero f = 0ᶠ
sum_to (suc k) f = sum_to k f ⊕ f k

-- the same, leaving out the terms at which `out` holds
unfoldable pub sum_but : ℕ → (ℕ → Bool) → (ℕ → Float) → Float
sum_but zero out f = 0ᶠ
sum_but (suc k) out f = let s = sum_but k out f in cond (out k) s (s ⊕ f k)

-- s + f 0 + f 1 + .. + f (k - 1), ascending
unfoldable pub sum_from : Float → ℕ → (ℕ → Float) → Float
sum_from s zero f = s
sum_from s (suc k) f = sum_from s k f ⊕ f k
