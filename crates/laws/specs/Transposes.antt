-- Transposes, to the bit and with every NaN as one: that of a product is the product of the transposes in the other order; a symmetrised matrix is its
-- own; and to symmetrise twice is to symmetrise once, or not at all where all is +0.0 off the diagonal. For every size; infinities, overflow, subnormals
-- and zeros of both signs included. Document 02, request l. Assumes nothing.
use Rattle.std.specs.Prelude.{◌≡◌, ℕ, ◌<◌, Bool, not, cond, List, ltb, Float}
use Rattle.std.proofs.Math.Path.{refl, sym}
use Rattle.std.proofs.Common.{ap₂, ◌∙◌, arith, ltb→lt, nltb→le}
use Rattle.std.proofs.Math.Bool.{true, false}
use Rattle.std.proofs.Math.Dec.{T}
use Rattle.std.specs.Float.Ieee.{binary64, add, mul, round, size, units, of_bits}
use Rattle.definition.specs.Num.{◌⊕◌, ◌⊗◌, 0ᶠ, half, matrix, ent}
use Rattle.definition.specs.Dense.{product_term, product_at, product, transpose_at, transpose, sym_at, symmetrise}
use Rattle.laws.specs.Lists.{matrix_at, matrix_cong, sum_to_cong}
use Rattle.laws.specs.Swap.{mul_swap}
use Rattle.laws.specs.Halves as halves

pub transpose_at_lem : (r c i j : ℕ) (a : List Float) → i < c → j < r → ent r (transpose r c a) i j ≡ ent c a j i
unfolding transpose transpose_at
transpose_at_lem r c i j a hi hj = matrix_at c r i j (transpose_at c a) hi hj

-- ---- a product

module _ (r k c : ℕ) (a b : List Float) where
  term : (i j l : ℕ) → i < c → j < r → l < k → product_term k c a b j i l ≡ product_term k r (transpose k c b) (transpose r k a) i j l
  unfolding product_term
  term i j l hi hj hl = mul_swap binary64 (ent k a j l) (ent c b l i) ∙ sym (ap₂ ◌⊗◌ (transpose_at_lem k c i l b hi hl) (transpose_at_lem r k l j a hl hj))

  entry : (i j : ℕ) → i < c → j < r → transpose_at c (product r k c a b) i j ≡ product_at k r (transpose k c b) (transpose r k a) i j
  unfolding transpose_at product product_at
  entry i j hi hj =
      matrix_at r c j i (product_at k c a b) hj hi ∙ sum_to_cong k (product_term k c a b j i) (product_term k r (transpose k c b) (transpose r k a) i j) (λ l hl. term i j l hi hj hl)

  -- (A B)' = B' A', of an A of r rows and k columns and a B of k rows and c columns
  pub transpose-product : transpose r c (product r k c a b) ≡ product c k r (transpose k c b) (transpose r k a)
  unfolding transpose product
  transpose-product = matrix_cong c r (transpose_at c (product r k c a b)) (product_at k r (transpose k c b) (transpose r k a)) entry

-- ---- symmetrising

-- an entry of a symmetrised matrix by the entry x and the mirrored one y: above the diagonal, below it, on it
abbrev paired : Bool → Bool → Float → Float → Float
paired above below x y = cond above (half ⊗ (x ⊕ y)) (cond below (half ⊗ (y ⊕ x)) x)

half_again : (x y : Float) → half ⊗ (half ⊗ (x ⊕ y) ⊕ half ⊗ (x ⊕ y)) ≡ half ⊗ (x ⊕ y)
unfolding of_bits
half_again x y = halves.symmetrised binary64 x y

module _ (m : ℕ) (a : List Float) where
  module _ (i j : ℕ) (hi : i < m) (hj : j < m) where
    apart : T (ltb i j) → T (ltb j i) → ⊥
    apart h g = let a = ltb→lt i j h in let b = ltb→lt j i g in omega arith

    met : T (not (ltb i j)) → T (not (ltb j i)) → ent m a i j ≡ ent m a j i
    met h g = let a = nltb→le i j h in let b = nltb→le j i g in let e : i ≡ j = omega arith in cc

    again : sym_at m (symmetrise m a) i j ≡ sym_at m a i j
    unfolding sym_at symmetrise
    again = rw (matrix_at m m i j (sym_at m a) hi hj, matrix_at m m j i (sym_at m a) hj hi) (go (ltb i j) (ltb j i) (ent m a i j) (ent m a j i) apart)
      where
        go : (p q : Bool) (x y : Float) → (T p → T q → ⊥) → paired p q (paired p q x y) (paired q p y x) ≡ paired p q x y
        go true true x y h = absurd (h tt tt)
        go true false x y h = half_again x y
        go false true x y h = half_again y x
        go false false x y h = refl

    mirrored : transpose_at m (symmetrise m a) i j ≡ sym_at m a i j
    unfolding transpose_at symmetrise sym_at
    mirrored = matrix_at m m j i (sym_at m a) hj hi ∙ go (ltb i j) (ltb j i) (ent m a i j) (ent m a j i) apart met
      where
        go : (p q : Bool) (x y : Float) → (T p → T q → ⊥) → (T (not p) → T (not q) → x ≡ y) → paired q p y x ≡ paired p q x y
        go true true x y h e = absurd (h tt tt)
        go true false x y h e = refl
        go false true x y h e = refl
        go false false x y h e = sym (e tt tt)

  pub symmetrise_twice : symmetrise m (symmetrise m a) ≡ symmetrise m a
  unfolding symmetrise
  symmetrise_twice = matrix_cong m m (sym_at m (symmetrise m a)) (sym_at m a) again

  -- it equals its transpose
  pub symmetrise_mirrored : transpose m m (symmetrise m a) ≡ symmetrise m a
  unfolding transpose symmetrise
  symmetrise_mirrored = matrix_cong m m (transpose_at m (symmetrise m a)) (sym_at m a) mirrored

-- what is +0.0 off its diagonal stays as it is
half_zeros : half ⊗ (0ᶠ ⊕ 0ᶠ) ≡ 0ᶠ
unfolding add mul round size units of_bits
half_zeros = refl

pub symmetrise_diagonal : (m : ℕ) (f : ℕ → ℕ → Float) → ((i j : ℕ) → (i ≡ j → ⊥) → f i j ≡ 0ᶠ) → symmetrise m (matrix m m f) ≡ matrix m m f
unfolding symmetrise sym_at
symmetrise_diagonal m f off = matrix_cong m m (sym_at m (matrix m m f)) f (λ i j hi hj. rw (matrix_at m m i j f hi hj, matrix_at m m j i f hj hi) (go i j (ltb i j) (ltb j i) (ltb→lt i j) (ltb→lt j i)))
  where
    both : (i j : ℕ) → (i ≡ j → ⊥) → half ⊗ (f i j ⊕ f j i) ≡ 0ᶠ
    both i j h = rw (off i j h, off j i (λ e. h (sym e))) half_zeros

    go : (i j : ℕ) (p q : Bool) → (T p → i < j) → (T q → j < i) → paired p q (f i j) (f j i) ≡ f i j
    go i j true q a b = let h : i < j = a tt in both i j (λ e. omega arith) ∙ sym (off i j (λ e. omega arith))
    go i j false true a b = let h : j < i = b tt in both j i (λ e. omega arith) ∙ sym (off i j (λ e. omega arith))
    go i j false false a b = refl
