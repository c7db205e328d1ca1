-- R Q R' of a diagonal Q, as a call past refusals 2, 3 and 5 has it: R Q is R with each column times its variance, and the product is a sum of
-- outer products, one for each disturbance, which is how the code works it out.
use Rattle.std.specs.Prelude.{◌≡◌, ℕ, ◌+◌, ◌*◌, ◌<◌, true, false, List, length, Float}
use Rattle.std.proofs.Math.Path.{ap, ap₂}
use Rattle.std.proofs.Common.{◌∙◌, arith, ne_eqb}
use Rattle.std.specs.Float.Ieee.{binary64}
use Rattle.std.specs.Float.Ieee.Fits.{mul-fits}
use Rattle.std.proofs.lemmas.Bool.{not-false}
use Rattle.definition.specs.Num.{◌⊕◌, ◌⊗◌, 0ᶠ, is_zero, matrix, ent, sum_to}
use Rattle.definition.specs.Dense.{product, product_at, product_term, transpose, symmetrise}
use Rattle.definition.specs.Inputs.{noise_of}
use Rattle.definition.specs.Refusals.{not_finite, off_diagonal, off_row, off_at}
use Rattle.laws.specs.Any.{any_false}
use Rattle.laws.specs.Lists.{matrix_at, matrix_cong, sum_to_cong, place_lt}
use Rattle.laws.specs.Swap.{mul_swap}
use Rattle.laws.specs.Transposes.{transpose_at_lem}
use Rattle.laws.specs.Zeros.{times_zero, only_one, finite_at}

-- what a disturbance of variance v brings to entry (i, j) by its column, l, of R
unfoldable pub brought_at : ℕ → List Float → Float → ℕ → ℕ → ℕ → Float
brought_at r rr v l i j = (0ᶠ ⊕ v ⊗ ent r rr i l) ⊗ ent r rr j l

-- of Q's variances
unfoldable pub disturbance_term : ℕ → List Float → List Float → ℕ → ℕ → ℕ → Float
disturbance_term r rr q i j l = brought_at r rr (ent r q l l) l i j

off_zero : (r : ℕ) (q : List Float) (k l : ℕ) → off_diagonal r q ≡ false → k < r → l < r → (k ≡ l → ⊥) → is_zero (ent r q k l) ≡ true
unfolding off_diagonal off_row off_at
off_zero r q k l h a b d = not-false _ (rw (ne_eqb k l d) at (any_false (off_at r q k) r (any_false (off_row r q) r h k a) l b))

module _ (m r : ℕ) (rr q : List Float) (long : length rr ≡ m * r) (finite : not_finite rr ≡ false) (diagonal : off_diagonal r q ≡ false) where
  scaled_column : (i l : ℕ) → i < m → l < r → ent r (product m r r rr q) i l ≡ 0ᶠ ⊕ ent r q l l ⊗ ent r rr i l
  unfolding product product_at product_term
  scaled_column i l hi hl =
      matrix_at m r i l (product_at r r rr q) hi hl
      ∙ only_one r l (product_term r r rr q i l) hl (mul-fits binary64 (ent r rr i l) (ent r q l l))
      (λ k hk d. times_zero (ent r rr i k) (ent r q k l) (finite_at rr (i * r + k) finite (omega (arith, place_lt m r i k hi hk))) (off_zero r q k l diagonal hk hl d))
      ∙ ap (λ (v : Float). 0ᶠ ⊕ v) (mul_swap binary64 (ent r rr i l) (ent r q l l))

  pub by_disturbances : noise_of m r rr q ≡ symmetrise m (matrix m m (λ i j. sum_to r (disturbance_term r rr q i j)))
  unfolding noise_of product product_at product_term disturbance_term brought_at
  by_disturbances =
      ap (symmetrise m)
      (matrix_cong m m (product_at r m (product m r r rr q) (transpose m r rr)) (λ i j. sum_to r (disturbance_term r rr q i j))
      (λ i j hi hj.
      sum_to_cong r (product_term r m (product m r r rr q) (transpose m r rr) i j) (disturbance_term r rr q i j)
      (λ l hl. ap₂ ◌⊗◌ (scaled_column i l hi hl) (transpose_at_lem m r l j rr hl hj))))
