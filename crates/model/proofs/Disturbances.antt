-- R Q R' disturbance by disturbance: what stands after the first l of them.
use mathlib.Core.Path.{◌≡◌, sym, ap, ap₂, ◌∙◌}
use Prim.Native.Nat.{ℕ, ◌+◌, ◌*◌, ◌≤◌, ◌<◌}
use native.Mathlib.Omega.{arith}
use mathlib.Core.List.{List}
use lib.ListN.{replicate, get_or-replicate}
use lib.Ieee.{Float, nan}
use Rattle.definition.specs.Num.{◌⊕◌, ◌⊗◌, 0ᶠ, tabulate, matrix, zeros, at, ent, sum_to}
use Rattle.definition.specs.Dense.{axpy, axpy_at, symmetrise}
use Rattle.definition.specs.Inputs.{noise_of}
use Rattle.laws.specs.Lists.{replicate_tab, vector_at, matrix_at, matrix_cong, sum_next}
use Rattle.laws.specs.Noise.{brought_at, disturbance_term, by_disturbances}
use Rattle.dense.specs.Views.{vec, mat}
use Rattle.dense.specs.Columns.{outer_more_at}
use Rattle.dense.proofs.Laws.{vec-zeros}
use Rattle.model.specs.Noise.{NoiseGiven, more_at}

-- an outer product of column l, scaled, and column l
pub more : (m r l : ℕ) (rr a b p out : List Float) (q : Float) → m ≤ 8 → vec m a ≡ tabulate m (λ i. ent r rr i l) → vec m b ≡ axpy m (vec m (replicate 8 0ᶠ)) q (vec m a)
    → mat m out ≡ matrix m m (outer_more_at m (vec m b) (vec m a) (mat m p)) → mat m out ≡ matrix m m (more_at m r rr q l (mat m p))
unfolding outer_more_at more_at brought_at axpy axpy_at
more m r l rr a b p out q m8 ea eb e =
    e ∙ matrix_cong m m (outer_more_at m (vec m b) (vec m a) (mat m p)) (more_at m r rr q l (mat m p))
    (λ i j hi hj. ap₂ (λ (x y : Float). ent m (mat m p) i j ⊕ x ⊗ y) (scaled i hi) (column j hj))
  where
    column : (i : ℕ) → i < m → at (vec m a) i ≡ ent r rr i l
    column i h = ap (λ (v : List Float). at v i) ea ∙ vector_at m i (λ i. ent r rr i l) h

    scaled : (i : ℕ) → i < m → at (vec m b) i ≡ 0ᶠ ⊕ q ⊗ ent r rr i l
    scaled i h =
        ap (λ (v : List Float). at v i) eb
        ∙ vector_at m i (axpy_at (vec m (replicate 8 0ᶠ)) q (vec m a)) h
        ∙ ap₂ (λ (x y : Float). x ⊕ q ⊗ y) (ap (λ (v : List Float). at v i) (vec-zeros m 8 m8) ∙ get_or-replicate m i 0ᶠ nan h) (column i h)

module _ (m r : ℕ) (rr q : List Float) where
  -- the first l of them
  abbrev pub Summed : ℕ → List Float → Type 0
  Summed l out = mat m out ≡ matrix m m (λ i j. sum_to l (disturbance_term r rr q i j))

  pub none : (out : List Float) → mat m out ≡ zeros (m * m) → Summed 0 out
  unfolding sum_to
  none out e = e ∙ replicate_tab (m * m) 0 0ᶠ

  pub next : (l : ℕ) (p out : List Float) (x : Float) → x ≡ ent r q l l → Summed l p → mat m out ≡ matrix m m (more_at m r rr x l (mat m p)) → Summed (l + 1) out
  unfolding more_at disturbance_term
  next l p out x ex e h =
      h ∙ matrix_cong m m (more_at m r rr x l (mat m p)) (λ i j. sum_to (l + 1) (disturbance_term r rr q i j))
      (λ i j hi hj.
      sum_next (disturbance_term r rr q i j) l (ent m (mat m p) i j) (brought_at r rr x l i j)
      (ap (λ (a : List Float). ent m a i j) e ∙ matrix_at m m i j (λ i j. sum_to l (disturbance_term r rr q i j)) hi hj)
      (ap (λ (v : Float). brought_at r rr v l i j) ex))

  -- all of them, symmetrised
  pub whole : (l : ℕ) (p out : List Float) → NoiseGiven m r rr q → l ≤ r → r ≤ l → Summed l p → mat m out ≡ symmetrise m (mat m p) → mat m out ≡ noise_of m r rr q
  whole l p out g a b e h =
      let k : l ≡ r = omega arith in
      h ∙ ap (symmetrise m) (e ∙ ap (λ (n : ℕ). matrix m m (λ i j. sum_to n (disturbance_term r rr q i j))) k)
      ∙ sym (by_disturbances m r rr q g.fits.rr g.finite g.diagonal)
