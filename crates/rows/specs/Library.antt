-- The test of `open_of` is the library's own. The library sums by columns and this crate by rows: the same, since P∞ is symmetric.
use Rattle.std.specs.Prelude.{◌≡◌, ℕ, zero, suc, ◌+◌, ◌*◌, ◌<◌, ◌≤◌, List, [], ◌∷◌, length, take, drop, slice_index_or, refl, Float}
use Rattle.std.proofs.Common.{◌∙◌, le_of_suc-le-suc, arith, get_or-take, get_or-drop}
use Rattle.std.specs.Float.{nan}
use Rattle.definition.specs.Num.{◌>ᶠ◌, 0ᶠ, at, rank_tol, sum_to, sum_from}
use Rattle.definition.specs.Dense.{sq_term, sq_to, frob_sq}
use Rattle.rows.specs.Rows.{num_at, open_of}

-- a place within the list, whatever is read past its end
pub within : {A : Type 0} (l : List A) (i : ℕ) (d e : A) → i < length l → slice_index_or l i d ≡ slice_index_or l i e
within [] i d e h = absurd (omega arith)
within (x ∷ xs) zero d e h = refl
within (x ∷ xs) (suc i) d e h = within xs i d e (le_of_suc-le-suc h)

-- P∞ at the start of period k
abbrev pub pinf_at : (pinf : List Float) (k : ℕ) → List Float
pinf_at pinf k = take 9 (drop (9 * k) pinf)

module _ (pinf : List Float) (k : ℕ) (long : 9 * k + 9 ≤ length pinf) where
  entry : (i : ℕ) → i < 9 → at (pinf_at pinf k) i ≡ num_at pinf (9 * k + i)
  entry i h = get_or-take 9 (drop (9 * k) pinf) i nan h ∙ get_or-drop (9 * k) pinf i nan ∙ within pinf (9 * k + i) nan 0ᶠ (omega arith)

  -- `is_live` of `Cov` asks this of a period
  pub as_library : num_at pinf (9 * k + 3) ≡ num_at pinf (9 * k + 1) → num_at pinf (9 * k + 6) ≡ num_at pinf (9 * k + 2) → num_at pinf (9 * k + 7) ≡ num_at pinf (9 * k + 5)
      → open_of pinf k ≡ (frob_sq 3 (pinf_at pinf k) >ᶠ rank_tol)
  unfolding open_of sum_to frob_sq sq_to sq_term sum_from
  as_library a b c =
      let e₀ = entry 0 (omega arith) in
      let e₁ = entry 1 (omega arith) in
      let e₂ = entry 2 (omega arith) in
      let e₃ = entry 3 (omega arith) in
      let e₄ = entry 4 (omega arith) in
      let e₅ = entry 5 (omega arith) in
      let e₆ = entry 6 (omega arith) in
      let e₇ = entry 7 (omega arith) in
      let e₈ = entry 8 (omega arith) in
      cc
