-- What a stretch leaves of a state that is not empty is where the next one begins.
use Rattle.std.specs.Prelude.{◌≡◌, ℕ, ◌+◌, ◌*◌, drop, Float}
use Rattle.std.proofs.Math.Path.{refl, ap}
use Rattle.std.proofs.Common.{sym, ◌∙◌, arith, length-append, length-drop, drop-drop, length-take-le, ne_eqb}
use mathlib.Core.List.{List, ◌++◌, append_assoc}
use Rattle.std.proofs.Math.ListN.{length, take}
use Rattle.std.proofs.Math.Seq.{take_at, drop_at}
use Rattle.definition.specs.Cov.{Cov}
use Rattle.carried.specs.State.{StateFits, cov_from, cov_laid, cov_kept, mean_from, mean_kept}

-- each part as long as it has to be
pub record Whole (m : ℕ) (c : Cov) (a : List Float) : Type 0 where
  pub mean : length a ≡ m
  pub star : length c.star ≡ m * m
  pub pinf : length c.pinf ≡ m * m
  pub root : length c.root ≡ m * m
  pub unres : length c.unres ≡ m * m

module _ (m : ℕ) (s : List Float) (c : Cov) (a : List Float) (f : StateFits m (length s)) (some : length s ≡ 0 → ⊥) (w : Whole m c a) where
  abbrev rest : List Float
  rest = drop (m + m * m + m * m + m * m + m * m) s

  -- the five parts, and what lies behind them
  abbrev after_root : List Float
  after_root = c.unres ++ rest

  abbrev after_pinf : List Float
  after_pinf = c.root ++ after_root

  abbrev after_star : List Float
  after_star = c.pinf ++ after_pinf

  abbrev after_mean : List Float
  after_mean = c.star ++ after_star

  abbrev next : List Float
  next = mean_kept m (cov_kept m s c) a

  covs : cov_kept m s c ≡ take m s ++ after_mean
  unfolding cov_laid
  covs = rw (ne_eqb _ _ some) (simp append_assoc)

  size : length (take m s ++ after_mean) ≡ length s
  size = let h = f.whole some in simp (length-append, length-drop) (omega (arith, length-take-le m s (omega arith), w.star, w.pinf, w.root, w.unres))

  parts : next ≡ a ++ after_mean
  unfolding mean_kept
  parts =
      let l : length (cov_kept m s c) ≡ 0 → ⊥ = λ z. some (sym size ∙ ap length (sym covs) ∙ z) in
      let h = f.whole some in
      rw (ne_eqb _ _ l) (ap (λ (l : List Float). a ++ l) (ap (drop m) covs ∙ drop_at (take m s) after_mean m (length-take-le m s (omega arith))))

  pub some_next : length next ≡ 0 → ⊥
  some_next z =
      let h = f.whole some in
      let k : length (a ++ after_mean) ≡ 0 = ap length (sym parts) ∙ z in
      some (omega (arith, size, simp (length-append, length-drop) at size, simp (length-append, length-drop) at k, length-take-le m s (omega arith), w.mean))

  pub mean_next_lem : (a1 : List Float) → mean_from m next a1 ≡ a
  unfolding mean_from
  mean_next_lem a1 = rw (ne_eqb _ _ some_next) (ap (take m) parts ∙ take_at a after_mean m w.mean)

  past_mean : drop m next ≡ after_mean
  past_mean = ap (drop m) parts ∙ drop_at a after_mean m w.mean

  past_star : drop (m + m * m) next ≡ after_star
  past_star = sym (drop-drop (m * m) m next) ∙ ap (drop (m * m)) past_mean ∙ drop_at c.star after_star (m * m) w.star

  past_pinf : drop (m + m * m + m * m) next ≡ after_pinf
  past_pinf = sym (drop-drop (m * m) (m + m * m) next) ∙ ap (drop (m * m)) past_star ∙ drop_at c.pinf after_pinf (m * m) w.pinf

  past_root : drop (m + m * m + m * m + m * m) next ≡ after_root
  past_root = sym (drop-drop (m * m) (m + m * m + m * m) next) ∙ ap (drop (m * m)) past_pinf ∙ drop_at c.root after_root (m * m) w.root

  pub cov_next : (p_star : List Float) (flags : List ℕ) → cov_from m next c.live p_star flags ≡ c
  unfolding cov_from
  cov_next p_star flags =
      let e1 : take (m * m) (drop m next) ≡ c.star = ap (take (m * m)) past_mean ∙ take_at c.star after_star (m * m) w.star in
      let e2 : take (m * m) (drop (m + m * m) next) ≡ c.pinf = ap (take (m * m)) past_star ∙ take_at c.pinf after_pinf (m * m) w.pinf in
      let e3 : take (m * m) (drop (m + m * m + m * m) next) ≡ c.root = ap (take (m * m)) past_pinf ∙ take_at c.root after_root (m * m) w.root in
      let e4 : take (m * m) (drop (m + m * m + m * m + m * m) next) ≡ c.unres = ap (take (m * m)) past_root ∙ take_at c.unres rest (m * m) w.unres in
      rw (ne_eqb _ _ some_next, e1, e2, e3, e4) refl
