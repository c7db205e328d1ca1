-- Request l of document 02: what of a run is its own mirror image to the bit, so that one half of it gives the other, and to symmetrise it again changes
-- nothing: P∞ at every place, P* at every place but 0, the filtered and the smoothed covariances (`MirroredRun`). Here P* is so (`later_stars`); all of
-- it is, by `mirrored` in proofs/Mirrored.antt. What is not is in Unmirrored.
use Rattle.std.specs.Prelude.{◌≡◌, ℕ, suc, Bool, drop, Float}
use Rattle.std.proofs.Common.{subst}
use mathlib.Core.List.{List, [], ◌∷◌, ◌++◌, map}
use Rattle.definition.specs.Dense.{transposed, symmetrise}
use Rattle.definition.specs.Run.{scan}
use Rattle.definition.specs.Cov.{System, Cov, CovPeriod, ended, stepped, step_star, period_of, period, cov_run}
use Rattle.definition.specs.Smooth.{smooth_cov}
use Rattle.definition.specs.Inputs.{Model, Class, frame_of}
use Rattle.definition.specs.Outcome.{cov_of}
use Rattle.laws.specs.All.{AllOf}
use Rattle.laws.specs.Transposes.{symmetrise_twice, symmetrise_mirrored}

-- its own transpose, and not changed by symmetrising
pub record Mirrored (m : ℕ) (a : List Float) : Type 0 where
  pub turned : transposed m a ≡ a
  pub symmetrised : symmetrise m a ≡ a

-- P* and P∞ of a run, from place 0 to place n
abbrev pub stars : List CovPeriod × Cov → List (List Float)
stars r = map (λ c. c.pred) r.0 ++ (r.1.star ∷ [])

abbrev pub infs : List CovPeriod × Cov → List (List Float)
infs r = map (λ c. c.pred_inf) r.0 ++ (r.1.pinf ∷ [])

pub record MirroredRun (x : Model) (ks : List Class) : Type 0 where
  pub star : AllOf (Mirrored x.m) (drop 1 (stars (cov_of x ks)))
  pub inf : AllOf (Mirrored x.m) (infs (cov_of x ks))
  pub filtered : AllOf (λ c. Mirrored x.m c.filt) (cov_of x ks).0
  pub smoothed : AllOf (Mirrored x.m) (smooth_cov (frame_of x) (cov_of x ks).0)

-- ---- what stays as it is when it is symmetrised

module _ (m : ℕ) where
  pub stays : (a : List Float) → symmetrise m a ≡ a → Mirrored m a
  stays a e = record { turned = subst (λ (l : List Float). transposed m l ≡ l) e (symmetrise_mirrored m a); symmetrised = e }

  pub left : (a : List Float) → Mirrored m (symmetrise m a)
  left a = stays (symmetrise m a) (symmetrise_twice m a)

-- ---- forward

module _ (y : System) where
  run_stars : (gs : List (List Bool)) (t : ℕ) (c : Cov) → Mirrored y.m c.star → AllOf (Mirrored y.m) (stars (cov_run y t c gs))
  unfolding cov_run scan period_of ended stepped step_star
  run_stars [] t c h = (h, tt)
  run_stars (g ∷ gs) t c h = (h, run_stars gs (suc t) (period y t c g).1 (left y.m _))

  pub later_stars : (gs : List (List Bool)) (t : ℕ) (c : Cov) → AllOf (Mirrored y.m) (drop 1 (stars (cov_run y t c gs)))
  unfolding cov_run scan period_of ended stepped step_star
  later_stars [] t c = tt
  later_stars (g ∷ gs) t c = run_stars gs (suc t) (period y t c g).1 (left y.m _)
