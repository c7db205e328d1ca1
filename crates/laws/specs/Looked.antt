-- What the covariance run wrote is what the way back looks at.
use Rattle.std.specs.Prelude.{◌≡◌, ℕ, ◌*◌, ◌<◌, false, length, get_or, ltb, Float}
use mathlib.Core.List.{List, [], map, append_assoc}
use Rattle.definition.specs.Run.{count, join}
use Rattle.definition.specs.Cov.{System, Cov, CovPeriod, period, cov_run}
use Rattle.definition.specs.Parts.{predCov, pred_inf, fStar, fInf, mStar, mInf, cov_block}
use Rattle.definition.specs.Inputs.{Model, Class, gap_rows, system_from, system_of, start_inf, start_from, start_of}
use Rattle.definition.specs.Outcome.{kinds_written, cov_written, cov_of}
use Rattle.laws.specs.Flat.{look_of, looks}
use Rattle.laws.specs.Lists.{length_tab, length-scan}
use Rattle.laws.specs.Passes.{Laid}
use Rattle.laws.specs.All.{AllOf}
use Rattle.laws.specs.ReadBack.{Whole}
use Rattle.laws.specs.Shapes.{Sized, SizedP, run_whole, run_length, run_sized, period_keeps, period_first, first_ones}
use Rattle.laws.specs.Backward.{looks_back}

nowhere : CovPeriod
nowhere = record { diffuse = false; pred = []; pred_inf = []; decisions = []; filt = [] }

-- the run over any system, from a state of the right sizes
module _ (y : System) (c : Cov) (ks : List Class) (n p : ℕ) (sized : Sized y.m c) (gaps : length ks ≡ n * p) where
  whole : AllOf (λ c. Whole p y.m c.decisions) (cov_run y 0 c (gap_rows n p ks)).0
  whole = run_whole y 0 c ks n p gaps

  long : length (cov_run y 0 c (gap_rows n p ks)).0 ≡ n
  long = run_length y 0 c ks n p

  sizes : AllOf (SizedP y.m) (cov_run y 0 c (gap_rows n p ks)).0
  unfolding cov_run
  sizes = run_sized y.m (period y) (period_keeps y) (gap_rows n p ks) 0 c sized

  firsts : (dd : ℕ) → dd ≡ count (λ c. c.diffuse) (cov_run y 0 c (gap_rows n p ks)).0 → (i : ℕ) → i < length (cov_run y 0 c (gap_rows n p ks)).0 → ltb i dd ≡ (get_or (cov_run y 0 c (gap_rows n p ks)).0 i nowhere).diffuse
  unfolding cov_run
  firsts dd e i h = rw e (first_ones (period y) (period_first y) nowhere (gap_rows n p ks) 0 c i (rw (← length-scan (period y) (gap_rows n p ks) 0 c) h))

  -- parts that hold what the run wrote, over what was lent
  pub run_looked : (dd : ℕ) {pc₀ pc pi₀ pi fs₀ fs fi₀ fi ms₀ ms mi₀ mi : List Float} {kinds₀ kinds : List ℕ} {k0 k1 k2 k3 k4 k5 k6 : ℕ} → dd ≡ count (λ c. c.diffuse) (cov_run y 0 c (gap_rows n p ks)).0
      → Laid k0 (cov_written y.m (cov_run y 0 c (gap_rows n p ks)) predCov) pc₀ pc
      → Laid k1 (cov_written y.m (cov_run y 0 c (gap_rows n p ks)) pred_inf) pi₀ pi
      → Laid k2 (kinds_written (cov_run y 0 c (gap_rows n p ks))) kinds₀ kinds
      → Laid k3 (cov_written y.m (cov_run y 0 c (gap_rows n p ks)) fStar) fs₀ fs
      → Laid k4 (cov_written y.m (cov_run y 0 c (gap_rows n p ks)) fInf) fi₀ fi
      → Laid k5 (cov_written y.m (cov_run y 0 c (gap_rows n p ks)) mStar) ms₀ ms
      → Laid k6 (cov_written y.m (cov_run y 0 c (gap_rows n p ks)) mInf) mi₀ mi
      → looks n p y.m dd pc pi (record { kinds = kinds; f_stars = fs; f_infs = fi; m_stars = ms; m_infs = mi }) ≡ map look_of (cov_run y 0 c (gap_rows n p ks)).0
  unfolding cov_written kinds_written
  run_looked dd e pc pi kinds fs fi ms mi =
      let r = cov_run y 0 c (gap_rows n p ks) in
      rw (pc.is, pi.is, kinds.is, fs.is, fi.is, ms.is, mi.is, append_assoc (join (map (cov_block y.m predCov) r.0)) r.1.star, append_assoc (join (map (cov_block y.m pred_inf) r.0)) r.1.pinf)
      (looks_back n p y.m dd r.0 whole sizes long nowhere (firsts dd e) _ _ _ _ _ _ _)

-- the start of a call: P* as given, P∞ by the flags
start_sized : (x : Model) → length x.p_star ≡ x.m * x.m → Sized x.m (start_of x)
unfolding start_of start_from start_inf
start_sized x e = record { star = e; pinf = length_tab (x.m * x.m) 0 _ }

-- the same of a call's run
pub looked : (x : Model) (ks : List Class) (dd : ℕ) {pc₀ pc pi₀ pi fs₀ fs fi₀ fi ms₀ ms mi₀ mi : List Float} {kinds₀ kinds : List ℕ} {k0 k1 k2 k3 k4 k5 k6 : ℕ} → length x.p_star ≡ x.m * x.m → length ks ≡ x.n * x.p → dd ≡ count (λ c. c.diffuse) (cov_of x ks).0
    → Laid k0 (cov_written x.m (cov_of x ks) predCov) pc₀ pc
    → Laid k1 (cov_written x.m (cov_of x ks) pred_inf) pi₀ pi
    → Laid k2 (kinds_written (cov_of x ks)) kinds₀ kinds
    → Laid k3 (cov_written x.m (cov_of x ks) fStar) fs₀ fs
    → Laid k4 (cov_written x.m (cov_of x ks) fInf) fi₀ fi
    → Laid k5 (cov_written x.m (cov_of x ks) mStar) ms₀ ms
    → Laid k6 (cov_written x.m (cov_of x ks) mInf) mi₀ mi
    → looks x.n x.p x.m dd pc pi (record { kinds = kinds; f_stars = fs; f_infs = fi; m_stars = ms; m_infs = mi }) ≡ map look_of (cov_of x ks).0
unfolding cov_of system_of system_from
looked x ks dd star gaps e pc pi kinds fs fi ms mi = run_looked (system_of x) (start_of x) ks x.n x.p (start_sized x star) gaps dd e pc pi kinds fs fi ms mi
