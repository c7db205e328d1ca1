-- Request l of document 02: what of a run is its own mirror image to the bit, so that one half of it gives the other, and to symmetrise it again changes
-- nothing: P∞ at every place, P* at every place but 0, the filtered and the smoothed covariances. What is not is in Unmirrored.
use Rattle.std.specs.Prelude.{refl, ℕ, suc, ◌*◌, Bool, ◌&&◌, Float}
use Rattle.std.proofs.Common.{sym, subst, ne_eqb}
use Rattle.std.proofs.Math.Path.{ap}
use Rattle.std.proofs.Math.Bool.{true, false, cond}
use mathlib.Core.List.{List, [], ◌∷◌}
use Rattle.definition.specs.Num.{0ᶠ, 1ᶠ, zeros}
use Rattle.definition.specs.Run.{scan, scan_back}
use Rattle.definition.specs.Cov.{System, Cov, CovPeriod, is_live, entered, ended, stepped, step_inf, period_of, period, cov_run}
use Rattle.definition.specs.Mean.{Frame}
use Rattle.definition.specs.Smooth.{Ns, back_v, back_cov_of, back_cov, smooth_cov}
use Rattle.definition.specs.Inputs.{Model, Class, is_flagged, start_inf_at, start_inf, start_from, start_of, system_from, system_of, frame_from, frame_of, gap_rows}
use Rattle.definition.specs.Outcome.{cov_of}
use Rattle.laws.specs.All.{AllOf, all_true, scan_all}
use Rattle.laws.specs.Lists.{replicate_tab}
use Rattle.laws.specs.Transposes.{symmetrise_diagonal}
use Rattle.demands.specs.Mirrored.{Mirrored, infs, MirroredRun, stays, left, later_stars}

-- ---- what stays as it is when it is symmetrised

module _ (m : ℕ) where
  none : Mirrored m (zeros (m * m))
  none = subst (Mirrored m) (sym (replicate_tab (m * m) 0 0ᶠ)) (stays m _ (symmetrise_diagonal m (λ i j. 0ᶠ) (λ i j h. refl)))

  flagged : (flags : List ℕ) → Mirrored m (start_inf m flags)
  unfolding start_inf start_inf_at
  flagged flags = stays m _ (symmetrise_diagonal m (start_inf_at flags) (λ i j h. ap (λ (b : Bool). cond (b && is_flagged flags i) 1ᶠ 0ᶠ) (ne_eqb i j h)))

  taken_up : (lasts : Bool) (a : List Float) → Mirrored m a → Mirrored m (entered m lasts a)
  unfolding entered
  taken_up true a h = h
  taken_up false a h = none

-- ---- forward

module _ (y : System) where
  run_infs : (gs : List (List Bool)) (t : ℕ) (c : Cov) → Mirrored y.m c.pinf → AllOf (Mirrored y.m) (infs (cov_run y t c gs))
  unfolding cov_run scan period_of ended stepped step_inf
  run_infs [] t c h = (h, tt)
  run_infs (g ∷ gs) t c h = (taken_up y.m (is_live y.m c.live c.pinf) c.pinf h, run_infs gs (suc t) (period y t c g).1 (left y.m _))

  run_filtered : (gs : List (List Bool)) (t : ℕ) (c : Cov) → AllOf (λ c. Mirrored y.m c.filt) (cov_run y t c gs).0
  unfolding cov_run period_of ended
  run_filtered gs t c = scan_all (period y) (λ g. Unit {0}) (λ c. Mirrored y.m c.filt) (λ t c g u. left y.m _) gs t c (all_true gs)

-- ---- and back

run_smoothed : (y : Frame) (cs : List CovPeriod) (t : ℕ) (n : Ns) → AllOf (Mirrored y.m) (scan_back (back_cov y) t n cs).0
unfolding scan_back back_cov_of back_v
run_smoothed y [] t n = tt
run_smoothed y (c ∷ cs) t n = (left y.m _, run_smoothed y cs (suc t) n)

-- of any model and any readings, refused or not
pub mirrored : (x : Model) (ks : List Class) → MirroredRun x ks
unfolding cov_of system_of system_from start_of start_from smooth_cov frame_of frame_from
mirrored x ks =
    let gs = gap_rows x.n x.p ks in
    record {
      star = later_stars (system_of x) gs 0 (start_of x);
      inf = run_infs (system_of x) gs 0 (start_of x) (flagged x.m x.flags);
      filtered = run_filtered (system_of x) gs 0 (start_of x);
      smoothed = run_smoothed (frame_of x) (cov_of x ks).0 0 _;
    }
