-- What a call hands the covariances' way back once refusals 1 and 2 have passed, and what the pass's run is in the call's outcome.
use Rattle.std.specs.Prelude.{◌≡◌, ℕ, ◌+◌, ◌*◌, ◌≤◌, Bool, length}
use Rattle.std.proofs.Math.Path.{ap}
use Rattle.std.proofs.Common.{◌∙◌}
use native.Mathlib.Omega.{arith}
use mathlib.Core.List.{List, map}
use Rattle.definition.specs.Run.{scan_back}
use Rattle.definition.specs.Cov.{CovPeriod}
use Rattle.definition.specs.Smooth.{back_cov, no_ns, smooth_cov}
use Rattle.definition.specs.Parts.{predCov, pred_inf, fStar, fInf, mStar, mInf}
use Rattle.definition.specs.Inputs.{Model, Offsets, frame_from, frame_of}
use Rattle.definition.specs.Outcome.{kinds_need, cov_need, smoothed_cov_need}
use Rattle.laws.specs.Flat.{Flat, look_of}
use Rattle.laws.specs.Backward.{cov_looked}
use Rattle.laws.specs.Accepted.{Accepted}
use Rattle.model.specs.Past.{design_fits, transition_fits}
use Rattle.cov_back.specs.View.{Ready}

module _ (x : Model) (o : Offsets) where
  -- the flat parts and the predicted covariances as long as the call's outputs have to be
  pub ready : {y : ℕ} {room : Bool} (pc pi : ℕ) (r : Flat) → Accepted x o y room → cov_need x predCov ≤ pc → cov_need x pred_inf ≤ pi → kinds_need x ≤ length r.kinds → cov_need x fStar ≤ length r.f_stars → cov_need x fInf ≤ length r.f_infs → cov_need x mStar ≤ length r.m_stars → cov_need x mInf ≤ length r.m_infs
      → Ready x.p x.m x.n (length x.z_once) (length x.z_list) (length x.t_once) (length x.t_list) pc pi r
  unfolding kinds_need cov_need
  ready pc pi r h hc hi ks fs fi ms mi =
      record {
        n4096 = h.sizes.n4096;
        design = design_fits h.sizes h.inputs;
        transition = transition_fits h.sizes h.inputs;
        pred = fewer (x.n * (x.m * x.m)) (x.m * x.m) hc;
        inf = fewer (x.n * (x.m * x.m)) (x.m * x.m) hi;
        ks = ks;
        fs = fs;
        fi = fi;
        ms = ms;
        mi = mi;
      }
    where
      fewer : (a b : ℕ) {c : ℕ} → a + b ≤ c → a ≤ c
      fewer a b h = omega arith

  -- the smoothed covariances as long as they have to be
  pub own_room : {out : ℕ} → smoothed_cov_need x ≤ out → x.n * (x.m * x.m) ≤ out
  unfolding smoothed_cov_need
  own_room h = h

  -- over looks that are those of cs: the outcome's run
  pub run_of : (cs : List CovPeriod) (ls : List CovPeriod) → ls ≡ map look_of cs → (scan_back (back_cov (frame_from x.p x.m x.z_once x.z_list x.t_once x.t_list)) 0 (no_ns x.m) ls).0 ≡ smooth_cov (frame_of x) cs
  unfolding frame_of frame_from
  run_of cs ls e = ap (λ (l : List CovPeriod). (scan_back (back_cov (frame_from x.p x.m x.z_once x.z_list x.t_once x.t_list)) 0 (no_ns x.m) l).0) e ∙ cov_looked (frame_of x) cs
