-- What a call hands the way back through the means once refusals 1 and 2 have passed, and what the pass's run is in the call's outcome.
use Rattle.std.specs.Prelude.{◌≡◌, ℕ, ◌+◌, ◌*◌, ◌≤◌, Bool, length, Float}
use Rattle.std.proofs.Math.Path.{ap₂}
use Rattle.std.proofs.Common.{◌∙◌, arith}
use Rattle.std.proofs.Math.Nat.{mul_assoc}
use mathlib.Core.List.{List, map}
use Rattle.definition.specs.Run.{scan_back, pairs}
use Rattle.definition.specs.Cov.{CovPeriod}
use Rattle.definition.specs.Mean.{MeanPeriod}
use Rattle.definition.specs.Smooth.{back_mean, no_rs, smooth_mean}
use Rattle.definition.specs.Parts.{predCov, pred_inf, fStar, fInf, mStar, mInf, predMean, innovations}
use Rattle.definition.specs.Inputs.{Model, Offsets, frame_from, frame_of}
use Rattle.definition.specs.Outcome.{kinds_need, cov_need, mean_need, smoothed_mean_need}
use Rattle.laws.specs.Flat.{Flat, look_of, mean_look_of, looks, mean_looks}
use Rattle.laws.specs.Backward.{mean_looked}
use Rattle.laws.specs.Accepted.{Accepted}
use Rattle.model.specs.Past.{design_fits, transition_fits}
use Rattle.mean_back.specs.View.{looked, Periods}

fewer : (a b : ℕ) {c : ℕ} → a + b ≤ c → a ≤ c
fewer a b h = omega arith

module _ (x : Model) (o : Offsets) where
  -- the parts as long as the call's outputs have to be: the predicted means, P, P∞, v, the records, the smoothed means
  pub ready : {y : ℕ} {room : Bool} (pm pc pi v : ℕ) (r : Flat) (sm : ℕ) → Accepted x o y room → mean_need x predMean ≤ pm → cov_need x predCov ≤ pc → cov_need x pred_inf ≤ pi → mean_need x innovations ≤ v
      → kinds_need x ≤ length r.kinds → cov_need x fStar ≤ length r.f_stars → cov_need x fInf ≤ length r.f_infs → cov_need x mStar ≤ length r.m_stars → cov_need x mInf ≤ length r.m_infs → smoothed_mean_need x ≤ sm
      → Periods x.p x.m x.n (length x.z_once) (length x.z_list) (length x.t_once) (length x.t_list) pm pc pi v r sm
  unfolding kinds_need cov_need mean_need smoothed_mean_need
  ready pm pc pi v r sm h hm hc hi hv ks fs fi ms mi hs =
      record {
        n4096 = h.sizes.n4096;
        design = design_fits h.sizes h.inputs;
        transition = transition_fits h.sizes h.inputs;
        means = fewer (x.n * x.m) x.m hm;
        covs = fewer (x.n * (x.m * x.m)) (x.m * x.m) hc;
        infs = fewer (x.n * (x.m * x.m)) (x.m * x.m) hi;
        news = hv;
        holds = record { ks = ks; fs = fs; fi = fi; ms = rw mul_assoc ms; mi = rw mul_assoc mi };
        room = hs;
      }

  -- over parts from which the looks of cs and ss are read back: the outcome's run
  pub run_of : (cs : List CovPeriod) (ss : List MeanPeriod) (dd : ℕ) (pm pc pi vs : List Float) (r : Flat) → looks x.n x.p x.m dd pc pi r ≡ map look_of cs → mean_looks x.n x.p x.m pm vs ≡ map mean_look_of ss
      → (scan_back (back_mean (frame_from x.p x.m x.z_once x.z_list x.t_once x.t_list)) 0 (no_rs x.m) (looked x.n x.p x.m dd pm pc pi vs r)).0 ≡ smooth_mean (frame_of x) cs ss
  unfolding frame_of frame_from
  run_of cs ss dd pm pc pi vs r e h =
      ap₂ (λ (l : List CovPeriod) (k : List MeanPeriod). (scan_back (back_mean (frame_from x.p x.m x.z_once x.z_list x.t_once x.t_list)) 0 (no_rs x.m) (pairs l k)).0) e h ∙ mean_looked (frame_of x) cs ss
