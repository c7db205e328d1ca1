-- Document 02, request g: which T a step takes. Out of period t, and back from t + 1 to t, in the covariances and in the means, it is the T of t
-- (`forward`, `back`): entry t of a list (`listed`), and the one matrix where T is constant (`constant`).
use Rattle.std.specs.Prelude.{◌≡◌, refl, ℕ, suc, ◌*◌, ◌<◌, length, get_or, Float}
use Rattle.std.proofs.Math.Path.{ap}
use Rattle.std.proofs.Common.{mul-pos, arith}
use mathlib.Core.List.{List, []}
use Rattle.definition.specs.Run.{join}
use Rattle.definition.specs.Cov.{period, period_of}
use Rattle.definition.specs.Mean.{Shift, mean_period, mean_period_of}
use Rattle.definition.specs.Smooth.{back_cov, back_cov_of, back_mean, back_mean_of}
use Rattle.definition.specs.Inputs.{Model, noise, design_from, transition_from, system_from, system_of, frame_from, frame_of}
use Rattle.laws.specs.Lists.{Each}
use Rattle.laws.specs.Entries.{entry, led_into, part_once}

abbrev pub step_of : Model → ℕ → List Float
step_of x t = transition_from x.m x.t_once x.t_list t

abbrev pub design_of : Model → ℕ → List Float
design_of x t = design_from x.p x.m x.z_once x.z_list t

module _ (x : Model) (t : ℕ) where
  pub forward : (period (system_of x) t ≡ period_of x.p x.m x.h (step_of x t) (noise x) (design_of x t))
      × ((o : Shift) → mean_period (frame_of x) o t ≡ mean_period_of x.m (step_of x t) o.c o.d (design_of x t))
  unfolding system_of system_from frame_of frame_from
  forward = (refl, λ o. refl)

  pub back : (back_cov (frame_of x) (suc t) ≡ back_cov_of x.m (step_of x t) (design_of x (suc t)))
      × (back_mean (frame_of x) (suc t) ≡ back_mean_of x.m (step_of x t) (design_of x (suc t)))
  unfolding system_of system_from frame_of frame_from
  back = (
    ap (λ (l : List Float). back_cov_of x.m l (design_of x (suc t))) (led_into x t),
    ap (λ (l : List Float). back_mean_of x.m l (design_of x (suc t))) (led_into x t),
  )

  pub listed : (ls : List (List Float)) → Each (x.m * x.m) ls → x.t_list ≡ join ls → 0 < x.m → t < length ls → step_of x t ≡ get_or ls t []
  listed ls each e m0 h = rw e (entry (x.m * x.m) (mul-pos m0 m0) x.t_once ls each (omega arith) t h)

  pub constant : x.t_list ≡ [] → step_of x t ≡ x.t_once
  constant e = part_once (x.m * x.m) x.t_once x.t_list t (ap length e)
