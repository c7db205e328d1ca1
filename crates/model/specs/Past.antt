-- A call past refusals 1 and 2 may ask for the later ones, the design, the transition and the start; past 5, for the noise.
use Rattle.std.specs.Prelude.{◌≡◌, ◌||◌, length}
use Rattle.definition.specs.Inputs.{Model, Offsets}
use Rattle.definition.specs.Refusals.{first_of, of_system, bad_system, not_finite}
use Rattle.laws.specs.Any.{either_false}
use Rattle.laws.specs.Numbered.{first_none}
use Rattle.laws.specs.Accepted.{InRange, InputsFit}
use Rattle.model.specs.Places.{Square, NoiseFits, StartFits, SystemFits, StartGiven, StepFits}
use Rattle.model.specs.Noise.{NoiseGiven}
use Rattle.model.specs.Lists.{PartFits}

module _ {x : Model} {o : Offsets} (sizes : InRange x.p x.m x.r x.n) (inputs : InputsFit x o) where
  pub design_fits : PartFits x.p x.m (length x.z_once) (length x.z_list)
  design_fits = record { p0 = sizes.p0; p8 = sizes.p8; m0 = sizes.m0; m8 = sizes.m8; chosen = inputs.design }

  pub transition_fits : PartFits x.m x.m (length x.t_once) (length x.t_list)
  transition_fits = record { p0 = sizes.m0; p8 = sizes.m8; m0 = sizes.m0; m8 = sizes.m8; chosen = inputs.transition }

  pub noise_fits : NoiseFits x.m x.r (length x.rr) (length x.q)
  noise_fits = record { m8 = sizes.m8; r8 = sizes.r8; rr = inputs.rr; q = inputs.q }

  pub start_fits : StartFits x.m (length x.p_star) (length x.flags)
  start_fits = record { m8 = sizes.m8; p* = inputs.p_star; flags = inputs.flags }

  pub h_fits : Square x.p (length x.h)
  h_fits = record { most = sizes.p8; whole = inputs.h }

  pub system_fits : SystemFits x.p x.r (length x.h) (length x.q)
  system_fits = record { h = h_fits; q = record { most = sizes.r8; whole = inputs.q } }

  pub start_given : StartGiven x.m (length o.a1) (length x.p_star) (length x.flags)
  start_given = record { p* = record { most = sizes.m8; whole = inputs.p_star }; a1 = inputs.a1; flags = inputs.flags }

  pub step_fits : StepFits x.m (length x.t_once) (length x.t_list) (length x.flags)
  step_fits = record { t = transition_fits; flags = inputs.flags }

  pub noise_given : first_of (of_system x) ≡ 0 → NoiseGiven x.m x.r x.rr x.q
  unfolding bad_system
  noise_given e =
      let s = first_none (of_system x) tt e in
      let before = not_finite x.z_once || not_finite x.z_list || not_finite x.h || not_finite x.t_once || not_finite x.t_list in
      let a = either_false (before || not_finite x.rr) (not_finite x.q) s.0 in
      record { fits = noise_fits; finite = (either_false before (not_finite x.rr) a.0).1; diagonal = s.1.1.0 }
