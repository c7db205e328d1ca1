-- The state's five parts one after the other, then the log-likelihood's bits.
use mathlib.Core.Path.{ap, ◌∙◌}
use native.Mathlib.Omega.{arith}
use Rattle.definition.specs.Saved.{other_nan}
use Rattle.saved.proofs.Refused.{floats_are}
use Rattle.saved.proofs.Loads.{loads}
use Rattle.saved.proofs.load_state.Goals as goal

pub load_floats-root-requires : goal.load_floats-root-requires
load_floats-root-requires c = (omega (arith, c.places_of-at.ensures.root_is, c.requires.1), omega (arith, c.requires.2, c.load_floats-mean.auto.state, c.load_floats-star.auto.state, c.load_floats-p_inf.auto.state))

pub overflow_add-at-4 : goal.overflow_add-at-4
overflow_add-at-4 c = omega (arith, c.places_of-at.ensures.unres_is, c.places_of-at.ensures.small, c.requires.0)

pub overflow_add-m-4 : goal.overflow_add-m-4
overflow_add-m-4 c = omega (arith, c.places_of-at.ensures.small, c.requires.0)

pub overflow_add-m-5 : goal.overflow_add-m-5
overflow_add-m-5 c = omega (arith, c.places_of-at.ensures.small, c.requires.0)

pub overflow_add-m-6 : goal.overflow_add-m-6
overflow_add-m-6 c = omega (arith, c.places_of-at.ensures.small, c.requires.0)

pub load_floats-unres-requires : goal.load_floats-unres-requires
load_floats-unres-requires c = (omega (arith, c.places_of-at.ensures.unres_is, c.requires.1), omega (arith, c.requires.2, c.load_floats-mean.auto.state, c.load_floats-star.auto.state, c.load_floats-p_inf.auto.state, c.load_floats-root.auto.state))

pub overflow_add-at-5 : goal.overflow_add-at-5
overflow_add-at-5 c = omega (arith, c.places_of-at.ensures.loglik_is, c.places_of-at.ensures.small, c.requires.0)

pub eight-requires : goal.eight-requires
eight-requires c = omega (arith, c.places_of-at.ensures.loglik_is, c.requires.1)

pub returns : goal.returns
returns c =
    let s = c.places_of-at.ensures in
    let bs = c.args.saved.now in (
      rw (c.load_floats-mean.ensures.0, c.load_floats-star.ensures.0, c.load_floats-p_inf.ensures.0, c.load_floats-root.ensures.0, c.load_floats-unres.ensures.0, c.other_nan-loglik.ensures ∙ ap other_nan c.eight.ensures)
          (floats_are s bs),
      loads s bs _ _ _ _ _ _ c.requires.2 c.load_floats-mean.ensures.1 c.load_floats-star.ensures.1 c.load_floats-p_inf.ensures.1 c.load_floats-root.ensures.1 c.load_floats-unres.ensures.1,
    )
