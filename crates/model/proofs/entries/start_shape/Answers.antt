-- By the flags, and the test of each state.
use mathlib.Core.Path.{ap₂}
use mathlib.Core.Bool.{◌||◌}
use Rattle.std.proofs.Common.{rules}
use Rattle.definition.specs.Refusals.{shape_of, start_shape}
use Rattle.model.proofs.entries.start_shape.Goals as goal

pub returns : goal.returns
unfolding start_shape
returns c =
    let x = c.args.x.now in
    ap₂ ◌||◌ c.bad_flag.ensures (c.any.ensures (shape_of x.m x.p_star.now x.flags.now c.args.a1.now) (λ i b h p. search rules))
