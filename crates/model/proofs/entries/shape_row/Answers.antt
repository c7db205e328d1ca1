-- By the test at each place.
use Rattle.std.proofs.Common.{rules}
use Rattle.definition.specs.Refusals.{shape_at, shape_row}
use Rattle.model.proofs.entries.shape_row.Goals as goal

pub returns : goal.returns
unfolding shape_row
returns c = let x = c.args.x.now in c.any.ensures (shape_at x.m x.p_star.now x.flags.now c.args.i) (λ j b h p. search rules)
