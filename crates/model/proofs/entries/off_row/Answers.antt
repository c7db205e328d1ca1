-- By the test at each place.
use Rattle.std.proofs.Common.{rules}
use Rattle.definition.specs.Refusals.{off_at, off_row}
use Rattle.model.proofs.entries.off_row.Goals as goal

pub returns : goal.returns
unfolding off_row
returns c = c.any.ensures (off_at c.args.k c.args.a.now c.args.i) (λ j b h p. search rules)
