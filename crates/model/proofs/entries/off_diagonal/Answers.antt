-- By the test at each place.
use Rattle.std.proofs.Common.{rules}
use Rattle.definition.specs.Refusals.{off_row, off_diagonal}
use Rattle.model.proofs.entries.off_diagonal.Goals as goal

pub returns : goal.returns
unfolding off_diagonal
returns c = c.any.ensures (off_row c.args.k c.args.a.now) (λ i b h p. search rules)
