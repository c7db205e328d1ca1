-- By the test at each place.
use Rattle.std.proofs.Common.{rules}
use Rattle.definition.specs.Refusals.{negative_at, negative}
use Rattle.model.proofs.entries.negative.Goals as goal

pub returns : goal.returns
unfolding negative negative_at
returns c = c.any.ensures (negative_at c.args.k c.args.a.now) (λ i b h p. search rules)
