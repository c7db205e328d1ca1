-- By the test at each place.
use Rattle.std.proofs.Common.{rules}
use Rattle.definition.specs.Refusals.{driven_row, mixed_driven}
use Rattle.model.proofs.entries.mixed_driven.Goals as goal

pub returns : goal.returns
unfolding mixed_driven
returns c = let a = c.args in c.any.ensures (driven_row a.m a.t.now a.flags.now) (λ i b h p. search rules)
