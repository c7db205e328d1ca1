-- By the test at each place.
use Rattle.std.proofs.Common.{rules}
use Rattle.definition.specs.Refusals.{driven_at, driven_row}
use Rattle.model.proofs.entries.driven_row.Goals as goal

pub returns : goal.returns
unfolding driven_row
returns c = let a = c.args in c.any.ensures (driven_at a.m a.t.now a.flags.now a.i) (λ j b h p. search rules)
