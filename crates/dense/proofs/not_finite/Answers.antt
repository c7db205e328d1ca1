-- By the test of each entry.
use Rattle.std.proofs.Common.{rules}
use Rattle.definition.specs.Refusals.{unfit}
use Rattle.dense.proofs.not_finite.Goals as goal

pub returns : goal.returns
returns c = c.any_of.ensures unfit (λ v b p. search rules)
