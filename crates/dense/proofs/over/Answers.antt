-- Each entry is a quotient, so the whole is.
use Rattle.definition.specs.Dense.{over, over_at}
use Rattle.dense.specs.Views.{vec}
use Rattle.dense.proofs.over.Goals as goal

pub returns : goal.returns
unfolding over over_at
returns c = c.vector.ensures (over_at (vec c.args.m c.args.x.now) c.args.s) (λ i v h p. cc)
