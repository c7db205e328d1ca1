-- Each term is that of the definition, so the sum is.
use Rattle.definition.specs.Dense.{dot, dot_at}
use Rattle.dense.specs.Views.{vec}
use Rattle.mean.proofs.row_dot.Goals as goal

pub returns : goal.returns
unfolding dot dot_at
returns c = let a = c.args in c.sum.ensures (dot_at a.z.now (vec a.m a.a.now)) (λ i v h p. cc)
