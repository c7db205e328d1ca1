-- Each term is a product, so the sum is that of the products.
use Rattle.definition.specs.Dense.{dot, dot_at}
use Rattle.dense.specs.Views.{vec}
use Rattle.dense.proofs.dot.Goals as goal

pub returns : goal.returns
unfolding dot dot_at
returns c = let a = c.args in c.sum.ensures (dot_at (vec a.m a.a.now) (vec a.m a.b.now)) (λ i v h p. cc)
