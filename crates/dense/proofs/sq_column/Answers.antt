-- Each term is a square.
use Rattle.definition.specs.Dense.{sq_term}
use Rattle.dense.specs.Views.{mat}
use Rattle.dense.proofs.sq_column.Goals as goal

pub returns : goal.returns
unfolding sq_term
returns c = let a = c.args in c.sum_more.ensures (sq_term a.m (mat a.m a.a.now) a.j) (λ i v h p. cc)
