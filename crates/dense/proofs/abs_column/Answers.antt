-- Each term is that of the column.
use Rattle.definition.specs.Dense.{abs_term}
use Rattle.dense.specs.Views.{vec, mat}
use Rattle.dense.proofs.abs_column.Goals as goal

pub returns : goal.returns
unfolding abs_term
returns c = let a = c.args in c.sum_more.ensures (abs_term a.m (vec a.m a.z.now) (mat a.m a.a.now) a.j) (λ i v h p. cc)
