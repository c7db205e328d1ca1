-- Each term is a product, so the sum is that of the products.
use Rattle.definition.specs.Dense.{mat_tVec_at, mat_tVec_term}
use Rattle.dense.specs.Views.{vec, mat}
use Rattle.dense.proofs.mat_t_vec_at.Goals as goal

pub returns : goal.returns
unfolding mat_tVec_at mat_tVec_term
returns c = let a = c.args in c.sum.ensures (mat_tVec_term a.m (mat a.m a.a.now) (vec a.m a.x.now) a.j) (λ i v h p. cc)
