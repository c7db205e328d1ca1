-- Each entry is that of the product, so the whole is.
use Rattle.definition.specs.Dense.{mat_tVec, mat_tVec_at}
use Rattle.dense.specs.Views.{vec, mat}
use Rattle.dense.proofs.mat_t_vec.Goals as goal

pub returns : goal.returns
unfolding mat_tVec
returns c = let a = c.args in c.vector.ensures (mat_tVec_at a.m (mat a.m a.a.now) (vec a.m a.x.now)) (λ i v h p. cc)
