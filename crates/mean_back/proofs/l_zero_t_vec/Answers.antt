-- Each entry is that of the product, so the whole is.
use Rattle.definition.specs.Dense.{mat_tVec, mat_tVec_at}
use Rattle.definition.specs.Smooth.{l_zero}
use Rattle.dense.specs.Views.{vec}
use Rattle.mean_back.proofs.l_zero_t_vec.Goals as goal

pub returns : goal.returns
unfolding mat_tVec
returns c = let a = c.args in c.vector.ensures (mat_tVec_at a.m (l_zero a.m (vec a.m a.k.now) (vec a.m a.z.now)) (vec a.m a.r.now)) (λ j v h p. cc)
