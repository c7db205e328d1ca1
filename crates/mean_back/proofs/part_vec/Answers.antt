-- Each entry is that of the product, so the whole is.
use Rattle.definition.specs.Dense.{mat_vec, mat_vec_at}
use Rattle.dense.specs.Views.{vec}
use Rattle.mean_back.proofs.part_vec.Goals as goal

pub returns : goal.returns
unfolding mat_vec
returns c = let a = c.args in c.vector.ensures (mat_vec_at a.m a.a.now (vec a.m a.x.now)) (λ i v h p. cc)
