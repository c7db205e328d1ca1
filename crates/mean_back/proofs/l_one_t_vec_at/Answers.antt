-- Each term is a product with the definition's entry, so the sum is that of the products.
use Rattle.definition.specs.Dense.{mat_tVec_at, mat_tVec_term}
use Rattle.definition.specs.Smooth.{l_one, l_one_at}
use Rattle.dense.specs.Views.{vec}
use Rattle.mean_back.proofs.Laws as laws
use Rattle.mean_back.proofs.l_one_t_vec_at.Goals as goal

pub returns : goal.returns
unfolding mat_tVec_at l_one
returns c =
    let a = c.args in
    let l = l_one a.m (vec a.m a.k.now) (vec a.m a.z.now) in
    c.sum.ensures (mat_tVec_term a.m l (vec a.m a.r.now) a.j) (λ i v h p. laws.term a.m i a.j (l_one_at (vec a.m a.k.now) (vec a.m a.z.now)) _ h c.requires.1 (cc))
