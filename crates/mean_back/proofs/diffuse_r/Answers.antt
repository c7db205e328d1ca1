-- The element over what each call left.
use Rattle.mean_back.proofs.Laws as laws
use Rattle.mean_back.proofs.diffuse_r.Goals as goal

pub returns : goal.returns
returns c =
    laws.diffuse_r_lem _ _ _ _ _ _ _ _ _ _ _ _ _ _ _ _ _ c.f_one-g.ensures c.scaled-k0.ensures c.k_one-k1.ensures c.l_zero_t_vec-next0.ensures c.l_zero_t_vec-next1.ensures c.l_one_t_vec-cross.ensures c.axpy.ensures.result c.axpy-2.ensures.result
