-- Both products of T' N T.
use Rattle.cov_back.proofs.Laws as laws
use Rattle.cov_back.proofs.step.Goals as goal

pub returns : goal.returns
returns c = laws.by_t _ _ _ c.t_mul_into.ensures.result c.mul_into.ensures.result
