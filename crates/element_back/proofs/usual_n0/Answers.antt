-- L' N0 L in place, and the outer product added to it.
use Rattle.element_back.proofs.Laws as laws
use Rattle.element_back.proofs.usual_n0.Goals as goal

pub returns : goal.returns
returns c = laws.usual_n0_lem _ _ _ _ _ _ _ _ _ c.t_mul_into.ensures.result c.mul_into.ensures.result c.outer_scaled-s.ensures c.add.ensures
