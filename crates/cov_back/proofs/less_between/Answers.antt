-- V less the product of three.
use Rattle.cov_back.proofs.Laws as laws
use Rattle.cov_back.proofs.less_between.Goals as goal

pub returns : goal.returns
returns c = laws.less _ _ _ _ _ c.mul_into.ensures.result c.mul_into-2.ensures.result c.sub.ensures
