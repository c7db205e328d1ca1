-- The three diffuse terms, each off V.
use Rattle.cov_back.proofs.Laws as laws
use Rattle.cov_back.proofs.less_diffuse.Goals as goal

pub returns : goal.returns
returns c = laws.diffuse_less _ _ _ _ _ _ _ c.mul_into.ensures.result c.mul_into-2.ensures.result c.sub.ensures c.transpose-turned.ensures c.sub-2.ensures c.less_between.ensures
