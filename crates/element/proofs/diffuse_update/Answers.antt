-- P* less two products, and P∞ less one.
use Rattle.element.proofs.Laws as laws
use Rattle.element.proofs.diffuse_update.Goals as goal

pub returns : goal.returns
returns c = record { star = laws.diffuse_star _ _ _ _ _ _ c.over-k0.ensures c.k1-k1.ensures c.outer_sub.ensures.result c.outer_sub-2.ensures.result; pinf = laws.diffuse_pinf _ _ _ _ c.over-k0.ensures c.outer_sub-3.ensures.result }
