-- The sum of three, over what each call left.
use Rattle.element_back.proofs.Laws as laws
use Rattle.element_back.proofs.diffuse_n1.Goals as goal

pub returns : goal.returns
returns c = laws.diffuse_n1_lem _ _ _ _ _ _ _ _ _ _ _ c.outer_scaled-s.ensures c.add_quad.ensures c.add_quad-2.ensures
