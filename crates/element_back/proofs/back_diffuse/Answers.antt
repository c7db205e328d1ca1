-- N0, N1 and N2 of a diffuse element, over what each call left.
use Rattle.element_back.proofs.Laws as laws
use Rattle.element_back.proofs.back_diffuse.Goals as goal

pub returns : goal.returns
returns c = λ live. laws.diffuse_n _ _ _ _ _ _ live _ _ _ _ _ _ _ _ _ _ c.l_usual-l0.ensures c.l_diffuse-l1.ensures c.f_one.ensures c.f_two.ensures c.diffuse_n2-s.ensures c.diffuse_n1-s.ensures c.quad-s.ensures
