-- N0 and N1 of a usual element, over what each call left.
use Rattle.element_back.proofs.Laws as laws
use Rattle.element_back.proofs.back_usual.Goals as goal

pub returns : goal.returns
returns c = laws.usual_n _ _ _ _ _ _ _ _ _ _ _ _ c.l_usual-l.ensures c.f_one.ensures c.usual_n0.ensures c.usual_n1.ensures
