-- T P∞ T', then symmetrised.
use Rattle.period.proofs.Whole as whole
use Rattle.period.proofs.step_inf.Goals as goal

pub returns : goal.returns
returns c = whole.stepped_inf _ _ _ c.sandwich_in_place.ensures c.symmetrize_in_place.ensures
