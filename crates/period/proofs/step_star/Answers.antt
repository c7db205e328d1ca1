-- T P* T', the sum, then symmetrised.
use Rattle.period.proofs.Whole as whole
use Rattle.period.proofs.step_star.Goals as goal

pub returns : goal.returns
returns c = whole.stepped_star _ _ _ _ c.sandwich_in_place.ensures c.add.ensures c.symmetrize_in_place.ensures
