-- F* against its scale.
use Rattle.acceptance.proofs.Laws as laws
use Rattle.acceptance.proofs.Candidate.is_scaled.Goals as goal

pub returns : goal.returns
returns c = laws.scaled_by _ _ _ _ _ c.abs_quad_form.ensures
