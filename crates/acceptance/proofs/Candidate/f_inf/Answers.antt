-- The product, or 0.
use Rattle.definition.specs.Cov.{f_inf_by}
use Rattle.acceptance.proofs.Candidate.f_inf.Goals as goal

pub returns : goal.returns
unfolding f_inf_by
returns c = cc
