-- The product and h, or 0.
use Rattle.definition.specs.Cov.{f_star_by}
use Rattle.acceptance.proofs.Candidate.f_star.Goals as goal

pub returns : goal.returns
unfolding f_star_by
returns c = cc
