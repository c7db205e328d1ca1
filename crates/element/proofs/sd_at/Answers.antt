-- The root of the variance, or 0.
use Rattle.definition.specs.Cov.{sd_at}
use Rattle.element.proofs.sd_at.Goals as goal

pub returns : goal.returns
unfolding sd_at
returns c = cc
