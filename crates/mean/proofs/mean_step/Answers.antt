-- The step is the product and the sum of the definition.
use Rattle.definition.specs.Mean.{mean_step}
use Rattle.mean.proofs.mean_step.Goals as goal

pub returns : goal.returns
unfolding mean_step
returns c = cc
