-- The step is the two products of the definition.
use Rattle.definition.specs.Smooth.{step_rs}
use Rattle.mean_back.proofs.step_back.Goals as goal

pub returns : goal.returns
unfolding step_rs
returns c = cc
