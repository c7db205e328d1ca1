-- The term of the log-likelihood, by the definition.
use Rattle.definition.specs.Mean.{usual_term}
use Rattle.mean.proofs.usual_term.Goals as goal

pub returns : goal.returns
unfolding usual_term
returns c = cc
