-- The term of the log-likelihood, by the definition.
use Rattle.definition.specs.Mean.{diffuse_term}
use Rattle.mean.proofs.diffuse_term.Goals as goal

pub returns : goal.returns
unfolding diffuse_term
returns c = cc
