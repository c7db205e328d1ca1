-- Each term is that of the definition, so the sum is.
use Rattle.dense.specs.Views.{vec}
use Rattle.definition.specs.Cov.{bound, bound_term}
use Rattle.acceptance.proofs.bound.Goals as goal

pub returns : goal.returns
unfolding bound bound_term
returns c = let a = c.args in c.sum.ensures (bound_term (vec a.m a.z.now) (vec a.m a.sd.now)) (λ i v h p. cc)
