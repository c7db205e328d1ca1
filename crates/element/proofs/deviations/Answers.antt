-- Each entry is a standard deviation, so the whole is.
use Rattle.dense.specs.Views.{mat}
use Rattle.definition.specs.Cov.{sd_of, sd_at}
use Rattle.element.proofs.deviations.Goals as goal

pub returns : goal.returns
unfolding sd_of
returns c = let a = c.args in c.vector.ensures (sd_at a.m (mat a.m a.pre.now)) (λ i v h p. cc)
