-- The places in use are looked through.
use Rattle.dense.specs.Views.{vec}
use Rattle.dense.proofs.vector_not_finite.Goals as goal

pub returns : goal.returns
unfolding vec
returns c = c.not_finite.ensures
