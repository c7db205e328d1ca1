-- Each entry is a product, so the whole is.
use Rattle.definition.specs.Dense.{outer_scaled, outer_scaled_at}
use Rattle.dense.specs.Views.{vec}
use Rattle.dense.proofs.outer_scaled.Goals as goal

pub returns : goal.returns
unfolding outer_scaled outer_scaled_at
returns c = let a = c.args in c.matrix_into.ensures (outer_scaled_at (vec a.m a.a.now) (vec a.m a.b.now) a.s) (λ i j v h k p. cc)
