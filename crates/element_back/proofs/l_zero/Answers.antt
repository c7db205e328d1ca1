-- Each entry is that of the definition, so the whole is.
use Rattle.dense.specs.Views.{vec}
use Rattle.definition.specs.Smooth.{l_zero, l_zero_at}
use Rattle.element_back.proofs.l_zero.Goals as goal

pub returns : goal.returns
unfolding l_zero
returns c = let a = c.args in c.matrix_into.ensures (l_zero_at (vec a.m a.k.now) (vec a.m a.z.now)) (λ i j v h k p. cc)
