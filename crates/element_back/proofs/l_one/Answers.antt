-- Each entry is that of the definition, so the whole is.
use Rattle.dense.specs.Views.{vec}
use Rattle.definition.specs.Smooth.{l_one, l_one_at}
use Rattle.element_back.proofs.l_one.Goals as goal

pub returns : goal.returns
unfolding l_one
returns c = let a = c.args in c.matrix_into.ensures (l_one_at (vec a.m a.k.now) (vec a.m a.z.now)) (λ i j v h k p. cc)
