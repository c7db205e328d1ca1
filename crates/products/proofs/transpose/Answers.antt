-- Each entry is that of the transpose.
use Rattle.definition.specs.Dense.{transpose, transpose_at}
use Rattle.dense.specs.Views.{rect}
use Rattle.products.proofs.transpose.Goals as goal

pub returns : goal.returns
unfolding transpose transpose_at
returns c = let a = c.args in c.matrix_into.ensures (transpose_at a.c (rect a.r a.c a.a.now)) (λ i j v h k p. cc)
