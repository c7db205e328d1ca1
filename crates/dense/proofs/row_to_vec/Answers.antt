-- Each entry is one of the row.
use Rattle.definition.specs.Dense.{row, row_at}
use Rattle.dense.specs.Views.{rect}
use Rattle.dense.proofs.row_to_vec.Goals as goal

pub returns : goal.returns
unfolding row row_at
returns c = let a = c.args in c.vector.ensures (row_at a.m (rect a.p a.m a.a.now) a.i) (λ j v h p. cc)
