-- Each entry is that of the column.
use lib.ListN.{take}
use Rattle.dense.specs.Views.{mat}
use Rattle.definition.specs.Star.{column, column_at}
use Rattle.star.proofs.column.Goals as goal

pub returns : goal.returns
unfolding column
returns c = let a = c.args in c.vector.ensures (column_at a.k (mat a.k a.a.now) (take a.k a.used.now) a.j a.sd) (λ i v h p. cc)
