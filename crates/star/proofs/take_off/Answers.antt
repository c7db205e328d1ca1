-- Each entry is what the column leaves of it.
use lib.ListN.{take}
use Rattle.dense.specs.Views.{vec}
use Rattle.definition.specs.Star.{left_at}
use Rattle.star.specs.Workspace.{left_by, left_free}
use Rattle.star.proofs.take_off.Goals as goal

pub returns : goal.returns
unfolding left_by left_free left_at
returns c = let a = c.args in c.change.ensures (left_by (take a.k a.used.now) (vec a.k a.col.now)) (λ x i j v h k p. cc)
