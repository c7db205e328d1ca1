-- One column more, then all of them; and a look through the product.
use native.Mathlib.Omega.{arith}
use Rattle.dense.specs.Told.{told}
use Rattle.dense.proofs.Columns as cols
use Rattle.dense.proofs.mat_vec.Goals as goal

pub loop-j-init : goal.loop-j-init
loop-j-init c = (omega arith, cols.more_start _ 8 _ _ c.requires)

pub loop-j-preserved : goal.loop-j-preserved
loop-j-preserved c = (omega arith, cols.more_next _ _ _ _ _ _ c.loop-j.invariant.1 c.add_column_kept.ensures)

pub returns : goal.returns
returns c =
    let w = c.loop-j in
    told (cols.more_all _ _ _ _ w.invariant.1 w.invariant.0 c.loop-j-test.false) c.vector_not_finite.ensures
