-- One column more, then all of them; and a look through the matrix.
use native.Mathlib.Omega.{arith}
use Rattle.dense.specs.Told.{told}
use Rattle.dense.proofs.Laws as laws
use Rattle.dense.proofs.Columns as cols
use Rattle.dense.proofs.outer_sub.Goals as goal

pub loop-j-init : goal.loop-j-init
loop-j-init c = (omega arith, cols.less_start _ _ _ _ (omega (arith, c.told-p, laws.area c.requires c.requires)))

pub loop-j-preserved : goal.loop-j-preserved
loop-j-preserved c = (omega arith, cols.less_next _ _ _ _ c.loop-j-test.true _ _ _ c.loop-j.invariant.1 c.sub_column_kept.ensures)

pub returns : goal.returns
returns c =
    let w = c.loop-j in
    told (cols.less_all _ _ _ _ _ w.invariant.1 w.invariant.0 c.loop-j-test.false) c.matrix_not_finite.ensures
