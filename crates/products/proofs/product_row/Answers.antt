-- One row more is added, then all of them.
use native.Mathlib.Omega.{arith}
use Rattle.products.proofs.Rows as rows
use Rattle.products.proofs.product_row.Goals as goal

pub loop-l-init : goal.loop-l-init
loop-l-init g c = (omega arith, rows.rows_start _ _ _ _ 8 c.requires.0)

pub loop-l-preserved : goal.loop-l-preserved
loop-l-preserved g c = (omega arith, rows.rows_next _ _ _ _ _ _ _ _ c.loop-l.invariant.1 c.at.ensures c.add_row.ensures)

pub returns : goal.returns
returns g c = rows.rows_all _ _ _ _ _ c.loop-l.invariant.1 c.loop-l.invariant.0 c.loop-l-test.false
