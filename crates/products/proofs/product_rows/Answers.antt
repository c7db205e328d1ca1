-- Each entry is copied from its row, so each row is that of the product, and the whole.
use native.Mathlib.Omega.{arith}
use mathlib.Core.Path.{refl, ◌∙◌}
use Rattle.definition.specs.Dense.{product_at, product}
use Rattle.dense.proofs.Laws as laws
use Rattle.products.proofs.Rows as rows
use Rattle.products.proofs.product_rows.Goals as goal

pub loop-i-init : goal.loop-i-init
loop-i-init g c = (omega arith, laws.grid_none _ _ _ _ refl)

pub loop-j-init : goal.loop-j-init
loop-j-init g c = (omega arith, laws.row_none _ _ _ _ refl)

pub loop-j-preserved : goal.loop-j-preserved
loop-j-preserved g c = (omega arith, c.put.ensures ∙ laws.row_next _ _ _ _ _ _ _ refl c.loop-j.invariant.1 (rows.row_entry _ _ _ _ _ _ c.loop-j-test.true c.product_row-r.ensures c.nth.ensures))

pub loop-i-preserved : goal.loop-i-preserved
loop-i-preserved g c = (omega arith, laws.grid_next (product_at _ _ _ _) _ _ _ _ _ _ c.loop-j.invariant.1 c.loop-i.invariant.1 c.loop-j.invariant.0 c.loop-j-test.false)

pub returns : goal.returns
unfolding product
returns g c = laws.rect-grid _ _ _ _ _ (omega (arith, c.told-out, laws.area c.requires c.requires)) (laws.grid_end _ _ _ c.loop-i.invariant.1 c.loop-i.invariant.0 c.loop-i-test.false)
