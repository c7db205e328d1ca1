-- The places of row i are written one after the other; then the row is x.
use native.Mathlib.Omega.{arith}
use mathlib.Core.Path.{refl, ◌∙◌}
use Rattle.dense.proofs.Laws as laws
use Rattle.laws.specs.Sizes.{square_le}
use Rattle.star.proofs.InPlace as place
use Rattle.star.proofs.set_row.Goals as goal

pub loop-j-init : goal.loop-j-init
loop-j-init c = (omega arith, laws.row_none _ _ _ _ refl)

pub put-requires : goal.put-requires
put-requires c = record { size = c.requires.0; row = c.requires.1; col = c.loop-j-test.true }

pub loop-j-preserved : goal.loop-j-preserved
loop-j-preserved c = (omega arith, c.put.ensures ∙ laws.row_next _ _ _ _ _ _ _ refl c.loop-j.invariant.1 c.nth-v.ensures)

pub returns : goal.returns
returns c = place.row_set _ _ _ _ _ c.requires.1 (omega (arith, c.told-work, square_le c.args.k c.requires.0)) (laws.row_end _ _ _ c.loop-j.invariant.1 c.loop-j.invariant.0 c.loop-j-test.false)
