-- Each turn puts one column into its row; after the last all stand in order.
use native.Mathlib.Omega.{arith}
use lib.Seq.{length-take-le}
use Rattle.dense.specs.Views.{rect}
use Rattle.laws.specs.Sizes.{square_le}
use Rattle.star.proofs.InPlace as place
use Rattle.star.proofs.arrange.Goals as goal

pub loop-l-init : goal.loop-l-init
unfolding rect
loop-l-init c = (omega arith, place.arranged_none _ _ _ _ (length-take-le _ _ (omega (arith, c.told-work, square_le c.args.k c.requires.0))) c.requires.1.1)

pub offset_bounds-order-l : goal.offset_bounds-order-l
offset_bounds-order-l c = omega (arith, c.requires.0, c.requires.1.0, c.loop-l-test.true)

pub bounds-order-l : goal.bounds-order-l
bounds-order-l c = omega (arith, c.requires.0, c.requires.1.0, c.loop-l-test.true)

pub exchange-requires : goal.exchange-requires
exchange-requires c =
    let low = c.loop-l.invariant.1.rows.below _ c.loop-l-test.true in
    record { size = c.requires.0; row = omega (arith, c.requires.1.0, c.loop-l-test.true, low); col = omega (arith, c.requires.1.0, c.loop-l-test.true, low) }

pub renumber-requires : goal.renumber-requires
renumber-requires c = (omega (arith, c.requires.0, c.requires.1.0), c.loop-l.invariant.1.rows.room)

pub loop-l-preserved : goal.loop-l-preserved
loop-l-preserved c = (omega arith, place.arranged_next _ _ _ _ c.loop-l.l _ _ _ _ c.loop-l.invariant.1 c.loop-l-test.true c.requires.1.0 c.exchange.ensures c.renumber.ensures)

pub returns : goal.returns
returns c = place.arranged_end _ _ _ _ c.loop-l.l _ _ c.loop-l.invariant.1 c.loop-l-test.false c.requires.1.0
