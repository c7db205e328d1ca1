-- Each turn grows the factor as the definition does; the columns in order are the root.
use native.Mathlib.Omega.{arith}
use Rattle.star.proofs.InPlace as place
use Rattle.star.proofs.pivoted_root.Goals as goal

pub loop-init : goal.loop-init
loop-init c = (omega arith, omega arith, place.placed_none _ c.requires, place.held_seed _ _ _ c.requires)

pub grow-rank-requires : goal.grow-rank-requires
grow-rank-requires c = (c.requires, (omega (arith, c.loop.invariant.1, c.loop-test.true), c.loop.invariant.2))

pub loop-preserved : goal.loop-preserved
loop-preserved c = (omega arith, omega (arith, c.grow-rank.ensures.few, c.loop.invariant.1), c.grow-rank.ensures.placed, place.held_next _ _ c.loop.counter _ _ _ _ _ _ _ _ c.loop.invariant.3 c.grow-rank.ensures)

pub arrange-requires : goal.arrange-requires
arrange-requires c = (c.requires, (omega (arith, c.loop.invariant.1, c.loop.invariant.0), c.loop.invariant.2.rows))

pub returns : goal.returns
returns c = (place.held_root _ c.loop.counter _ _ _ _ _ _ c.loop.invariant.3 c.loop.invariant.0 c.loop-test.false c.arrange.ensures, omega (arith, c.loop.invariant.1, c.loop.invariant.0))
