-- By whether there is a pivot: without one nothing changes, and with one its column goes into its row.
use native.Mathlib.Omega.{arith}
use Rattle.star.proofs.InPlace as place
use Rattle.star.proofs.grow.Goals as goal

pub returns-then-j-k : goal.returns-then-j-k
returns-then-j-k c = place.grew_none _ _ _ _ _ _ c.find_pivot-b.ensures c.requires.1.1 c.if-j-k.true

pub column-col-requires : goal.column-col-requires
column-col-requires c = (c.requires.0, (place.at_free _ _ _ _ _ _ c.find_pivot-b.ensures c.requires.1.1 c.if-j-k.false).0)

pub set_row-requires : goal.set_row-requires
set_row-requires c = (c.requires.0, (place.at_free _ _ _ _ _ _ c.find_pivot-b.ensures c.requires.1.1 c.if-j-k.false).0)

pub bounds-used-j : goal.bounds-used-j
bounds-used-j c = omega (arith, c.requires.0, (place.at_free _ _ _ _ _ _ c.find_pivot-b.ensures c.requires.1.1 c.if-j-k.false).0)

pub returns : goal.returns
returns c = place.grew_more _ _ _ _ _ _ c.find_pivot-b.ensures c.requires.1.1 c.if-j-k.false (omega (arith, c.requires.0, c.requires.1.0)) c.sqrt.ensures c.column-col.ensures c.take_off.ensures c.set_row.ensures
