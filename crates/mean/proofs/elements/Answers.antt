-- Each element carries the loop one element on; at the end it is the scan.
use Rattle.mean.proofs.Laws as laws
use Rattle.mean.proofs.elements.Goals as goal

pub loop-i-init : goal.loop-i-init
loop-i-init c = laws.along_none _ _ _ _ _ _ _ _ _ c.requires.vs

pub loop-i-preserved : goal.loop-i-preserved
loop-i-preserved c = laws.along_next _ _ _ _ _ _ _ _ c.loop-i.invariant c.loop-i-test.true c.requires.readings (laws.v_written _ _ _ _ _ _ _ c.hear-r.ensures c.from.ensures)

pub returns : goal.returns
returns c = laws.along_all _ _ _ _ _ _ _ _ c.loop-i.invariant c.loop-i-test.false c.requires.readings
