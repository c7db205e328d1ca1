-- Each element carries the loop one element down; at the end it is the fold.
use Rattle.laws.specs.Backward.{up}
use Rattle.cov_back.proofs.Laws as laws
use Rattle.cov_back.proofs.elements.Goals as goal

pub loop-i-init : goal.loop-i-init
loop-i-init c = laws.along_none _ _ _ _ _ _ _

pub loop-i-preserved : goal.loop-i-preserved
loop-i-preserved c = laws.along_next _ _ _ _ _ _ _ c.loop-i.invariant (up c.loop-i-test.true) c.element.ensures

pub returns : goal.returns
returns c = laws.along_all _ _ _ _ _ _ _ c.loop-i.invariant c.loop-i-test.false
