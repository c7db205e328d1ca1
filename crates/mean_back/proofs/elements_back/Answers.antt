-- Each element carries the loop one element down; at the end it is the fold.
use Rattle.mean_back.proofs.Laws as laws
use Rattle.mean_back.proofs.elements_back.Goals as goal

pub loop-i-init : goal.loop-i-init
loop-i-init c = laws.down_none _ _ _ _ _ _ _

pub loop-i-preserved : goal.loop-i-preserved
loop-i-preserved c = laws.down_next _ _ _ _ _ _ _ c.loop-i.invariant c.loop-i-test.true c.back_element.ensures

pub returns : goal.returns
returns c = laws.down_all _ _ _ _ _ _ _ c.loop-i.invariant c.loop-i-test.false
