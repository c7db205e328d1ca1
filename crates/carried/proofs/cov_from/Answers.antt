-- The start, or the four parts read.
use Rattle.carried.proofs.Laws as laws
use Rattle.carried.proofs.cov_from.Goals as goal

pub returns-then-state-eq0 : goal.returns-then-state-eq0
returns-then-state-eq0 c = laws.begun _ _ _ _ _ _ c.if-state-eq0.true c.start.ensures

pub returns : goal.returns
returns c = laws.resumed _ _ _ _ _ _ _ _ _ c.if-state-eq0.false c.part.ensures c.part-2.ensures c.part-3.ensures c.part-4.ensures
