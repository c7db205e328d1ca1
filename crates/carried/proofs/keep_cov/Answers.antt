-- Nothing, or the four parts written.
use Rattle.carried.proofs.Laws as laws
use Rattle.carried.proofs.keep_cov.Goals as goal

pub returns-then-state-eq0 : goal.returns-then-state-eq0
returns-then-state-eq0 c = laws.kept_none _ _ _ _ _ _ c.if-state-eq0.true

pub returns : goal.returns
returns c = laws.kept _ _ _ _ _ _ _ _ _ _ c.requires c.if-state-eq0.false c.put.ensures c.put-2.ensures c.put-3.ensures c.put-4.ensures
