-- The second stretch, and the last where it stopped.
use Rattle.period.proofs.Along as along
use Rattle.period.proofs.rest.Goals as goal

pub returns-then-at-x-clause-done : goal.returns-then-at-x-clause-done
returns-then-at-x-clause-done c = along.second_root c.args.x.now c.args.ys.now c.args.s.now _ _ _ _ _ _ _ _ _ c.stretch-at.ensures.done c.if-at-x.true c.by_root.ensures

pub returns-else-at-x-clause-done : goal.returns-else-at-x-clause-done
returns-else-at-x-clause-done c = along.second_all c.args.x.now c.args.ys.now c.args.s.now _ _ _ _ c.stretch-at.ensures.done c.if-at-x.false
