-- By how the element ended.
use Rattle.period.specs.Views.{stop_of}
use Rattle.period.proofs.stop.Goals as goal

pub returns-in-Passed : goal.returns-in-Passed
unfolding stop_of
returns-in-Passed c = rw c.in-Passed.is

pub returns-then-fresh : goal.returns-then-fresh
unfolding stop_of
returns-then-fresh c = rw (c.in-Taken.is, c.if-fresh.true)

pub returns-else-fresh : goal.returns-else-fresh
unfolding stop_of
returns-else-fresh c = rw (c.in-Taken.is, c.if-fresh.false)

pub returns-in-Doubtful : goal.returns-in-Doubtful
unfolding stop_of
returns-in-Doubtful c = rw c.in-Doubtful.is
