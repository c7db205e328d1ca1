-- The first k periods have their T.
use Rattle.clock.proofs.Told.{Told}
use Rattle.clock.proofs.transitions.Given as goal

abbrev pub invariant-loop-k : goal.invariant-loop-k
invariant-loop-k l = Told l.s l.list l.k
