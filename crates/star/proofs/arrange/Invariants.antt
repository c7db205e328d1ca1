-- The loop: the columns passed stand in their rows.
use Prim.Native.Nat.{◌≤◌}
use Rattle.dense.specs.Views.{mat}
use Rattle.star.proofs.InPlace as place
use Rattle.star.proofs.arrange.Given as goal

abbrev pub invariant-loop-l : goal.invariant-loop-l
invariant-loop-l l = (l.l ≤ l.n) × place.Arranged l.k l.n l.initial.order (mat l.k l.initial.work) l.l l.order (mat l.k l.work)
