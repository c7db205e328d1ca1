-- The loop: the support among the states passed.
use Prim.Native.Nat.{◌≤◌}
use Rattle.dense.specs.Views.{rect}
use Rattle.star.specs.Views.{Found}
use Rattle.star.proofs.find_support.Given as goal

abbrev pub invariant-loop-j : goal.invariant-loop-j
invariant-loop-j l = (l.j ≤ l.m) × Found l.p l.m l.j (rect l.p l.m l.z) l.s
