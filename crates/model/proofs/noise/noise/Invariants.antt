-- From zeros on, disturbance by disturbance; then symmetrised.
use Prim.Native.Nat.{◌≤◌}
use Rattle.model.proofs.Disturbances as sums
use Rattle.model.proofs.noise.noise.Given as goal

abbrev pub invariant-loop-l : goal.invariant-loop-l
invariant-loop-l l = (l.l ≤ l.r) × sums.Summed l.m l.r l.rr l.q l.l l.out
