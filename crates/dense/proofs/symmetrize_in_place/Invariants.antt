-- The pairs of the first j columns are mirrored.
use Prim.Native.Nat.{◌≤◌}
use Rattle.dense.specs.Pairs.{Paired}
use Rattle.dense.proofs.symmetrize_in_place.Given as goal

abbrev pub invariant-loop-j : goal.invariant-loop-j
invariant-loop-j l = (l.j ≤ l.m) × Paired l.m l.j 0 l.initial.p l.p
