-- The first i pairs of column j are mirrored.
use mathlib.Core.List.{List}
use Prim.Native.Nat.{◌≤◌}
use lib.Ieee.{Float}
use Rattle.dense.specs.Pairs.{Paired}
use Rattle.dense.proofs.mirror_column.Given as goal

abbrev pub invariant-loop-i : goal.invariant-loop-i
invariant-loop-i l = (l.i ≤ l.j) × ((q : List Float) → Paired l.m l.j 0 q l.initial.p → Paired l.m l.j l.i q l.p)
