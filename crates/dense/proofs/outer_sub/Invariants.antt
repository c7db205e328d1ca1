-- The first j columns are less their products.
use mathlib.Core.Path.{◌≡◌}
use Prim.Native.Nat.{◌≤◌}
use Rattle.definition.specs.Num.{matrix}
use Rattle.dense.specs.Views.{vec, mat}
use Rattle.dense.specs.Columns.{outer_sub_to}
use Rattle.dense.proofs.outer_sub.Given as goal

abbrev pub invariant-loop-j : goal.invariant-loop-j
invariant-loop-j l = (l.j ≤ l.m) × (mat l.m l.p ≡ matrix l.m l.m (outer_sub_to l.m (mat l.m l.initial.p) (vec l.m l.a) (vec l.m l.b) l.j))
