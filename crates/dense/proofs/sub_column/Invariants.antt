-- The first i entries of column j are less their products.
use mathlib.Core.Path.{◌≡◌}
use Prim.Native.Nat.{◌≤◌}
use Rattle.dense.specs.Views.{vec, mat}
use Rattle.dense.specs.Columns.{less_at}
use Rattle.dense.proofs.Laws as laws
use Rattle.dense.proofs.sub_column.Given as goal

abbrev pub invariant-loop-i : goal.invariant-loop-i
invariant-loop-i l = (l.i ≤ l.m) × (l.p ≡ laws.column (less_at l.m (mat l.m l.initial.p) (vec l.m l.a) (vec l.m l.b) l.j) l.m l.j l.i l.initial.p)
