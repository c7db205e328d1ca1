-- The first i entries have their terms of column j.
use mathlib.Core.Path.{◌≡◌}
use Prim.Native.Nat.{◌≤◌}
use Rattle.dense.specs.Views.{vec, mat}
use Rattle.dense.specs.Columns.{more_at}
use Rattle.dense.proofs.Laws as laws
use Rattle.dense.proofs.add_column.Given as goal

abbrev pub invariant-loop-i : goal.invariant-loop-i
invariant-loop-i l = (l.i ≤ l.m) × (l.out ≡ laws.row (more_at l.m (mat l.m l.a) (vec l.m l.x) l.j (vec l.m l.initial.out)) 0 l.i l.initial.out)
