-- The entries have their terms of the first j columns.
use mathlib.Core.Path.{◌≡◌}
use Prim.Native.Nat.{◌≤◌}
use Rattle.definition.specs.Num.{tabulate}
use Rattle.dense.specs.Views.{vec, mat}
use Rattle.dense.specs.Columns.{mat_vec_to}
use Rattle.dense.proofs.mat_vec.Given as goal

abbrev pub invariant-loop-j : goal.invariant-loop-j
invariant-loop-j l = (l.j ≤ l.m) × (vec l.m l.out ≡ tabulate l.m (mat_vec_to l.m (mat l.m l.a) (vec l.m l.x) l.j))
