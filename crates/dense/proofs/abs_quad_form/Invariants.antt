-- The sum has the terms of the first j columns.
use mathlib.Core.Path.{◌≡◌}
use Prim.Native.Nat.{◌≤◌}
use Rattle.definition.specs.Dense.{abs_to}
use Rattle.dense.specs.Views.{vec, mat}
use Rattle.dense.proofs.abs_quad_form.Given as goal

abbrev pub invariant-loop-j : goal.invariant-loop-j
invariant-loop-j l = (l.j ≤ l.m) × (l.s ≡ abs_to l.m (vec l.m l.z) (mat l.m l.a) l.j)
