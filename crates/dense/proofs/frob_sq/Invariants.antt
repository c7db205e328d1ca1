-- The sum has the squares of the first j columns.
use mathlib.Core.Path.{◌≡◌}
use Prim.Native.Nat.{◌≤◌}
use Rattle.definition.specs.Dense.{sq_to}
use Rattle.dense.specs.Views.{mat}
use Rattle.dense.proofs.frob_sq.Given as goal

abbrev pub invariant-loop-j : goal.invariant-loop-j
invariant-loop-j l = (l.j ≤ l.m) × (l.s ≡ sq_to l.m (mat l.m l.a) l.j)
