-- The loop sums a row of A x, ascending from +0.0, and leaves out the terms at which x is 0.
use mathlib.Core.Path.{◌≡◌}
use Prim.Native.Nat.{◌≤◌}
use Rattle.definition.specs.Num.{sum_but}
use Rattle.definition.specs.Dense.{mat_vec_term, zero_at}
use Rattle.dense.specs.Views.{vec}
use Rattle.mean_back.proofs.part_vec_at.Given as goal

abbrev pub invariant-loop-j : goal.invariant-loop-j
invariant-loop-j l = (l.j ≤ l.m) × (l.s ≡ sum_but l.j (zero_at (vec l.m l.x)) (mat_vec_term l.m l.a (vec l.m l.x) l.i))
