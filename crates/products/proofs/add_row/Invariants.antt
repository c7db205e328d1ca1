-- The loop adds the terms of row l place by place.
use mathlib.Core.Path.{◌≡◌}
use Prim.Native.Nat.{◌≤◌}
use Rattle.dense.specs.Views.{vec, mat}
use Rattle.products.specs.Rows.{row_more_at}
use Rattle.dense.proofs.Laws as laws
use Rattle.products.proofs.add_row.Given as goal

abbrev pub invariant-loop-j : goal.invariant-loop-j
invariant-loop-j l = (l.j ≤ l.m) × (l.r ≡ laws.row (row_more_at l.m l.x (mat l.m l.b) l.l (vec l.m l.initial.r)) 0 l.j l.initial.r)
