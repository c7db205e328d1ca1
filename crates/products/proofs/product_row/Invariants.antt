-- The loop adds row by row.
use mathlib.Core.Path.{◌≡◌}
use Prim.Native.Nat.{◌≤◌}
use Rattle.definition.specs.Num.{tabulate}
use Rattle.dense.specs.Views.{vec, mat}
use Rattle.products.specs.Rows.{row_to}
use Rattle.products.proofs.product_row.Given as goal

abbrev pub invariant-loop-l : goal.invariant-loop-l
invariant-loop-l g l = (l.l ≤ l.m) × (vec l.m l.r ≡ tabulate l.m (row_to l.m (g.A.Seen.view l.m l.m l.a) (mat l.m l.b) l.i l.l))
