-- Each row is put where it stays.
use mathlib.Core.Path.{◌≡◌}
use Prim.Native.Nat.{◌≤◌, ◌*◌}
use Rattle.definition.specs.Dense.{product_at}
use Rattle.dense.specs.Views.{mat}
use Rattle.dense.proofs.Laws as laws
use Rattle.products.proofs.product_rows.Given as goal

abbrev pub invariant-loop-j : goal.invariant-loop-j
invariant-loop-j g l = (l.j ≤ l.m) × (l.out ≡ laws.row (product_at l.m l.m (g.A.Seen.view l.m l.m l.a) (mat l.m l.b) l.i) (l.i * l.m) l.j l.initial.out)

abbrev pub invariant-loop-i : goal.invariant-loop-i
invariant-loop-i g l = (l.i ≤ l.m) × (l.out ≡ laws.grid (product_at l.m l.m (g.A.Seen.view l.m l.m l.a) (mat l.m l.b)) l.m l.i l.initial.out)
