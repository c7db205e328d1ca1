-- The loop: the places of row i that are passed hold x.
use mathlib.Core.Path.{◌≡◌}
use Prim.Native.Nat.{◌≤◌, ◌*◌}
use Rattle.definition.specs.Num.{at}
use Rattle.dense.specs.Views.{vec}
use Rattle.dense.proofs.Laws as laws
use Rattle.star.proofs.set_row.Given as goal

abbrev pub invariant-loop-j : goal.invariant-loop-j
invariant-loop-j l = (l.j ≤ l.k) × (l.work ≡ laws.row (λ c. at (vec l.k l.x) c) (l.i * l.k) l.j l.initial.work)
