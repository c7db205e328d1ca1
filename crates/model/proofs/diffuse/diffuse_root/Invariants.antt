-- The loops: the rows passed, and the entries passed of the row, are the definition's; `column` is how many flags stand before the row.
use mathlib.Core.Path.{◌≡◌}
use Prim.Native.Nat.{◌≤◌, ◌*◌}
use lib.ListN.{length}
use Rattle.definition.specs.Inputs.{flags_before, start_root_at}
use Rattle.dense.proofs.Laws as laws
use Rattle.model.proofs.diffuse.diffuse_root.Given as goal

abbrev pub invariant-loop-j : goal.invariant-loop-j
invariant-loop-j l = (l.j ≤ l.m) × (l.out ≡ laws.row (start_root_at l.flags l.i) (l.i * l.m) l.j l.initial.out)

abbrev pub invariant-loop-i : goal.invariant-loop-i
invariant-loop-i l = (l.i ≤ l.m) × (length l.initial.out ≡ 64) × (l.out ≡ laws.grid (start_root_at l.flags) l.m l.i l.initial.out) × (l.column ≡ flags_before l.flags l.i) × (l.column ≤ l.i)
