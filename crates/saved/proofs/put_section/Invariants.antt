-- The loop writes number after number.
use mathlib.Core.Path.{◌≡◌}
use mathlib.Core.List.{map}
use Prim.Native.Nat.{ℕ, ◌+◌, ◌*◌}
use lib.ListN.{take}
use Rattle.saved.proofs.Put.{Put, written}
use Rattle.saved.proofs.put_section.Given as goal

abbrev pub invariant-loop-i : goal.invariant-loop-i
invariant-loop-i g l =
    (q : _ → ℕ) → ((v : _) (k : ℕ) → goal.F-post g l.number v k → k ≡ q v) → Put (l.at + 4) (l.i * 8) (written (take l.i (map q l.x))) l.initial.out l.out
