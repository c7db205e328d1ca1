-- The first i places are copied, and the part is as long as it was.
use Rattle.std.proofs.Common.{◌≡◌, ◌≤◌, length, take}
use Rattle.dense.proofs.save.Given as goal

abbrev pub invariant-loop-i : goal.invariant-loop-i
invariant-loop-i g l = (l.i ≤ length l.initial.out) × (length l.out ≡ length l.initial.out) × (take l.i l.out ≡ take l.i l.a)
