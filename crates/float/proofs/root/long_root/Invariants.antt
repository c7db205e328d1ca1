-- A binary digit a turn.
use Prim.Native.Nat.{◌≤◌}
use Rattle.float.proofs.Digits.{Step}
use Rattle.float.proofs.root.long_root.Given as goal

abbrev pub invariant-loop : goal.invariant-loop
invariant-loop l = (l.counter ≤ 54) × Step l.m l.q l.r l.w l.counter
