-- From the last digit to the first: the digits to come go before what stands.
use mathlib.Core.Path.{◌≡◌}
use Prim.Native.Nat.{◌+◌, ◌≤◌}
use lib.ListN.{length, take, drop}
use Rattle.decimal.specs.Printed.{digits_onto}
use Rattle.decimal.proofs.printed.spell.Given as goal

abbrev pub invariant-loop-i : goal.invariant-loop-i
invariant-loop-i l = (l.i ≤ l.k) × (length l.out ≡ length l.initial.out) × (take (l.from + l.i) l.out ≡ take (l.from + l.i) l.initial.out) × (digits_onto l.i l.rest (drop (l.from + l.i) l.out) ≡ digits_onto l.k l.n (drop (l.from + l.k) l.initial.out))
