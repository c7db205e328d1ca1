-- The value so far, and what is left, tell the whole. It is below 24 * 10 ^ i, so it fits.
use mathlib.Core.Path.{◌≡◌}
use Prim.Native.Nat.{◌+◌, ◌*◌, ◌^◌, ◌≤◌}
use lib.ListN.{length, drop}
use Rattle.decimal.specs.Reading.{value_from}
use Rattle.decimal.proofs.reading.value.Given as goal

abbrev pub invariant-loop-b : goal.invariant-loop-b
invariant-loop-b l = (l.b-index ≤ length l.s) × (value_from l.n (drop l.b-index l.s) ≡ value_from 0 l.s) × (l.n + 24 ≤ 24 * 10 ^ l.b-index)
