-- After n turns the series has n terms, and the table is left but for its last n.
use mathlib.Core.Path.{◌≡◌}
use Prim.Native.Nat.{◌-◌, ◌≤◌}
use lib.ListN.{length, take}
use Rattle.definition.specs.Log.{series}
use Rattle.float.proofs.Table.{odds}
use Rattle.float.proofs.log.sum_odd.Given as goal

abbrev pub invariant-loop-c : goal.invariant-loop-c
invariant-loop-c l =
    let n = length l.yielded in (n ≤ 11) × (l.c-iterator.iter.rest.now ≡ take (11 - n) odds) × (l.q ≡ series l.w 11 n)
