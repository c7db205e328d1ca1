-- The loop: `found` is whether the test holds of an entry passed, in one of the lists.
use Prim.Native.Nat.{◌≤◌}
use mathlib.Core.Path.{◌≡◌}
use mathlib.Core.Bool.{◌||◌}
use lib.ListN.{length, take}
use Rattle.definition.specs.Run.{any_of}
use Rattle.definition.specs.Refusals.{unfit}
use Rattle.reports.proofs.some_off.Given as goal

abbrev pub invariant-loop-i : goal.invariant-loop-i
invariant-loop-i l =
    (l.i ≤ l.i-end) × (l.i-end ≡ length l.a) × (l.found ≡ (any_of unfit (take l.i l.a) || any_of unfit (take l.i l.b) || any_of unfit (take l.i l.c)))
