-- The loop copies the floats of the numbers; `found` is whether the test holds of a number passed.
use mathlib.Core.Path.{◌≡◌}
use Prim.Native.Nat.{◌≤◌}
use lib.ListN.{length, take}
use lib.Seq.{paste}
use Rattle.definition.specs.Run.{any_of}
use Rattle.definition.specs.Saved.{other_nan}
use Rattle.saved.specs.Places.{numbers_at}
use Rattle.saved.proofs.Loads.{floats_at}
use Rattle.saved.proofs.load_floats.Given as goal

abbrev pub invariant-loop-i : goal.invariant-loop-i
invariant-loop-i l =
    (l.i ≤ l.k) × (length l.state ≡ length l.initial.state) × (l.found ≡ any_of other_nan (take l.i (numbers_at l.k l.at l.saved))) × (l.state ≡ paste l.initial.state l.to (floats_at l.k l.at l.saved) l.i)
