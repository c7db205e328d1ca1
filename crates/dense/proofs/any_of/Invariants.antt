-- The loop: `found` is whether the test holds of an entry passed.
use mathlib.Core.Bool.{Bool}
use mathlib.Core.Path.{◌≡◌}
use lib.ListN.{take}
use Rattle.definition.specs.Run.{any_of}
use Rattle.dense.proofs.any_of.Given as goal

abbrev pub invariant-loop-v : goal.invariant-loop-v
invariant-loop-v g l =
    (q : _ → Bool) → ((v : _) (b : Bool) → goal.F-post g l.test v b → b ≡ q v) → l.found ≡ any_of q (take l.v-index l.s)
