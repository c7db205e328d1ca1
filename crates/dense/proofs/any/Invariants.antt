-- The loop: `found` is whether the test holds at a place passed.
use Prim.Native.Nat.{ℕ, ◌≤◌, ◌<◌}
use mathlib.Core.Bool.{Bool}
use mathlib.Core.Path.{◌≡◌}
use Rattle.definition.specs.Run.{any_to}
use Rattle.dense.proofs.any.Given as goal

abbrev pub invariant-loop-i : goal.invariant-loop-i
invariant-loop-i g l =
    (l.i ≤ l.k)
    × ((q : ℕ → Bool) → ((i : ℕ) (b : Bool) → i < l.k → goal.F-post g l.test i b → b ≡ q i) → l.found ≡ any_to l.i q)
