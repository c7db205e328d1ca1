-- The first i entries are what stands there.
use mathlib.Core.Path.{◌≡◌}
use Prim.Native.Nat.{ℕ, ◌≤◌, ◌<◌}
use lib.Ieee.{Float}
use lib.ListN.{length}
use Rattle.dense.proofs.Laws as laws
use Rattle.dense.proofs.vector.Given as goal

abbrev pub invariant-loop-i : goal.invariant-loop-i
invariant-loop-i g l =
    (l.i ≤ l.m) × (length l.initial.out ≡ 8)
    × ((f : ℕ → Float) → ((i : ℕ) (v : Float) → i < l.m → goal.F-post g l.fn.entry i v → v ≡ f i) → l.out ≡ laws.row f 0 l.i l.initial.out)
