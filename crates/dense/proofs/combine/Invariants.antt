-- The first k places are made of both.
use mathlib.Core.Path.{◌≡◌}
use Prim.Native.Nat.{◌≤◌}
use lib.Ieee.{Float}
use Rattle.dense.proofs.Laws as laws
use Rattle.dense.proofs.combine.Given as goal

abbrev pub invariant-loop-k : goal.invariant-loop-k
invariant-loop-k g l =
    (l.k ≤ l.n) × ((f : Float → Float → Float) → ((x y v : Float) → goal.F-post g l.fn.of x y v → v ≡ f x y) → l.p ≡ laws.row (laws.both f l.initial.p l.q) 0 l.k l.initial.p)
