-- The sum has the first i terms.
use mathlib.Core.Path.{◌≡◌}
use Prim.Native.Nat.{ℕ, ◌≤◌}
use lib.Ieee.{Float}
use Rattle.definition.specs.Num.{sum_from}
use Rattle.dense.specs.Entries.{GivesBelow}
use Rattle.dense.proofs.sum_more.Given as goal

abbrev pub invariant-loop-i : goal.invariant-loop-i
invariant-loop-i g l =
    (l.i ≤ l.n) × ((f : ℕ → Float) → GivesBelow l.n (goal.F-post g l.fn.term) f → l.s ≡ sum_from l.fn.s l.i f)
