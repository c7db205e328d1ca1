-- The loop: the pivot of the places passed.
use mathlib.Core.Path.{◌≡◌}
use Prim.Native.Nat.{◌≤◌}
use lib.ListN.{take}
use Rattle.dense.specs.Views.{mat}
use Rattle.definition.specs.Star.{pivot_to}
use Rattle.star.specs.Views.{pivot_of}
use Rattle.star.proofs.find_pivot.Given as goal

abbrev pub invariant-loop-j : goal.invariant-loop-j
invariant-loop-j l = (l.j ≤ l.k) × (pivot_of l.b ≡ pivot_to l.k (mat l.k l.a) (take l.k l.used) l.j)
