-- The loop: the workspace holds what the definition grows in as many steps, but for entries that are never read.
use Prim.Native.Nat.{◌≤◌}
use lib.ListN.{take}
use Rattle.definition.specs.Star.{grow_to, seed}
use Rattle.dense.specs.Views.{mat}
use Rattle.laws.specs.Unread.{Alike}
use Rattle.star.specs.Workspace.{Placed, held_in}
use Rattle.star.proofs.pivoted_root.Given as goal

abbrev pub invariant-loop : goal.invariant-loop
invariant-loop l =
    (l.counter ≤ l.k) × (l.rank ≤ l.counter) × Placed l.k l.rank (take l.k l.used) l.order × Alike l.k (grow_to l.k (seed l.k (mat l.k l.initial.work)) l.counter) (held_in l.k (take l.k l.used) l.order l.rank (mat l.k l.work))
