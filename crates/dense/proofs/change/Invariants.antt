-- The first i rows are changed, and the first j entries of row i; each by what it was.
use mathlib.Core.Path.{◌≡◌}
use Prim.Native.Nat.{ℕ, ◌≤◌, ◌*◌}
use lib.Ieee.{Float}
use Rattle.definition.specs.Num.{ent}
use Rattle.dense.specs.Views.{rect}
use Rattle.dense.specs.Entries.{GivesWithin}
use Rattle.dense.proofs.Laws as laws
use Rattle.dense.proofs.change.Given as goal

abbrev pub invariant-loop-j : goal.invariant-loop-j
invariant-loop-j g l =
    (l.j ≤ l.c)
    × ((f : Float → ℕ → ℕ → Float) → ((x : Float) → GivesWithin l.r l.c (goal.F-post g l.fn.entry x) (f x))
    → l.p ≡ laws.row (λ j. f (ent l.c (rect l.r l.c l.initial.p) l.i j) l.i j) (l.i * l.c) l.j l.initial.p)

abbrev pub invariant-loop-i : goal.invariant-loop-i
invariant-loop-i g l =
    (l.i ≤ l.r)
    × ((f : Float → ℕ → ℕ → Float) → ((x : Float) → GivesWithin l.r l.c (goal.F-post g l.fn.entry x) (f x))
    → l.p ≡ laws.grid (λ i j. f (ent l.c (rect l.r l.c l.initial.p) i j) i j) l.c l.i l.initial.p)
