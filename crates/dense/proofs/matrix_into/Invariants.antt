-- The first i rows are what stands there, and the first j entries of row i.
use mathlib.Core.Path.{◌≡◌}
use Prim.Native.Nat.{ℕ, ◌≤◌, ◌*◌}
use lib.Ieee.{Float}
use Rattle.dense.specs.Entries.{GivesWithin}
use Rattle.dense.proofs.Laws as laws
use Rattle.dense.proofs.matrix_into.Given as goal

abbrev pub invariant-loop-j : goal.invariant-loop-j
invariant-loop-j g l =
    (l.j ≤ l.c) × ((f : ℕ → ℕ → Float) → GivesWithin l.r l.c (goal.F-post g l.fn.entry) f → l.out ≡ laws.row (f l.i) (l.i * l.c) l.j l.initial.out)

abbrev pub invariant-loop-i : goal.invariant-loop-i
invariant-loop-i g l =
    (l.i ≤ l.r) × ((f : ℕ → ℕ → Float) → GivesWithin l.r l.c (goal.F-post g l.fn.entry) f → l.out ≡ laws.grid f l.c l.i l.initial.out)
