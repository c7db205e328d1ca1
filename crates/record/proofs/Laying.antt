-- A lent list while its first places are written, one after the other: f 0, .., f (i - 1), and then what stood there. Past its end nothing is written.
use mathlib.Core.Path.{◌≡◌, refl, sym, ap, ◌∙◌}
use Prim.Native.Nat.{ℕ, suc, ◌≤◌, ◌<◌, min}
use native.Mathlib.Omega.{arith}
use native.Mathlib.Nat.{zero-add, min-eq_left, min-eq_right, min-le_right}
use mathlib.Core.Bool.{Bool, true, false}
use mathlib.Core.List.{List, ◌++◌}
use borrow.Author.Tests.{ltb-true, ltb-false}
use lib.Dec.{ltb}
use lib.ListN.{length, get_or, set, drop, length-append, length-drop}
use lib.Seq.{set_at, set_out, append_snoc, drop-cons}
use Rattle.definition.specs.Num.{tab_from, tabulate}
use Rattle.definition.specs.Run.{lay}
use Rattle.laws.specs.Lists.{tab_snoc, length_tab}

module _ {A : Type 0} (f : ℕ → A) (old : List A) where
  abbrev first : ℕ → List A
  first i = lay (tabulate i f) old

  abbrev pub laid : ℕ → List A
  laid i = first (min i (length old))

  pub none : laid 0 ≡ old
  unfolding tab_from
  none = rw (min-eq_left {n = 0} {m = length old} (omega arith)) refl

  first_long : (i : ℕ) → i ≤ length old → length (first i) ≡ length old
  first_long i h = simp (length-append, length_tab, length-drop) (omega arith)

  pub long : (i : ℕ) → length (laid i) ≡ length old
  long i = first_long (min i (length old)) (min-le_right i (length old))

  first_next : (i : ℕ) → i < length old → set (first i) i (f i) ≡ first (suc i)
  first_next i h =
      rw (length_tab i 0 f, length_tab (suc i) 0 f)
      (ap (λ (l : List A). set (tabulate i f ++ l) i (f i)) (drop-cons old i (f i) h) ∙ set_at (tabulate i f) (get_or old i (f i)) (drop (suc i) old) (f i) i (length_tab i 0 f) ∙ sym (append_snoc (tabulate i f) (f i) (drop (suc i) old))
      ∙ ap (λ (l : List A). l ++ drop (suc i) old) (sym (rw zero-add at (tab_snoc i 0 f))))

  pub next : (i : ℕ) → set (laid i) i (f i) ≡ laid (suc i)
  next i = by_test (ltb i (length old)) refl
    where
      by_test : (t : Bool) → ltb i (length old) ≡ t → set (laid i) i (f i) ≡ laid (suc i)
      by_test true e = let h = ltb-true i (length old) e in rw (min-eq_left {n = i} {m = length old} (omega arith), min-eq_left {n = suc i} {m = length old} (omega arith)) (first_next i h)
      by_test false e =
          let h = ltb-false i (length old) e in
          rw (min-eq_right {n = length old} {m = i} h, min-eq_right {n = length old} {m = suc i} (omega arith)) (set_out (first (length old)) i (f i) (omega (arith, first_long (length old) (omega arith))))
