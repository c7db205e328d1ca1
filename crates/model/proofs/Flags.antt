-- How many flags stand before a state, for the loop that makes the root of P∞.
use mathlib.Core.Path.{◌≡◌, refl, sym, ap, ◌∙◌}
use Prim.Native.Nat.{ℕ, ◌+◌, ◌≤◌, ◌<◌}
use native.Mathlib.Omega.{arith}
use native.Mathlib.Numerals.{add-one}
use mir.Val.{bool_byte}
use mathlib.Core.Bool.{Bool, true, false, cond}
use mathlib.Core.List.{List, [], ◌∷◌}
use lib.ListN.{length, get_or, take}
use lib.Seq.{take-suc}
use lib.Dec.{eqb}
use borrow.Author.Tests.{eqb-true, eqb-false, eq-eqb, ne_eqb}
use Rattle.definition.specs.Run.{count}
use Rattle.definition.specs.Inputs.{is_flagged, flags_before}
use Rattle.laws.specs.Passes.{count-append}

eqb_swap : (a b : ℕ) → eqb a b ≡ eqb b a
eqb_swap a b = by_test (eqb b a) refl
  where
    by_test : (t : Bool) → eqb b a ≡ t → eqb a b ≡ eqb b a
    by_test true e = eq-eqb a b (sym (eqb-true b a e)) ∙ sym e
    by_test false e = ne_eqb a b (λ q. eqb-false b a e (sym q)) ∙ sym e

pub none_before : (flags : List ℕ) → 0 ≡ flags_before flags 0
unfolding flags_before count
none_before flags = refl

byte : (b : Bool) → bool_byte b ≡ cond b 1 0
byte true = refl
byte false = refl

pub one_further : (flags : List ℕ) (i column : ℕ) (flagged : Bool) → i < length flags → column ≡ flags_before flags i → flagged ≡ is_flagged flags i → column + bool_byte flagged ≡ flags_before flags (i + 1)
unfolding flags_before count
one_further flags i column flagged b e f =
    let s : count (eqb 1) (take (i + 1) flags) ≡ count (eqb 1) (take i flags) + (cond (eqb 1 (get_or flags i 0)) 1 0 + 0) =
    ap (λ (k : ℕ). count (eqb 1) (take k flags)) (add-one i) ∙ ap (count (eqb 1)) (take-suc flags i 0 b) ∙ count-append (eqb 1) (take i flags) (get_or flags i 0 ∷ []) in
    let t : ◌≡◌ {A = ℕ} (bool_byte flagged) (cond (eqb 1 (get_or flags i 0)) 1 0) = byte flagged ∙ ap (λ (w : Bool). cond {A = ℕ} w 1 0) (f ∙ eqb_swap (get_or flags i 0) 1) in
    omega arith

pub one_at_most : (flagged : Bool) (column : ℕ) → column + bool_byte flagged ≤ column + 1
one_at_most true column = omega arith
one_at_most false column = omega arith
