-- Laws of the cells: a word laid over blanks, and what a call answers and leaves. Assumes nothing.
use mathlib.Core.Path.{◌≡◌, refl, sym, ap, ◌∙◌, subst}
use mathlib.Core.Bool.{Bool, true, false, ◌&&◌, cond, true≢false}
use mathlib.Core.List.{List, ◌++◌, append_assoc, append-nil}
use Prim.Native.Nat.{ℕ, ◌+◌, ◌-◌, ◌≤◌, ◌<◌}
use native.Mathlib.Nat.{le_refl, sub_self}
use native.Mathlib.Omega.{arith}
use lib.ListN.{length, take, drop, replicate, length-append, length-drop, length-replicate, replicate-append-replicate}
use lib.Seq.{length-take-le, take_at, drop_at}
use lib.Dec.{leb}
use borrow.Author.Tests.{leb-false, le-leb, lt-leb}
use borrow.Rule.Slice.PartMut.{put_mid}
use Rattle.decimal.specs.declared.answers.Units.{Units}
use Rattle.decimal.specs.declared.answers.Units.TheVariants as units
use Rattle.decimal.specs.declared.answers.Whole.{Whole}
use Rattle.decimal.specs.Printed.{Onto, text_of, shown, fits_in, put_in, Added}
use Rattle.decimal.proofs.Printing.{whole, added}
use Rattle.cells.specs.Cells.{right_of, left_of, fits, written, too_large, said_of, cell_of}
use Rattle.cells.specs.Kept.{said_fits, fits_is}

-- ---- a word over blanks
-- the bytes of text, copied over the blanks of a field
pub laid : (old blank text new : List ℕ) (at width pad k : ℕ) → at + width ≤ length old → pad + length text ≤ width → k ≡ length text
    → Onto at (replicate width 32 ++ drop (at + width) old) old blank
    → new ≡ text
    → put_mid (at + pad) k blank new ≡ take at old ++ ((replicate pad 32 ++ (text ++ replicate (width - (pad + length text)) 32)) ++ drop (at + width) old)
laid old blank text new at width pad k h g e o c =
    let n = length text in
    let rest = width - (pad + n) in
    let back = drop (at + width) old in
    let front : List ℕ = take at old ++ replicate pad 32 in
    let s : width ≡ pad + (n + rest) = omega arith in
    let split : replicate {A = ℕ} width 32 ≡ replicate pad 32 ++ (replicate n 32 ++ replicate rest 32) =
    ap (λ (m : ℕ). replicate m 32) s
    ∙ sym (replicate-append-replicate pad (n + rest) 32)
    ∙ ap (λ (l : List ℕ). replicate pad 32 ++ l) (sym (replicate-append-replicate n rest 32)) in
    let b : blank ≡ front ++ (replicate n 32 ++ (replicate rest 32 ++ back)) =
    whole at _ old blank o ∙ ap (λ (l : List ℕ). take at old ++ (l ++ back)) split ∙ simp append_assoc in
    let f : length front ≡ at + pad = length-append (take at old) (replicate pad 32) ∙ omega (arith, length-take-le at old (omega arith), length-replicate {A = ℕ} pad 32) in
    let y : length (replicate {A = ℕ} n 32) ≡ k = length-replicate n 32 ∙ sym e in
    let d : drop (at + pad) blank ≡ replicate n 32 ++ (replicate rest 32 ++ back) = ap (drop (at + pad)) b ∙ drop_at front _ (at + pad) f in
    ap (λ (l : List ℕ). l ++ (new ++ drop k (drop (at + pad) blank))) (ap (take (at + pad)) b ∙ take_at front _ (at + pad) f)
    ∙ ap (λ (l : List ℕ). front ++ (l ++ drop k (drop (at + pad) blank))) c
    ∙ ap (λ (l : List ℕ). front ++ (text ++ l)) (ap (drop k) d ∙ drop_at (replicate n 32) _ k y)
    ∙ simp append_assoc

-- ---- what a call answers and leaves
abbrev pub Wrote : (long at width : ℕ) (cell old : List ℕ) (r : Bool) (new : List ℕ) → Type 0
Wrote long at width cell old r new = (r ≡ fits (length old) at width long) × (new ≡ written long at width cell old)

pub yes : (long at width : ℕ) (cell old new : List ℕ) → at + width ≤ length old → long ≤ width → new ≡ take at old ++ (cell ++ drop (at + width) old) → Wrote long at width cell old true new
unfolding fits written
yes long at width cell old new h g n =
    let e : fits (length old) at width long ≡ true = ap (λ (b : Bool). b && leb long width) (le-leb (at + width) (length old) h) ∙ le-leb long width g in
    (sym e, n ∙ sym (ap (λ (b : Bool). cond b (take at old ++ (cell ++ drop (at + width) old)) old) e))

no : (long at width : ℕ) (cell old : List ℕ) → fits (length old) at width long ≡ false → Wrote long at width cell old false old
unfolding written
no long at width cell old e = (sym e, sym (ap (λ (b : Bool). cond b (take at old ++ (cell ++ drop (at + width) old)) old) e))

pub past_end : (long at width : ℕ) (cell old : List ℕ) → length old < at + width → Wrote long at width cell old false old
unfolding fits
past_end long at width cell old h = no long at width cell old (ap (λ (b : Bool). b && leb long width) (lt-leb (at + width) (length old) h))

pub too_long : (long at width : ℕ) (cell old : List ℕ) → width < long → Wrote long at width cell old false old
unfolding fits
too_long long at width cell old h = no long at width cell old (go (leb (at + width) (length old)))
  where
    go : (b : Bool) → (b && leb long width) ≡ false
    go true = lt-leb long width h
    go false = refl

pub alike : (long at width : ℕ) (cell cell' old : List ℕ) (r : Bool) (new : List ℕ) → cell ≡ cell' → Wrote long at width cell old r new → Wrote long at width cell' old r new
alike long at width cell cell' old r new e p = subst (λ (l : List ℕ). Wrote long at width l old r new) e p

-- ---- blanks on one side only
pub right_is : (width : ℕ) (w : List ℕ) → length w ≤ width → replicate (width - length w) 32 ++ (w ++ replicate (width - (width - length w + length w)) 32) ≡ right_of width w
unfolding right_of
right_is width w h =
    let z : width - (width - length w + length w) ≡ 0 = omega arith in
    ap (λ (k : ℕ). replicate (width - length w) 32 ++ (w ++ replicate k 32)) z ∙ ap (λ (l : List ℕ). replicate (width - length w) 32 ++ l) (append-nil w)

pub left_is : (width : ℕ) (w : List ℕ) → replicate 0 32 ++ (w ++ replicate (width - (0 + length w)) 32) ≡ left_of width w
unfolding left_of
left_is width w = let z : width - (0 + length w) ≡ width - length w = omega arith in ap (λ (k : ℕ). w ++ replicate k 32) z

-- ---- numbers
abbrev pub Says : (at width d : ℕ) (u : Units) (old : List ℕ) (r : Bool) (new : List ℕ) → Type 0
Says at width d u old r new = Wrote (length (said_of width d u)) at width (cell_of width d u) old r new

pub says : (at width d : ℕ) (u v : Units) (w old : List ℕ) (r : Bool) (new : List ℕ) → u ≡ v → w ≡ said_of width d v → Wrote (length w) at width (right_of width w) old r new → Says at width d u old r new
unfolding cell_of
says at width d u v w old r new e f p = subst (λ (l : List ℕ). Wrote (length l) at width (right_of width l) old r new) (f ∙ sym (ap (said_of width d) e)) p

-- ---- the digits fit: so they are said
pub put_yes : (at width d : ℕ) (n : Whole) (old new : List ℕ) → true ≡ fits_in (length old) at width d n.minus n.size → new ≡ put_in at width d n.minus n.size old → Says at width d (units.Whole n) old true new
unfolding fits_in put_in shown fits written right_of said_of
put_yes at width d n old new e p =
    let t = text_of d n.minus n.size in
    says at width d (units.Whole n) (units.Whole n) t old true new refl
    (sym (ap (λ (b : Bool). cond b t too_large) (le-leb (length t) width (fits_is (length old) at width (length t) (sym e)).1)))
    (e, p)

-- they do not: the list is as it was, and the word is tried
pub put_no : (at width d : ℕ) (n : Whole) (old mid : List ℕ) (r : Bool) (new : List ℕ) → false ≡ fits_in (length old) at width d n.minus n.size → mid ≡ put_in at width d n.minus n.size old
    → Wrote (length too_large) at width (right_of width too_large) mid r new → Says at width d (units.Whole n) old r new
unfolding fits_in put_in fits written said_of cell_of
put_no at width d n old mid r new e p w = go (leb (at + width) (length old)) (leb (length (text_of d n.minus n.size)) width) refl refl
  where
    t : List ℕ
    t = text_of d n.minus n.size

    same : mid ≡ old
    same = p ∙ sym (ap (λ (b : Bool). cond b (take at old ++ (shown width d n.minus n.size ++ drop (at + width) old)) old) e)

    w' : Wrote (length too_large) at width (right_of width too_large) old r new
    w' = subst (λ (l : List ℕ). Wrote (length too_large) at width (right_of width too_large) l r new) same w

    go : (a b : Bool) → leb (at + width) (length old) ≡ a → leb (length t) width ≡ b → Says at width d (units.Whole n) old r new
    go true true f g = absurd (true≢false (sym (e ∙ ap (λ (b : Bool). b && leb (length t) width) f ∙ g)))
    go true false f g = says at width d (units.Whole n) (units.Whole n) too_large old r new refl (sym (ap (λ (b : Bool). cond b t too_large) g)) w'
    go false b f g =
        let h = leb-false (at + width) (length old) f in
        let a = past_end (length too_large) at width (right_of width too_large) old h in
        let s = past_end (length (said_of width d (units.Whole n))) at width (cell_of width d (units.Whole n)) old h in
        (w'.0 ∙ sym a.0 ∙ s.0, w'.1 ∙ sym a.1 ∙ s.1)

-- ---- a field that each word fits into
pub wide : (at width d : ℕ) (u : Units) (old : List ℕ) (r : Bool) (new : List ℕ) → 9 ≤ width → Says at width d u old r new → Wrote 9 at width (cell_of width d u) old r new
unfolding fits written
wide at width d u old r new h s =
    let e : leb (length (said_of width d u)) width ≡ leb 9 width = le-leb (length (said_of width d u)) width (said_fits width d u h) ∙ sym (le-leb 9 width h) in
    let f : fits (length old) at width (length (said_of width d u)) ≡ fits (length old) at width 9 = ap (λ (b : Bool). leb (at + width) (length old) && b) e in
    (s.0 ∙ f, s.1 ∙ ap (λ (b : Bool). cond b (take at old ++ (cell_of width d u ++ drop (at + width) old)) old) f)

-- ---- words with no field around them
pub bare : (at e : ℕ) (w old new : List ℕ) → at + length w ≤ length old → e ≡ at + length w → new ≡ written (length w) at (length w) (left_of (length w) w) old → Added at w old e new
unfolding left_of
bare at e w old new h q n =
    let c = w ++ replicate (length w - length w) 32 in
    let z : c ≡ w = ap (λ (k : ℕ). w ++ replicate k 32) (sub_self (length w)) ∙ append-nil w in
    let l = drop (at + length w) old in
    let g : new ≡ take at old ++ (w ++ l) = n ∙ sym (yes (length w) at (length w) c old _ h (le_refl (length w)) refl).1 ∙ ap (λ (x : List ℕ). take at old ++ (x ++ l)) z in
    let f : length (take at old) ≡ at = length-take-le at old (omega arith) in
    added at e w l old new (omega arith) q (record {
      before = ap (take at) g ∙ take_at (take at old) (w ++ l) at f;
      after = ap (drop at) g ∙ drop_at (take at old) (w ++ l) at f;
      long = ap length g ∙ omega (arith, length-append (take at old) (w ++ l), length-append w l, length-drop (at + length w) old);
    })
