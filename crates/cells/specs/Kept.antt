-- A cell has exactly its field's width. What stands before the field and after it stays. Assumes nothing.
use Rattle.std.specs.Prelude.{◌≡◌, refl, Bool, true, false, ◌&&◌, cond, List, ◌++◌, ℕ, ◌+◌, ◌-◌, ◌≤◌, leb, length, take, drop, replicate}
use Rattle.std.proofs.Common.{sym, ap, ◌∙◌, true≢false, arith, leb-true, length-append, length-drop, length-take-le, take_at, drop_at}
use Rattle.std.proofs.lemmas.List.{length-replicate}
use Rattle.std.proofs.Math.Seq.{drop-append-add}
use Rattle.decimal.specs.declared.answers.Units.{Units}
use Rattle.decimal.specs.declared.answers.Units.TheVariants.{Whole, NotANumber, Infinite, TooLarge}
use Rattle.decimal.specs.Printed.{sign_of, text_of}
use Rattle.cells.specs.Cells.{right_of, left_of, fits, written, no_number, infinite, too_large, said_of, cell_of}

pub right_width : (width : ℕ) (w : List ℕ) → length w ≤ width → length (right_of width w) ≡ width
unfolding right_of
right_width width w h = omega (arith, length-append (replicate (width - length w) 32) w, length-replicate {A = ℕ} (width - length w) 32)

pub left_width : (width : ℕ) (w : List ℕ) → length w ≤ width → length (left_of width w) ≡ width
unfolding left_of
left_width width w h = omega (arith, length-append w (replicate (width - length w) 32), length-replicate {A = ℕ} (width - length w) 32)

-- 9 bytes hold each word
pub said_fits : (width d : ℕ) (u : Units) → 9 ≤ width → length (said_of width d u) ≤ width
unfolding said_of no_number infinite too_large sign_of
said_fits width d (Whole n) h = go (leb (length (text_of d n.minus n.size)) width) refl
  where
    go : (b : Bool) → leb (length (text_of d n.minus n.size)) width ≡ b → length (cond b (text_of d n.minus n.size) too_large) ≤ width
    go true e = leb-true (length (text_of d n.minus n.size)) width e
    go false e = h
said_fits width d NotANumber h = h
said_fits width d (Infinite true) h = h
said_fits width d (Infinite false) h = omega arith
said_fits width d (TooLarge minus) h = h

pub cell_width : (width d : ℕ) (u : Units) → 9 ≤ width → length (cell_of width d u) ≡ width
unfolding cell_of
cell_width width d u h = right_width width (said_of width d u) (said_fits width d u h)

pub fits_is : (len at width long : ℕ) → fits len at width long ≡ true → (at + width ≤ len) × (long ≤ width)
unfolding fits
fits_is len at width long e = go (leb (at + width) len) (leb long width) refl refl e
  where
    go : (a b : Bool) → leb (at + width) len ≡ a → leb long width ≡ b → (a && b) ≡ true → (at + width ≤ len) × (long ≤ width)
    go true true p q e = (leb-true (at + width) len p, leb-true long width q)
    go true false p q e = absurd (true≢false (sym e))
    go false b p q e = absurd (true≢false (sym e))

-- ---- old became new, and nothing changed but the field
pub record Kept (at width : ℕ) (old new : List ℕ) : Type 0 where
  pub before : take at new ≡ take at old
  pub after : drop (at + width) new ≡ drop (at + width) old
  pub long : length new ≡ length old

pub kept : (long at width : ℕ) (cell old : List ℕ) → (long ≤ width → length cell ≡ width) → Kept at width old (written long at width cell old)
unfolding written
kept long at width cell old fills = go (fits (length old) at width long) refl
  where
    go : (b : Bool) → fits (length old) at width long ≡ b → Kept at width old (cond b (take at old ++ (cell ++ drop (at + width) old)) old)
    go false e = record { before = refl; after = refl; long = refl }
    go true e =
        let h = fits_is (length old) at width long e in
        let l = fills h.1 in
        let back = drop (at + width) old in
        let f : length (take at old) ≡ at = length-take-le at old (omega arith) in
        record {
          before = take_at (take at old) (cell ++ back) at f;
          after = ap (λ (n : ℕ). drop (n + width) (take at old ++ (cell ++ back))) (sym f) ∙ drop-append-add (take at old) (cell ++ back) width ∙ drop_at cell back width l;
          long = omega (arith, length-append (take at old) (cell ++ back), length-append cell back, length-drop (at + width) old);
        }

pub right_kept : (at width : ℕ) (w old : List ℕ) → Kept at width old (written (length w) at width (right_of width w) old)
right_kept at width w old = kept (length w) at width (right_of width w) old (right_width width w)

pub left_kept : (at width : ℕ) (w old : List ℕ) → Kept at width old (written (length w) at width (left_of width w) old)
left_kept at width w old = kept (length w) at width (left_of width w) old (left_width width w)

pub cell_kept : (at width d : ℕ) (u : Units) (old : List ℕ) → Kept at width old (written 9 at width (cell_of width d u) old)
cell_kept at width d u old = kept 9 at width (cell_of width d u) old (cell_width width d u)

-- ---- where it fits, the cell stands in the field
pub stands : (long at width : ℕ) (cell old : List ℕ) → fits (length old) at width long ≡ true → length cell ≡ width → take width (drop at (written long at width cell old)) ≡ cell
unfolding written
stands long at width cell old e l =
    let back = drop (at + width) old in
    let f : length (take at old) ≡ at = length-take-le at old (let h = fits_is (length old) at width long e in omega arith) in
    ap (λ (b : Bool). take width (drop at (cond b (take at old ++ (cell ++ back)) old))) e ∙ ap (take width) (drop_at (take at old) (cell ++ back) at f) ∙ take_at cell back width l
