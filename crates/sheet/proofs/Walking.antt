-- Laws of the walk over the lines: a line cut off, its readings stored, and what is known between two lines. Assumes nothing.
use Rattle.std.specs.Prelude.{Ok, Err, None}
use Rattle.std.proofs.Common.{◌≡◌, ℕ, suc, ◌+◌, ◌-◌, ◌*◌, ◌<◌, ◌≤◌, Bool, true, false, cond, ltb, List, [], ◌∷◌, ◌++◌, length, take, drop, set, sym, refl, ap, ◌∙◌, subst, append_assoc, append-nil, not-suc-le-zero, add-zero, add-one, arith, length-drop, length-set, take-append-drop, take_all, length-take-le, drop-drop, take-suc-set, drop-set-lt, ltb-false, ltb-true}
use lib.Ieee.{Float}
use Rattle.sheet.specs.declared.parts.Tokens.{Tokens}
use Rattle.sheet.specs.declared.parts.Fault.{Fault}
use Rattle.sheet.specs.declared.parts.Given.{Given}
use Rattle.sheet.specs.Kinds.{has_checks}
use Rattle.sheet.specs.Lines.{is_end, run_to, onto, lines_of}
use Rattle.sheet.specs.Effects.{fresh, settled, reading_of, line_readings, Laid}
use Rattle.sheet.specs.Faults.{Found, right, fault_of}
use Rattle.sheet.specs.Good.{few_periods, counted_few, counted-length}
use Rattle.sheet.specs.Sheets.{line_tokens, line_fault, counted, wrong_line, unless_wrong, end_of, sheet_from, readings_from, sheet_of, readings_of}

-- ---- the first line of what is left
pub lines_more : (s : List ℕ) → run_to true s < length s → lines_of s ≡ take (run_to true s) s ∷ lines_of (drop (suc (run_to true s)) s)
unfolding run_to lines_of onto
lines_more [] h = absurd (not-suc-le-zero h)
lines_more (b ∷ bs) h = go (lines_more bs) (is_end true b) h
  where
    go : (run_to true bs < length bs → lines_of bs ≡ take (run_to true bs) bs ∷ lines_of (drop (suc (run_to true bs)) bs)) → (t : Bool) → cond t 0 (suc (run_to true bs)) < suc (length bs)
        → cond t ([] ∷ lines_of bs) (onto b (lines_of bs)) ≡ take (cond t 0 (suc (run_to true bs))) (b ∷ bs) ∷ lines_of (drop (suc (cond t 0 (suc (run_to true bs)))) (b ∷ bs))
    go i true h = refl
    go i false h = ap (onto b) (i (omega arith))

pub lines_last : (s : List ℕ) → length s ≤ run_to true s → lines_of s ≡ take (run_to true s) s ∷ []
unfolding run_to lines_of onto
lines_last [] h = refl
lines_last (b ∷ bs) h = go (lines_last bs) (is_end true b) h
  where
    go : (length bs ≤ run_to true bs → lines_of bs ≡ take (run_to true bs) bs ∷ []) → (t : Bool) → suc (length bs) ≤ cond t 0 (suc (run_to true bs))
        → cond t ([] ∷ lines_of bs) (onto b (lines_of bs)) ≡ take (cond t 0 (suc (run_to true bs))) (b ∷ bs) ∷ []
    go i true h = absurd (not-suc-le-zero h)
    go i false h = ap (onto b) (i (omega arith))

-- ---- a line's readings, stored
pub laid_none : (a : ℕ) (y : List Float) → Laid a [] y y
laid_none a y = record { before = ap (λ (n : ℕ). take n y) (add-zero a) ∙ sym (append-nil (take a y)); after = refl; long = refl }

pub laid_two : (a : ℕ) (y : List Float) (u v : Float) → a + 1 < length y → Laid a (u ∷ v ∷ []) y (set (set y a u) (a + 1) v)
laid_two a y u v h =
    let e : a + 2 ≡ suc (a + 1) = omega arith in
    let l : length (set y a u) ≡ length y = length-set y a u in
    record {
      before = ap (λ (n : ℕ). take n (set (set y a u) (a + 1) v)) e
          ∙ take-suc-set (set y a u) (a + 1) v (omega arith)
          ∙ ap (λ (n : ℕ). take n (set y a u) ++ (v ∷ [])) (add-one a)
          ∙ ap (λ (x : List Float). x ++ (v ∷ [])) (take-suc-set y a u (omega arith))
          ∙ append_assoc (take a y) (u ∷ []) (v ∷ []);
      after = drop-set-lt (a + 2) (set y a u) (a + 1) v (omega arith) ∙ drop-set-lt (a + 2) y a u (omega arith);
      long = length-set (set y a u) (a + 1) v ∙ l;
    }

pub store_none : (table : Bool) (t : Tokens) (p : ℕ) (y : List Float) → has_checks t.first ≡ false → (p ≡ counted p t) × Laid (2 * p) (line_readings table t) y y
unfolding counted line_readings
store_none table t p y h = (simp h, simp h (laid_none (2 * p) y))

pub store_two : (table : Bool) (t : Tokens) (p : ℕ) (y : List Float) (u v : Float) → has_checks t.first ≡ true → 2 * p + 1 < length y → u ≡ reading_of table t.first → v ≡ reading_of table t.second
    → (p + 1 ≡ counted p t) × Laid (2 * p) (line_readings table t) y (set (set y (2 * p) u) (2 * p + 1) v)
unfolding counted line_readings
store_two table t p y u v h k e f = (simp h, simp (h, ← e, ← f) (laid_two (2 * p) y u v k))

-- ---- what is known between two lines: the lines that are left give the answer, and their readings stand after those that are stored
pub record Going (table : Bool) (text : List ℕ) (old : List Float) (ls : List (List ℕ)) (s : Given) (p n at : ℕ) (y : List Float) : Type 0 where
  pub few : p ≤ 4096
  pub long : length y ≡ 8192
  pub sheet : sheet_from table (length text) s p n at ls ≡ sheet_of table text
  pub said : take (2 * p) y ++ readings_from table s p ls ≡ readings_of table text
  pub rest : drop (2 * p) y ≡ drop (2 * p) old

abbrev pub Filled : List Float → List Float → List Float → Type 0
Filled new old y = y ≡ new ++ drop (length new) old

filled : (p : ℕ) (new old y : List Float) → 2 * p ≤ length y → take (2 * p) y ++ [] ≡ new → drop (2 * p) y ≡ drop (2 * p) old → Filled new old y
filled p new old y h e f =
    let g : take (2 * p) y ≡ new = sym (append-nil (take (2 * p) y)) ∙ e in
    let l : 2 * p ≡ length new = sym (length-take-le (2 * p) y h) ∙ ap length g in
    sym (take-append-drop (2 * p) y) ∙ ap (λ (x : List Float). x ++ drop (2 * p) y) g ∙ ap (λ (x : List Float). new ++ x) (f ∙ ap (λ (n : ℕ). drop n old) l)

-- none of its places is filled
pub none_given : (g : Given)
    → (g.period ≡ None) × ((g.noise ≡ None) × ((g.radio ≡ None) × ((g.wander_offset ≡ None) × ((g.wander_rate ≡ None) × ((g.offset ≡ None) × ((g.rate ≡ None) × ((g.rate_keeps ≡ None) × (g.season ≡ None))))))))
    → g ≡ fresh
none_given g e =
    let record { period = a; noise = b; radio = c; wander_offset = d; wander_rate = f; offset = h; rate = i; rate_keeps = j; season = k } = g in
    rw (e.0, e.1.0, e.1.1.0, e.1.1.1.0, e.1.1.1.1.0, e.1.1.1.1.1.0, e.1.1.1.1.1.1.0, e.1.1.1.1.1.1.1.0, e.1.1.1.1.1.1.1.1)

pub first : (table : Bool) (text : List ℕ) (y : List Float) (s : Given) → 8192 ≡ length y → s ≡ fresh → Going table text y (lines_of text) s 0 0 0 y
unfolding sheet_of readings_of
first table text y s h e = record {
  few = omega arith;
  long = sym h;
  sheet = ap (λ (x : Given). sheet_from table (length text) x 0 0 0 (lines_of text)) e;
  said = ap (λ (x : Given). readings_from table x 0 (lines_of text)) e;
  rest = refl;
}

module _ (table : Bool) (text : List ℕ) (old : List Float) (s : Given) (p n at : ℕ) (y : List Float) where
  -- the end of the text
  pub done : Going table text old [] s p n at y → (end_of s p n (length text) ≡ sheet_of table text) × Filled (readings_of table text) old y
  unfolding sheet_from readings_from
  done g = (g.sheet, filled p (readings_of table text) old y (omega (arith, g.few, g.long)) g.said g.rest)

  -- a wrong line
  pub stop : (l : List ℕ) (ls : List (List ℕ)) (f : Fault) → line_fault table s p l ≡ Err f → Going table text old (l ∷ ls) s p n at y
      → (Err (wrong_line (n + 1) at l f) ≡ sheet_of table text) × Filled (readings_of table text) old y
  unfolding sheet_from readings_from
  stop l ls f h g =
      let t = line_tokens l in (
        ap (λ (k : ℕ). Err (wrong_line k at l f)) (add-one n) ∙ sym (ap (λ (r : Found). unless_wrong r (sheet_from table (length text) (settled s t) (counted p t) (suc n) (suc (at + length l)) ls) (λ f. Err (wrong_line (suc n) at l f))) h) ∙ g.sheet,
        filled p (readings_of table text) old y (omega (arith, g.few, g.long))
            (sym (ap (λ (r : Found). take (2 * p) y ++ unless_wrong r (line_readings table t ++ readings_from table (settled s t) (counted p t) ls) (λ f. [])) h) ∙ g.said) g.rest,
      )

  -- a right line
  pub next : (l : List ℕ) (ls : List (List ℕ)) (y₂ : List Float) → line_fault table s p l ≡ right → Laid (2 * p) (line_readings table (line_tokens l)) y y₂ → Going table text old (l ∷ ls) s p n at y
      → Going table text old ls (settled s (line_tokens l)) (counted p (line_tokens l)) (suc n) (suc (at + length l)) y₂
  unfolding sheet_from readings_from
  next l ls y₂ h d g =
      let t = line_tokens l in
      let r = line_readings table t in
      let m = readings_from table (settled s t) (counted p t) ls in
      let e : 2 * p + length r ≡ 2 * counted p t = counted-length table p t in
      record {
        few = counted_few p t g.few (few_periods table s p t h);
        long = d.long ∙ g.long;
        sheet = sym (ap (λ (r : Found). unless_wrong r (sheet_from table (length text) (settled s t) (counted p t) (suc n) (suc (at + length l)) ls) (λ f. Err (wrong_line (suc n) at l f))) h) ∙ g.sheet;
        said = ap (λ (k : ℕ). take k y₂ ++ m) (sym e)
            ∙ ap (λ (x : List Float). x ++ m) d.before
            ∙ append_assoc (take (2 * p) y) r m
            ∙ sym (ap (λ (k : Found). take (2 * p) y ++ unless_wrong k (r ++ m) (λ f. [])) h)
            ∙ g.said;
        rest = ap (λ (k : ℕ). drop k y₂) (sym e)
            ∙ d.after
            ∙ sym (drop-drop (length r) (2 * p) y)
            ∙ ap (drop (length r)) g.rest
            ∙ drop-drop (length r) (2 * p) old
            ∙ ap (λ (k : ℕ). drop k old) e;
      }

-- ---- the line from place `at` up to its end
module _ (text : List ℕ) (at end : ℕ) (start : at ≤ length text) (found : end ≡ at + run_to true (drop at text)) where
  run : run_to true (drop at text) ≡ end - at
  run = omega arith

  pub cut_more : end < length text → lines_of (drop at text) ≡ take (end - at) (drop at text) ∷ lines_of (drop (end + 1) text)
  cut_more h =
      let e : at + suc (end - at) ≡ end + 1 = omega arith in
      lines_more (drop at text) (omega (arith, length-drop at text))
      ∙ ap (λ (k : ℕ). take k (drop at text) ∷ lines_of (drop (suc k) (drop at text))) run
      ∙ ap (λ (x : List ℕ). take (end - at) (drop at text) ∷ lines_of x) (drop-drop (suc (end - at)) at text ∙ ap (λ (k : ℕ). drop k text) e)

  pub cut_last : length text ≤ end → lines_of (drop at text) ≡ take (end - at) (drop at text) ∷ []
  cut_last h = lines_last (drop at text) (omega (arith, length-drop at text)) ∙ ap (λ (k : ℕ). take k (drop at text) ∷ []) run

  pub line_length : end ≤ length text → at + length (take (end - at) (drop at text)) ≡ end
  line_length h = let e = length-take-le (end - at) (drop at text) (omega (arith, length-drop at text)) in omega arith

pub end_is : (text : List ℕ) (at r : ℕ) → r ≡ run_to true (take (length text - at) (drop at text)) → at + r ≡ at + run_to true (drop at text)
end_is text at r e = ap (λ (n : ℕ). at + n) (e ∙ ap (run_to true) (take_all (length text - at) (drop at text) (omega (arith, length-drop at text))))

-- ---- one turn of the loop
module _ (table : Bool) (text : List ℕ) (old : List Float) (s : Given) (p n at : ℕ) (y : List Float) (end : ℕ) (start : at ≤ length text) (found : end ≡ at + run_to true (drop at text)) (within : end ≤ length text) (going : Going table text old (lines_of (drop at text)) s p n at y) where
  -- the line is wrong
  pub stopped : (f : Fault) → line_fault table s p (take (end - at) (drop at text)) ≡ Err f → (Err (wrong_line (n + 1) at (take (end - at) (drop at text)) f) ≡ sheet_of table text) × Filled (readings_of table text) old y
  stopped f h = go (ltb end (length text)) refl
    where
      by : (ls : List (List ℕ)) → lines_of (drop at text) ≡ take (end - at) (drop at text) ∷ ls → (Err (wrong_line (n + 1) at (take (end - at) (drop at text)) f) ≡ sheet_of table text) × Filled (readings_of table text) old y
      by ls q = stop table text old s p n at y (take (end - at) (drop at text)) ls f h (subst (λ (x : List (List ℕ)). Going table text old x s p n at y) q going)

      go : (b : Bool) → ltb end (length text) ≡ b → (Err (wrong_line (n + 1) at (take (end - at) (drop at text)) f) ≡ sheet_of table text) × Filled (readings_of table text) old y
      go true q = by (lines_of (drop (end + 1) text)) (cut_more text at end start found (ltb-true end (length text) q))
      go false q = by [] (cut_last text at end start found (ltb-false end (length text) q))

  -- the line is right
  module _ (t : Tokens) (s₂ : Given) (p₂ : ℕ) (y₂ : List Float) (words : t ≡ line_tokens (take (end - at) (drop at text))) (right : fault_of table s p t ≡ right) (count : p₂ ≡ counted p t) (laid : Laid (2 * p) (line_readings table t) y y₂) (after : s₂ ≡ settled s t) where
    passed : (ls : List (List ℕ)) → lines_of (drop at text) ≡ take (end - at) (drop at text) ∷ ls → Going table text old ls s₂ p₂ (n + 1) (end + 1) y₂
    passed ls q =
        let l = take (end - at) (drop at text) in
        let h : line_fault table s p l ≡ Ok tt = sym (ap (λ (x : Tokens). fault_of table s p x) words) ∙ right in
        let d = subst (λ (x : Tokens). Laid (2 * p) (line_readings table x) y y₂) words laid in
        let g = next table text old s p n at y l ls y₂ h d (subst (λ (x : List (List ℕ)). Going table text old x s p n at y) q going) in
        let k : suc (at + length l) ≡ end + 1 = sym (add-one (at + length l)) ∙ ap (λ (x : ℕ). x + 1) (line_length text at end start found within) in
        subst (λ (x : Given). Going table text old ls x p₂ (n + 1) (end + 1) y₂) (sym (after ∙ ap (settled s) words))
        (subst (λ (x : ℕ). Going table text old ls (settled s (line_tokens l)) x (n + 1) (end + 1) y₂) (sym (count ∙ ap (counted p) words))
        (subst (λ (x : ℕ). Going table text old ls (settled s (line_tokens l)) (counted p (line_tokens l)) x (end + 1) y₂) (sym (add-one n))
        (subst (λ (x : ℕ). Going table text old ls (settled s (line_tokens l)) (counted p (line_tokens l)) (suc n) x y₂) k g)))

    pub onward : end < length text → Going table text old (lines_of (drop (end + 1) text)) s₂ p₂ (n + 1) (end + 1) y₂
    onward h = passed (lines_of (drop (end + 1) text)) (cut_more text at end start found h)

    pub ended : length text ≤ end → (end_of s₂ p₂ (n + 1) end ≡ sheet_of table text) × Filled (readings_of table text) old y₂
    ended h =
        let e : end ≡ length text = omega arith in
        let r = done table text old s₂ p₂ (n + 1) (end + 1) y₂ (passed [] (cut_last text at end start found h)) in
        (ap (end_of s₂ p₂ (n + 1)) e ∙ r.0, r.1)
