-- The words of a line, over the list of its bytes. A blank is a space (32) or a tab (9).
use Rattle.std.specs.Prelude.{◌≡◌, refl, Bool, true, false, not, cond, List, [], ◌∷◌, ℕ, zero, suc, ◌+◌, ◌-◌, ◌≤◌, ◌<◌, min, eqb, length, drop, get_or}
use Rattle.std.proofs.Common.{sym, ap, ◌∙◌, subst, true≢false, zero-le, suc-le-suc, le_of_suc-le-suc, not-suc-le-zero, le_of_lt, arith, length-drop, get_or-drop}
use Rattle.std.proofs.Math.Nat.{min-le_right}
use Rattle.decimal.specs.declared.answers.Span.{Span}

unfoldable pub is_blank : ℕ → Bool
is_blank b = cond (eqb b 32) true (eqb b 9)

-- whether b goes on a run of blanks (true), or of other bytes (false)
unfoldable pub keeps : Bool → ℕ → Bool
keeps blanks b = cond (is_blank b) blanks (not blanks)

-- how many bytes at the start are all blanks, or all no blanks
unfoldable pub run_of : Bool → List ℕ → ℕ
run_of blanks [] = 0
run_of blanks (b ∷ bs) = cond (keeps blanks b) (suc (run_of blanks bs)) 0

-- from the first byte at or after `at` that is no blank, up to the next blank. A place past the end counts as the end.
unfoldable pub word_at : List ℕ → ℕ → Span
word_at line at =
    let start = min at (length line) in
    let from = start + run_of true (drop start line) in
    record { from = from; to = from + run_of false (drop from line) }

-- ---- which stretch that is

run_le : (t : Bool) (bs : List ℕ) → run_of t bs ≤ length bs
unfolding run_of
run_le t [] = zero-le
run_le t (b ∷ bs) = go (run_le t bs) (keeps t b)
  where
    go : run_of t bs ≤ length bs → (k : Bool) → cond k (suc (run_of t bs)) 0 ≤ suc (length bs)
    go i true = suc-le-suc i
    go i false = zero-le

run_all : (t : Bool) (bs : List ℕ) (i : ℕ) → i < run_of t bs → keeps t (get_or bs i 0) ≡ true
unfolding run_of
run_all t [] i h = absurd (not-suc-le-zero h)
run_all t (b ∷ bs) i h = go (run_all t bs) (keeps t b) refl i h
  where
    go : ((i : ℕ) → i < run_of t bs → keeps t (get_or bs i 0) ≡ true) → (k : Bool) → keeps t b ≡ k → (i : ℕ) → i < cond k (suc (run_of t bs)) 0 → keeps t (get_or (b ∷ bs) i 0) ≡ true
    go r true e zero h = e
    go r true e (suc i) h = r i (le_of_suc-le-suc h)
    go r false e i h = absurd (not-suc-le-zero h)

run_stops : (t : Bool) (bs : List ℕ) → run_of t bs < length bs → keeps t (get_or bs (run_of t bs) 0) ≡ false
unfolding run_of
run_stops t [] h = absurd (not-suc-le-zero h)
run_stops t (b ∷ bs) h = go (run_stops t bs) (keeps t b) refl h
  where
    go : (run_of t bs < length bs → keeps t (get_or bs (run_of t bs) 0) ≡ false) → (k : Bool) → keeps t b ≡ k → cond k (suc (run_of t bs)) 0 < suc (length bs) → keeps t (get_or (b ∷ bs) (cond k (suc (run_of t bs)) 0) 0) ≡ false
    go r true e h = r (le_of_suc-le-suc h)
    go r false e h = e

goes_on : (t : Bool) (b : ℕ) (k : Bool) → keeps t b ≡ k → is_blank b ≡ cond k t (not t)
unfolding keeps
goes_on t b k e = go t (is_blank b) k e
  where
    go : (t c k : Bool) → cond c t (not t) ≡ k → c ≡ cond k t (not t)
    go true true k e = ap (λ (z : Bool). cond z true false) e
    go true false k e = ap (λ (z : Bool). cond z true false) e
    go false true k e = ap (λ (z : Bool). cond z false true) e
    go false false k e = ap (λ (z : Bool). cond z false true) e

-- from `start`: blanks, then a run with no blank, which only the end of the line leaves empty, then a blank or the end
pub record IsWord (line : List ℕ) (start from to : ℕ) : Type 0 where
  pub after : start ≤ from
  pub order : from ≤ to
  pub within : to ≤ length line
  pub blanks : (i : ℕ) → start ≤ i → i < from → is_blank (get_or line i 0) ≡ true
  pub letters : (i : ℕ) → from ≤ i → i < to → is_blank (get_or line i 0) ≡ false
  pub ends : to < length line → is_blank (get_or line to 0) ≡ true
  pub some : from < length line → from < to

module _ (line : List ℕ) (t : Bool) (a : ℕ) (within : a ≤ length line) where
  to_end : a + run_of t (drop a line) ≤ length line
  to_end = let h = run_le t (drop a line) in omega (arith, length-drop a line)

  each : (i : ℕ) → a ≤ i → i < a + run_of t (drop a line) → keeps t (get_or line i 0) ≡ true
  each i lo hi = let e : a + (i - a) ≡ i = omega arith in subst (λ (j : ℕ). keeps t (get_or line j 0) ≡ true) e (rw get_or-drop at (run_all t (drop a line) (i - a) (omega arith)))

  last : a + run_of t (drop a line) < length line → keeps t (get_or line (a + run_of t (drop a line)) 0) ≡ false
  last h = rw get_or-drop at (run_stops t (drop a line) (omega (arith, length-drop a line)))

word_some : (line : List ℕ) (a : ℕ) → a < length line → is_blank (get_or line a 0) ≡ false → 0 < run_of false (drop a line)
word_some line a h e = go (run_of false (drop a line)) refl
  where
    go : (r : ℕ) → run_of false (drop a line) ≡ r → 0 < r
    go (suc r) q = suc-le-suc zero-le
    go zero q =
        let s : keeps false (get_or line (a + run_of false (drop a line)) 0) ≡ false = last line false a (le_of_lt h) (omega arith) in
        let z : a + run_of false (drop a line) ≡ a = omega arith in
        absurd (true≢false (sym (goes_on false (get_or line a 0) false (subst (λ (j : ℕ). keeps false (get_or line j 0) ≡ false) z s)) ∙ e))

pub word_is : (line : List ℕ) (at : ℕ) → IsWord line (min at (length line)) (word_at line at).from (word_at line at).to
unfolding word_at
word_is line at =
    let start = min at (length line) in
    let s : start ≤ length line = min-le_right at (length line) in
    let from = start + run_of true (drop start line) in
    let f : from ≤ length line = to_end line true start s in
    record {
      after = omega arith;
      order = omega arith;
      within = to_end line false from f;
      blanks = λ i lo hi. goes_on true (get_or line i 0) true (each line true start s i lo hi);
      letters = λ i lo hi. goes_on false (get_or line i 0) true (each line false from f i lo hi);
      ends = λ h. goes_on false (get_or line (from + run_of false (drop from line)) 0) false (last line false from f h);
      some = λ h. let r = word_some line from h (goes_on true (get_or line from 0) false (last line true start s h)) in omega arith;
    }
