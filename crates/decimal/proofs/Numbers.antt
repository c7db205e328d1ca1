-- Laws of the reader: a loop's step, and the cases of the definitions by the list's length. Assumes nothing.
use mathlib.Core.Path.{◌≡◌, refl, sym, ap, ◌∙◌}
use mathlib.Core.Bool.{Bool, true, false, cond}
use mathlib.Core.List.{List, [], ◌∷◌}
use Prim.Native.Nat.{ℕ, zero, suc, ◌+◌, ◌-◌, ◌*◌, ◌^◌, ◌≤◌, ◌<◌, min}
use native.Mathlib.Nat.{le_of_eq, not-suc-le-zero, min-eq_left, min-eq_right, pow-suc, pow-le-pow_right, zero-lt-suc}
use native.Mathlib.Numerals.{add-one}
use native.Mathlib.Omega.{arith}
use lib.Dec.{leb, eqb}
use lib.ListN.{length, take, drop, get_or, length-drop}
use lib.Seq.{drop-cons, take_all}
use borrow.Author.Tests.{leb-true, leb-false}
use Rattle.std.proofs.lemmas.Bool.Decides.{nat_tests}
use Rattle.std.specs.Char.{is_ascii_digit}
use Rattle.std.specs.Prelude.{Ok, Err, Option, Some, None, MatchOption, ◌⊎◌}
use Rattle.std.specs.List.{slice_range}
use Rattle.std.specs.Option.{unwrap_or}
use Rattle.std.proofs.Common.{Bor}
use Rattle.decimal.specs.declared.answers.NotRead.TheVariants.{Empty, TooLong, NotANumber}
use Rattle.decimal.specs.Reading.{is_digit, all_digits, value_from, whole, number_of, read_of, stretch}

pub digit_is : (b : ℕ) → is_ascii_digit b ≡ is_digit b
unfolding is_digit
digit_is b = grind (arith, nat_tests)

pub value_step : (s : List ℕ) (n i : ℕ) → i < length s → value_from n (drop i s) ≡ value_from (n * 10 + (get_or s i 0 - 48)) (drop (i + 1) s)
unfolding value_from
value_step s n i h = ap (value_from n) (drop-cons s i 0 h) ∙ ap (λ (j : ℕ). value_from (n * 10 + (get_or s i 0 - 48)) (drop j s)) (sym (add-one i))

-- n is below 24 * 10 ^ i: 207, what a byte adds at most, is below 9 * 24
pub value_grows : (n d i : ℕ) → n + 24 ≤ 24 * 10 ^ i → d ≤ 207 → n * 10 + d + 24 ≤ 24 * 10 ^ (i + 1)
value_grows n d i h k = let e : 10 ^ (i + 1) ≡ 10 ^ i * 10 = ap (λ (j : ℕ). 10 ^ j) (add-one i) ∙ pow-suc 10 i in omega arith

pub value_small : (n i : ℕ) → n + 24 ≤ 24 * 10 ^ i → i < 15 → n ≤ 24 * 10 ^ 14
value_small n i h k = let p : 10 ^ i ≤ 10 ^ 14 = pow-le-pow_right (zero-lt-suc 9) {i = i} {j = 14} (omega arith) in omega arith

pub at_end : (s : List ℕ) (i : ℕ) → length s ≤ i → drop i s ≡ []
at_end [] zero h = refl
at_end [] (suc i) h = refl
at_end (x ∷ xs) zero h = absurd (not-suc-le-zero h)
at_end (x ∷ xs) (suc i) h = at_end xs i (omega arith)

-- ---- by the length
pub number_none : (minus : Bool) (s : List ℕ) → length s ≡ 0 → number_of minus s ≡ Err NotANumber
unfolding number_of
number_none minus [] e = refl
number_none minus (b ∷ bs) e = absurd (omega (arith, e))

number_some : (minus : Bool) (s : List ℕ) → (length s ≡ 0 → ⊥) → number_of minus s ≡ cond (all_digits s) (cond (leb (length s) 15) (Ok (whole minus (value_from 0 s))) (Err TooLong)) (Err NotANumber)
unfolding number_of
number_some minus [] h = absurd (h refl)
number_some minus (b ∷ bs) h = refl

pub read_none : (s : List ℕ) → length s ≡ 0 → read_of s ≡ Err Empty
unfolding read_of
read_none [] e = refl
read_none (b ∷ bs) e = absurd (omega (arith, e))

read_some : (s : List ℕ) → (length s ≡ 0 → ⊥) → read_of s ≡ cond (eqb (get_or s 0 0) 45) (number_of true (drop 1 s)) (number_of false s)
unfolding read_of
read_some [] h = absurd (h refl)
read_some (b ∷ bs) h = refl

pub number_by : (minus : Bool) (s : List ℕ) (t u : Bool) → (length s ≡ 0 → ⊥) → all_digits s ≡ t → leb (length s) 15 ≡ u → number_of minus s ≡ cond t (cond u (Ok (whole minus (value_from 0 s))) (Err TooLong)) (Err NotANumber)
number_by minus s t u h p q =
    number_some minus s h
    ∙ ap (λ (b : Bool). cond b (cond (leb (length s) 15) (Ok (whole minus (value_from 0 s))) (Err TooLong)) (Err NotANumber)) p
    ∙ ap (λ (b : Bool). cond t (cond b (Ok (whole minus (value_from 0 s))) (Err TooLong)) (Err NotANumber)) q

pub read_by : (s : List ℕ) (t : Bool) → (length s ≡ 0 → ⊥) → eqb (get_or s 0 0) 45 ≡ t → read_of s ≡ cond t (number_of true (drop 1 s)) (number_of false s)
read_by s t h p = read_some s h ∙ ap (λ (b : Bool). cond b (number_of true (drop 1 s)) (number_of false s)) p

pub all_after : (s : List ℕ) (n : ℕ) → take (length s - n) (drop n s) ≡ drop n s
all_after s n = take_all (length s - n) (drop n s) (le_of_eq (length-drop n s))

-- ---- a stretch is cut to the text
cut : (text : List ℕ) (a e : ℕ) → take (min e (length text) - a) (drop a text) ≡ stretch text a e
unfolding stretch
cut text a e = go (leb e (length text)) refl
  where
    go : (t : Bool) → leb e (length text) ≡ t → take (min e (length text) - a) (drop a text) ≡ take (e - a) (drop a text)
    go true q = ap (λ (m : ℕ). take (m - a) (drop a text)) (min-eq_left (leb-true e (length text) q))
    go false q =
        let h = leb-false e (length text) q in
        ap (λ (m : ℕ). take (m - a) (drop a text)) (min-eq_right {n = length text} {m = e} (omega arith)) ∙ all_after text a ∙ sym (take_all (e - a) (drop a text) (omega (arith, length-drop a text)))

-- what `get` gives of it, or nothing
pub got : (text : List ℕ) (a e m : ℕ) (o : Option (Bor (List ℕ))) (d : Bor (List ℕ)) → m ≡ min e (length text) → d.now ≡ []
    → MatchOption o ((m < a) ⊎ (length text < m)) (λ x. (a ≤ m) × (m ≤ length text) × (x.now ≡ slice_range text a m) × (length x.now + a ≡ m))
    → (unwrap_or o d).now ≡ stretch text a e
got text a e m None d p q h =
    let z : m - a ≡ 0 = omega arith in
    q ∙ sym (ap (λ (k : ℕ). take k (drop a text)) z) ∙ ap (λ (k : ℕ). take (k - a) (drop a text)) p ∙ cut text a e
got text a e m (Some x) d p q h = h.2 ∙ ap (λ (k : ℕ). take (k - a) (drop a text)) p ∙ cut text a e
