-- Laws of the printer: a byte written before what stands, a part before a part, and the text's length. Assumes nothing.
use mathlib.Core.Path.{◌≡◌, refl, sym, ap, ◌∙◌, subst}
use mathlib.Core.Bool.{Bool, true, false, ◌&&◌, and-false, cond, true≢false}
use mathlib.Core.List.{List, [], ◌∷◌, ◌++◌, append_assoc}
use Prim.Native.Nat.{ℕ, zero, suc, ◌+◌, ◌-◌, ◌*◌, ◌/◌, ◌%◌, ◌^◌, ◌≤◌, ◌<◌, max}
use native.Mathlib.Nat.{le_refl, zero-add, add-zero, pow-suc, pow-le-pow_right, zero-lt-suc}
use Rattle.std.proofs.Common.{◌⊎◌, ⊎_elim}
use Rattle.std.proofs.Math.Nat.{one-le-pow}
use Rattle.std.proofs.lemmas.Bool.{cases_order}
use native.Mathlib.Numerals.{add-one}
use native.Mathlib.Omega.{arith}
use lib.ListN.{length, take, drop, set, replicate, length-set, length-append, take-append-drop}
use lib.Seq.{drop-cons, take-set-le, drop-set-lt, get_or-set_same, take-take, take_at, length-take-le}
use lib.Dec.{leb}
use borrow.Author.Tests.{le-leb, lt-leb}
use Rattle.decimal.specs.Printed.{digits_onto, places_in, places_of, places_are, sign_of, sign_width, fraction_onto, point_width, text_of, shown, fits_in, put_in, Onto, plain_of, Added}

-- ---- one byte, where what stands before it is as it was
pub byte_before : (old out : List ℕ) (j b : ℕ) → take (suc j) out ≡ take (suc j) old → take j (set out j b) ≡ take j old
byte_before old out j b e =
    take-set-le j out j b (le_refl j) ∙ sym (take-take j (suc j) out (less j)) ∙ ap (take j) e ∙ take-take j (suc j) old (less j)
  where
    less : (j : ℕ) → j ≤ suc j
    less j = omega arith

pub byte_after : (out : List ℕ) (j b : ℕ) → j < length out → drop j (set out j b) ≡ b ∷ drop (suc j) out
byte_after out j b h =
    drop-cons (set out j b) j 0 (subst (λ (n : ℕ). j < n) (sym (length-set out j b)) h)
    ∙ ap (λ (x : ℕ). x ∷ drop (suc j) (set out j b)) (get_or-set_same out j b 0 h)
    ∙ ap (λ (l : List ℕ). b ∷ l) (drop-set-lt (suc j) out j b (le_refl (suc j)))

-- ---- a loop that writes from the end: the byte at i - 1
pub byte_on : (old out : List ℕ) (a i b : ℕ) → 0 < i → a + i ≤ length out → take (a + i) out ≡ take (a + i) old
    → (take (a + (i - 1)) (set out (a + (i - 1)) b) ≡ take (a + (i - 1)) old) × (drop (a + (i - 1)) (set out (a + (i - 1)) b) ≡ b ∷ drop (a + i) out)
byte_on old out a i b h l e =
    let j = a + (i - 1) in
    let q : suc j ≡ a + i = omega arith in
    (byte_before old out j b (subst (λ (m : ℕ). take m out ≡ take m old) (sym q) e), byte_after out j b (omega arith) ∙ ap (λ (m : ℕ). b ∷ drop m out) q)

pub digit_on : (i n b : ℕ) (l : List ℕ) → 0 < i → b ≡ 48 + n % 10 → digits_onto (i - 1) (n / 10) (b ∷ l) ≡ digits_onto i n l
unfolding digits_onto
digit_on zero n b l h e = absurd (omega (arith, h))
digit_on (suc i) n b l h e = ap (λ (m : ℕ). digits_onto m (n / 10) (b ∷ l)) (one_less i) ∙ ap (λ (x : ℕ). digits_onto i (n / 10) (x ∷ l)) e
  where
    one_less : (i : ℕ) → suc i - 1 ≡ i
    one_less i = omega arith

pub at_last : (old out : List ℕ) (a k i n r : ℕ) → i ≡ 0 → length out ≡ length old → take (a + i) out ≡ take (a + i) old → digits_onto i r (drop (a + i) out) ≡ digits_onto k n (drop (a + k) old)
    → Onto a (digits_onto k n (drop (a + k) old)) old out
unfolding digits_onto
at_last old out a k i n r z l t d =
    let e : a + i ≡ a = omega arith in
    record {
      before = subst (λ (m : ℕ). take m out ≡ take m old) e t;
      after = sym (ap (λ (m : ℕ). drop m out) e) ∙ sym (ap (λ (j : ℕ). digits_onto j r (drop (a + i) out)) z) ∙ d;
      long = l;
    }

-- ---- how many digits: one more than the power of ten that the number reaches
pub places_by : (n m r : ℕ) → m ≡ max n 1 → 10 ^ r ≤ m → m < 10 * 10 ^ r → n < 10 ^ 20 → r + 1 ≡ places_of n
unfolding places_of places_in
places_by zero m zero e lo hi h = refl
places_by zero m (suc r) e lo hi h = let p = pow-suc 10 r in let q : 1 ≤ 10 ^ r = one-le-pow r 10 (zero-lt-suc 9) in absurd (omega (arith, e, lo))
places_by (suc n) m r e lo hi h =
    let same : m ≡ suc n = omega arith in
    let k = places_of (suc n) in
    let are = places_are (suc n) h in
    ⊎_elim
    (λ (q : k ≡ r + 1). sym q)
    (λ (q : (k < r + 1) ⊎ (r + 1 < k)). ⊎_elim
    (λ (l : k < r + 1). let p : 10 ^ k ≤ 10 ^ r = pow-le-pow_right (zero-lt-suc 9) {i = k} {j = r} (omega arith) in let a = are.0 in absurd (omega arith))
    (λ (l : r + 1 < k).
    let p : 10 ^ suc r ≤ 10 ^ (k - 1) = pow-le-pow_right (zero-lt-suc 9) {i = suc r} {j = k - 1} (omega arith) in
    let a : 10 ^ (k - 1) ≤ suc n = are.1 (omega arith) in
    let b = pow-suc 10 r in
    absurd (omega arith))
    q)
    (cases_order k (r + 1))

-- ---- the sign and the point
pub point_some : (d : ℕ) → (d ≡ 0 → ⊥) → point_width d ≡ d + 1
unfolding point_width
point_some zero h = absurd (h refl)
point_some (suc d) h = sym (add-one (suc d))

pub sign_some : (minus : Bool) → minus ≡ true → sign_width minus ≡ 1
unfolding sign_width
sign_some minus e = ap sign_width e

pub sign_minus : (old : List ℕ) (a : ℕ) (minus : Bool) → minus ≡ true → a < length old → Onto a (sign_of minus ++ drop (a + sign_width minus) old) old (set old a 45)
unfolding sign_of sign_width
sign_minus old a false e h = absurd (true≢false (sym e))
sign_minus old a true e h = record {
  before = take-set-le a old a 45 (le_refl a);
  after = byte_after old a 45 h ∙ ap (λ (m : ℕ). 45 ∷ drop m old) (sym (add-one a));
  long = length-set old a 45;
}

pub sign_plus : (old : List ℕ) (a : ℕ) (minus : Bool) → minus ≡ false → Onto a (sign_of minus ++ drop (a + sign_width minus) old) old old
unfolding sign_of sign_width
sign_plus old a true e = absurd (true≢false e)
sign_plus old a false e = record { before = refl; after = ap (λ (m : ℕ). drop m old) (sym (add-zero a)); long = refl }

pub fraction_none : (old : List ℕ) (a d n : ℕ) → d ≡ 0 → Onto a (fraction_onto d n (drop (a + point_width d) old)) old old
unfolding fraction_onto point_width
fraction_none old a (suc d) n e = absurd (omega (arith, e))
fraction_none old a zero n e = record { before = refl; after = ap (λ (m : ℕ). drop m old) (sym (add-zero a)); long = refl }

pub fraction_some : (old out : List ℕ) (a d n : ℕ) → (d ≡ 0 → ⊥) → a < length old → Onto (a + 1) (digits_onto d n (drop (a + 1 + d) old)) old out → Onto a (fraction_onto d n (drop (a + point_width d) old)) old (set out a 46)
unfolding fraction_onto point_width
fraction_some old out a zero n z h p = absurd (z refl)
fraction_some old out a (suc d) n z h p = record {
  before = byte_before old out a 46 (subst (λ (m : ℕ). take m out ≡ take m old) (add-one a) p.before);
  after = byte_after out a 46 (subst (λ (m : ℕ). a < m) (sym p.long) h)
      ∙ ap (λ (l : List ℕ). 46 ∷ l) (ap (λ (m : ℕ). drop m out) (sym (add-one a)) ∙ p.after ∙ ap (λ (m : ℕ). digits_onto (suc d) n (drop m old)) (same a d));
  long = length-set out a 46 ∙ p.long;
}
  where
    same : (a d : ℕ) → a + 1 + suc d ≡ a + suc (suc d)
    same a d = omega arith

-- ---- a part, and then one before it
pub onward : (a b : ℕ) (s t o₀ o₁ o₂ : List ℕ) → a ≤ b → Onto b s o₀ o₁ → Onto a t o₁ o₂ → Onto a t o₀ o₂
onward a b s t o₀ o₁ o₂ h p q = record {
  before = q.before ∙ sym (take-take a b o₁ h) ∙ ap (take a) p.before ∙ take-take a b o₀ h;
  after = q.after;
  long = q.long ∙ p.long;
}

pub whole : (a : ℕ) (t old new : List ℕ) → Onto a t old new → new ≡ take a old ++ t
whole a t old new p = sym (take-append-drop a new) ∙ ap (λ (l : List ℕ). l ++ drop a new) p.before ∙ ap (λ (l : List ℕ). take a old ++ l) p.after

-- ---- before a list, and before none
pub digits_append : (k n : ℕ) (a l : List ℕ) → digits_onto k n (a ++ l) ≡ digits_onto k n a ++ l
unfolding digits_onto
digits_append zero n a l = refl
digits_append (suc k) n a l = digits_append k (n / 10) ((48 + n % 10) ∷ a) l

pub fraction_append : (d n : ℕ) (a l : List ℕ) → fraction_onto d n (a ++ l) ≡ fraction_onto d n a ++ l
unfolding fraction_onto
fraction_append zero n a l = refl
fraction_append (suc d) n a l = ap (λ (x : List ℕ). 46 ∷ x) (digits_append (suc d) n a l)

pub text_append : (d : ℕ) (minus : Bool) (n : ℕ) (l : List ℕ) → sign_of minus ++ digits_onto (places_of (n / 10 ^ d)) (n / 10 ^ d) (fraction_onto d (n % 10 ^ d) l) ≡ text_of d minus n ++ l
unfolding text_of
text_append d minus n l =
    let w = n / 10 ^ d in
    ap (λ (x : List ℕ). sign_of minus ++ digits_onto (places_of w) w x) (fraction_append d (n % 10 ^ d) [] l)
    ∙ ap (λ (x : List ℕ). sign_of minus ++ x) (digits_append (places_of w) w (fraction_onto d (n % 10 ^ d) []) l)
    ∙ sym (append_assoc (sign_of minus) (digits_onto (places_of w) w (fraction_onto d (n % 10 ^ d) [])) l)

-- ---- lengths
length_digits : (k n : ℕ) (l : List ℕ) → length (digits_onto k n l) ≡ k + length l
unfolding digits_onto
length_digits zero n l = sym (zero-add (length l))
length_digits (suc k) n l = length_digits k (n / 10) ((48 + n % 10) ∷ l) ∙ (omega arith)

length_fraction : (d n : ℕ) → length (fraction_onto d n []) ≡ point_width d
unfolding fraction_onto point_width
length_fraction zero n = refl
length_fraction (suc d) n = ap suc (length_digits (suc d) n [] ∙ add-zero (suc d))

length_sign : (minus : Bool) → length (sign_of minus) ≡ sign_width minus
unfolding sign_of sign_width
length_sign true = refl
length_sign false = refl

pub length_text : (d : ℕ) (minus : Bool) (n : ℕ) → length (text_of d minus n) ≡ sign_width minus + (places_of (n / 10 ^ d) + point_width d)
unfolding text_of
length_text d minus n =
    let w = n / 10 ^ d in
    let f = fraction_onto d (n % 10 ^ d) [] in
    omega (arith, length-append (sign_of minus) (digits_onto (places_of w) w f), length_digits (places_of w) w f, length_fraction d (n % 10 ^ d), length_sign minus)

-- ---- the whole field, from its end to its start
pub field_by : (old o₁ o₂ o₃ o₄ : List ℕ) (at pad r k w d f : ℕ) (minus : Bool) → r ≡ sign_width minus
    → Onto (at + pad + r + k) (fraction_onto d f (drop (at + pad + r + k + point_width d) old)) old o₁
    → Onto (at + pad + r) (digits_onto k w (drop (at + pad + r + k) o₁)) o₁ o₂
    → Onto (at + pad) (sign_of minus ++ drop (at + pad + sign_width minus) o₂) o₂ o₃
    → Onto at (replicate pad 32 ++ drop (at + pad) o₃) o₃ o₄
    → Onto at (replicate pad 32 ++ (sign_of minus ++ digits_onto k w (fraction_onto d f (drop (at + (pad + (sign_width minus + (k + point_width d)))) old)))) old o₄
field_by old o₁ o₂ o₃ o₄ at pad r k w d f minus e p₁ p₂ p₃ p₄ =
    let q₂ = onward (at + pad + r) (at + pad + r + k) _ _ old o₁ o₂ (more (at + pad + r) k) p₁ p₂ in
    let q₃ = onward (at + pad) (at + pad + r) _ _ old o₂ o₃ (more (at + pad) r) q₂ p₃ in
    let q₄ = onward at (at + pad) _ _ old o₃ o₄ (more at pad) q₃ p₄ in
    subst (λ (t : List ℕ). Onto at t old o₄)
    (ap (λ (l : List ℕ). replicate pad 32 ++ l)
    (p₃.after
    ∙ ap (λ (l : List ℕ). sign_of minus ++ l)
    (ap (λ (x : ℕ). drop (at + pad + x) o₂) (sym e)
    ∙ p₂.after
    ∙ ap (digits_onto k w) (p₁.after ∙ ap (λ (m : ℕ). fraction_onto d f (drop m old)) (sum at pad r k (sign_width minus) (point_width d) e)))))
    q₄
  where
    more : (a b : ℕ) → a ≤ a + b
    more a b = omega arith

    sum : (at pad r k s p : ℕ) → r ≡ s → at + pad + r + k + p ≡ at + (pad + (s + (k + p)))
    sum at pad r k s p e = omega arith

-- ---- what the whole call leaves
pub past_end : (len at width d : ℕ) (minus : Bool) (n : ℕ) → len < at + width → fits_in len at width d minus n ≡ false
unfolding fits_in
past_end len at width d minus n h = ap (λ (b : Bool). b && leb (length (text_of d minus n)) width) (lt-leb (at + width) len h)

pub too_wide : (len at width d : ℕ) (minus : Bool) (n : ℕ) → width < length (text_of d minus n) → fits_in len at width d minus n ≡ false
unfolding fits_in
too_wide len at width d minus n h = ap (λ (b : Bool). leb (at + width) len && b) (lt-leb (length (text_of d minus n)) width h) ∙ and-false (leb (at + width) len)

pub not_put : (old : List ℕ) (at width d : ℕ) (minus : Bool) (n : ℕ) → fits_in (length old) at width d minus n ≡ false → (false ≡ fits_in (length old) at width d minus n) × (old ≡ put_in at width d minus n old)
unfolding put_in
not_put old at width d minus n e = (sym e, sym (ap (λ (b : Bool). cond b (take at old ++ (shown width d minus n ++ drop (at + width) old)) old) e))

pub needed : (d : ℕ) (minus : Bool) (n p k r s : ℕ) → p ≡ 10 ^ d → k ≡ places_of (n / p) → r ≡ sign_width minus → s ≡ point_width d → r + (k + s) ≡ length (text_of d minus n)
needed d minus n p k r s P K R S = let e : k ≡ places_of (n / 10 ^ d) = K ∙ ap (λ (x : ℕ). places_of (n / x)) P in omega (arith, length_text d minus n)

pub put_by : (old new : List ℕ) (at width d : ℕ) (minus : Bool) (n p k need : ℕ) → p ≡ 10 ^ d → k ≡ places_of (n / p) → need ≡ length (text_of d minus n) → need ≡ sign_width minus + (k + point_width d) → at + width ≤ length old → need ≤ width
    → Onto at (replicate (width - need) 32 ++ (sign_of minus ++ digits_onto k (n / p) (fraction_onto d (n % p) (drop (at + (width - need + (sign_width minus + (k + point_width d)))) old)))) old new
    → (true ≡ fits_in (length old) at width d minus n) × (new ≡ put_in at width d minus n old)
unfolding fits_in put_in shown
put_by old new at width d minus n p k need P K N S h g o =
    let l = drop (at + width) old in
    let end : at + (width - need + (sign_width minus + (k + point_width d))) ≡ at + width = omega arith in
    let t = text_of d minus n in
    let yes : (leb (at + width) (length old) && leb (length t) width) ≡ true =
    ap (λ (x : Bool). x && leb (length t) width) (le-leb (at + width) (length old) h) ∙ le-leb (length t) width (subst (λ (x : ℕ). x ≤ width) N g) in (
      sym yes,
      whole at _ old new o
          ∙ ap (λ (x : List ℕ). take at old ++ x)
          (ap (λ (e : ℕ). replicate (width - need) 32 ++ (sign_of minus ++ digits_onto k (n / p) (fraction_onto d (n % p) (drop e old)))) end
          ∙ ap (λ (x : ℕ). replicate (width - need) 32 ++ (sign_of minus ++ digits_onto x (n / p) (fraction_onto d (n % p) l))) K
          ∙ ap (λ (x : ℕ). replicate (width - need) 32 ++ (sign_of minus ++ digits_onto (places_of (n / x)) (n / x) (fraction_onto d (n % x) l))) P
          ∙ ap (λ (x : List ℕ). replicate (width - need) 32 ++ x) (text_append d minus n l)
          ∙ ap (λ (x : ℕ). replicate (width - x) 32 ++ (t ++ l)) N
          ∙ sym (append_assoc (replicate (width - length t) 32) t l))
          ∙ sym (ap (λ (x : Bool). cond x (take at old ++ (replicate (width - length t) 32 ++ t ++ l)) old) yes),
    )

-- ---- what stands from a place on, with nothing around it
pub added : (a e : ℕ) (t l old new : List ℕ) → a ≤ length old → e ≡ a + length t → Onto a (t ++ l) old new → Added a t old e new
added a e t l old new h q o =
    let f : length (take a old) ≡ a = length-take-le a old h in
    let g : length (take a old ++ t) ≡ e = length-append (take a old) t ∙ omega arith in
    record {
      end = q;
      said = ap (take e) (whole a (t ++ l) old new o ∙ sym (append_assoc (take a old) t l)) ∙ take_at (take a old ++ t) l e g;
      long = o.long;
    }

pub plain_by : (a k n : ℕ) (old new : List ℕ) → a ≤ length old → k ≡ places_of n → Onto a (digits_onto k n (drop (a + k) old)) old new → Added a (plain_of n) old (a + k) new
unfolding plain_of
plain_by a k n old new h q o =
    let l = drop (a + k) old in
    let e : digits_onto k n l ≡ digits_onto (places_of n) n [] ++ l = ap (λ (x : ℕ). digits_onto x n l) q ∙ digits_append (places_of n) n [] l in
    let m : a + k ≡ a + length (digits_onto (places_of n) n []) = let d = length_digits (places_of n) n [] in omega arith in
    added a (a + k) (digits_onto (places_of n) n []) l old new h m (subst (λ (t : List ℕ). Onto a t old new) e o)
