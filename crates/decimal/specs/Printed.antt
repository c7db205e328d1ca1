-- A whole number of a decimal unit as text. A minus or none; the digits before the point, at least one; and for one decimal or more a point and as many digits.
use Rattle.std.specs.Prelude.{◌≡◌, refl, Bool, true, false, ◌&&◌, cond, List, [], ◌∷◌, ◌++◌, ℕ, zero, suc, ◌+◌, ◌-◌, ◌/◌, ◌%◌, ◌^◌, ◌≤◌, ◌<◌, ltb, leb, length, take, drop, replicate}
use Rattle.std.proofs.Common.{sym, subst, pow-suc, arith, ltb-true, ltb-false}

-- the last k digits of n, the most significant first, before the list l
unfoldable pub digits_onto : ℕ → ℕ → List ℕ → List ℕ
digits_onto zero n l = l
digits_onto (suc k) n l = digits_onto k (n / 10) ((48 + n % 10) ∷ l)

-- How many digits n has, at most f + 1 of them looked for. A u64 has at most 20.
unfoldable pub places_in : ℕ → ℕ → ℕ
places_in zero n = 1
places_in (suc f) n = cond (ltb n 10) 1 (suc (places_in f (n / 10)))

unfoldable pub places_of : ℕ → ℕ
places_of n = places_in 19 n

unfoldable pub sign_of : Bool → List ℕ
sign_of true = 45 ∷ []
sign_of false = []

unfoldable pub sign_width : Bool → ℕ
sign_width true = 1
sign_width false = 0

-- the point and the decimals, before the list l
unfoldable pub fraction_onto : ℕ → ℕ → List ℕ → List ℕ
fraction_onto zero n l = l
fraction_onto (suc d) n l = 46 ∷ digits_onto (suc d) n l

unfoldable pub point_width : ℕ → ℕ
point_width zero = 0
point_width (suc d) = suc (suc d)

-- the number with no blanks
unfoldable pub text_of : ℕ → Bool → ℕ → List ℕ
text_of d minus n = sign_of minus ++ digits_onto (places_of (n / 10 ^ d)) (n / 10 ^ d) (fraction_onto d (n % 10 ^ d) [])

-- right-aligned in a field
unfoldable pub shown : ℕ → ℕ → Bool → ℕ → List ℕ
shown width d minus n = replicate (width - length (text_of d minus n)) 32 ++ text_of d minus n

-- the field is in a list of so many bytes, and the number in the field
unfoldable pub fits_in : ℕ → ℕ → ℕ → ℕ → Bool → ℕ → Bool
fits_in len at width d minus n = leb (at + width) len && leb (length (text_of d minus n)) width

-- the list afterwards
unfoldable pub put_in : ℕ → ℕ → ℕ → Bool → ℕ → List ℕ → List ℕ
put_in at width d minus n out = cond (fits_in (length out) at width d minus n) (take at out ++ (shown width d minus n ++ drop (at + width) out)) out

-- from place a on the list is `tail`; before, and in length, it is as it was
pub record Onto (a : ℕ) (tail old new : List ℕ) : Type 0 where
  pub before : take a new ≡ take a old
  pub after : drop a new ≡ tail
  pub long : length new ≡ length old

-- ---- with no field: the digits of n, from a place on
unfoldable pub plain_of : ℕ → List ℕ
plain_of n = digits_onto (places_of n) n []

-- text stands at place a and ends at place e; before it, and in length, the list is as it was
pub record Added (a : ℕ) (text old : List ℕ) (e : ℕ) (new : List ℕ) : Type 0 where
  pub end : e ≡ a + length text
  pub said : take e new ≡ take a old ++ text
  pub long : length new ≡ length old

-- ---- `places_of` is the fewest digits that hold a number, and at least one: of all below 10 ^ 20, so of every u64
holds : (f n : ℕ) → n < 10 ^ suc f → n < 10 ^ places_in f n
unfolding places_in
holds zero n h = h
holds (suc f) n h = go (holds f (n / 10) (let a = pow-suc 10 (suc f) in omega arith)) (ltb n 10) refl
  where
    go : n / 10 < 10 ^ places_in f (n / 10) → (t : Bool) → ltb n 10 ≡ t → n < 10 ^ cond t 1 (suc (places_in f (n / 10)))
    go i true e = ltb-true n 10 e
    go i false e = let b = pow-suc 10 (places_in f (n / 10)) in omega arith

least : (f n : ℕ) → 1 < places_in f n → 10 ^ (places_in f n - 1) ≤ n
unfolding places_in
least zero n h = absurd (omega (arith, h))
least (suc f) n h = go (least f (n / 10)) (ltb n 10) refl h
  where
    up : (p : ℕ) → (1 < p → 10 ^ (p - 1) ≤ n / 10) → 10 ≤ n → 10 ^ p ≤ n
    up zero i h = omega arith
    up (suc zero) i h = h
    up (suc (suc p)) i h = let a = pow-suc 10 (suc p) in let e : suc (suc p) - 1 ≡ suc p = omega arith in let b : 10 ^ suc p ≤ n / 10 = subst (λ (k : ℕ). 10 ^ k ≤ n / 10) e (i (omega arith)) in omega arith

    go : (1 < places_in f (n / 10) → 10 ^ (places_in f (n / 10) - 1) ≤ n / 10) → (t : Bool) → ltb n 10 ≡ t → 1 < cond t 1 (suc (places_in f (n / 10))) → 10 ^ (cond t 1 (suc (places_in f (n / 10))) - 1) ≤ n
    go i true e h = absurd (omega (arith, h))
    go i false e h = let q : suc (places_in f (n / 10)) - 1 ≡ places_in f (n / 10) = omega arith in subst (λ (k : ℕ). 10 ^ k ≤ n) (sym q) (up (places_in f (n / 10)) i (ltb-false n 10 e))

pub places_are : (n : ℕ) → n < 10 ^ 20 → (n < 10 ^ places_of n) × (1 < places_of n → 10 ^ (places_of n - 1) ≤ n)
unfolding places_of
places_are n h = (holds 19 n h, least 19 n)
