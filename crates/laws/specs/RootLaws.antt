-- The square root is correctly rounded: of all values of the format, `sqrt_in f x` is the one nearest to the real root of x, and there is one such value only.
-- There are no real numbers here. In smallest values, 2 ^ -low, x is n, and its root is the root of N = n * 2 ^ low. Let r and y be R and Y smallest values.
-- That the root is nearer to r than to y says that it lies on r's side of the number half way between them, (R + Y) / 2. So N lies on r's side of that number's square.
-- It never lies on that square: so there is no tie, and nothing is left to "ties to even". Assumes nothing.
use Rattle.std.specs.Prelude.{◌≡◌, refl, Bool, true, false, not, ◌&&◌, cond, ℤ, pos, negsuc, T, leb, ltb, eqb, Float}
use Rattle.std.proofs.Common.{sym, ap, ◌∙◌, subst, add_comm, add-le-add, le_refl, le_trans, le_of_eq, le_of_lt, lt_trans, lt_of_lt_of_le, lt_of_le_of_lt, lt_of_not-le, lt_irrefl, zero-lt-suc, mul_comm, mul_assoc, mul-one, one-mul, mul_right_comm, add-mul, mul-le-mul, mul-le-mul_right, mul-pos, mul-lt-mul_of_pos_right, lt_of_mul-lt-mul_right, le_of_mul-le-mul_right, mul-div_cancel, div-one, zero-mul, le-div_iff_mul-le, le_antisymm, arith, leb→le, ltb→lt, lt→ltb, lit≤, pow_pos, pow-add, pow_mono, shl_lt}
use Prim.Native.Nat.{ℕ, zero, suc, ◌+◌, ◌-◌, ◌*◌, ◌/◌, ◌%◌, ◌^◌, ◌≤◌, ◌<◌, compare, Ordering}
use Rattle.std.proofs.Math.Nat.{mul-mul-mul_comm, eq_of_mul-eq-mul_right, zero-div}
use Rattle.std.proofs.Math.Decide.{dec_le}
use Rattle.std.proofs.Math.Pow.{pow-lt}
use Rattle.std.specs.Float.{nan, inf, fin, Format, binary32, binary64}
use Rattle.std.specs.Float.Ieee.{prec, emax, low, up, down, size, nearest, odd, units, fits, hid, to_bits, of_bits}
use Rattle.std.specs.Float.Ieee.Digits.{size-lt, size-le, size_reaches}
use Rattle.std.specs.Float.Ieee.Fits.{two, reach, and_l, and_r, up_pos, down_pos, odd-fits}
use Rattle.std.specs.Float.Ieee.Exact.{HasValue, units_val}
use Rattle.std.specs.Float.Ieee.Positive.{positive, positive_of_value}
use Rattle.std.specs.Float.Ieee.Bits.{of_bits-to_bits}
use Rattle.definition.specs.Root.{isqrt, smallests_in, root_of, sqrt_in}
use Rattle.laws.specs.Same.{pow_le_back}
use Rattle.laws.specs.Squares.{NearRoot, Cmp, cmp, next_sq, twice_sq, by_next, by_last, sq_lt, sq_lt_back, four_two, four_pos, isqrt_is, near_is, one_near, near_least, near_most, pow_lt_back, size_above}

-- ---- the statement

-- the root of N is nearer to R than to Y
pub record Nearer (N R Y : ℕ) : Type 0 where
  pub under : R < Y → 4 * N < (R + Y) * (R + Y)
  pub over : Y < R → (R + Y) * (R + Y) < 4 * N

-- finite, and the sign is not set
abbrev pub unsigned : Float → Bool
unsigned nan = false
unsigned (inf s) = false
unsigned (fin s m e) = not s

-- r is the root of x rounded to the format f: a value of f above zero, to which the root is nearer than to any other that is not negative
pub record Rounded (f : Format) (x r : Float) : Type 0 where
  pub held : T (fits f r)
  pub above : T (positive r)
  pub nearer : (y : Float) → T (fits f y) → T (unsigned y) → Nearer (smallests_in f x * 2 ^ low f) (smallests_in f r) (smallests_in f y)

-- what is finite and above zero has one form
pub positive_cases : (P : Float → Type 0) → ((m : ℕ) (e : ℤ) → P (fin false (suc m) e)) → (x : Float) → T (positive x) → P x
positive_cases P h nan p = absurd p
positive_cases P h (inf s) p = absurd p
positive_cases P h (fin true m e) p = absurd p
positive_cases P h (fin false zero e) p = absurd p
positive_cases P h (fin false (suc m) e) p = h m e

-- ---- a value of the format is `digits` times 2 ^ `place` smallest values, with `digits` of at most prec binary digits

record Whole (f : Format) (n : ℕ) : Type 0 where
  digits : ℕ
  place : ℕ
  is : n ≡ digits * 2 ^ place
  short : digits < 2 ^ prec f
  small : n < 2 ^ (low f + suc (emax f))

-- 2 ^ i in two parts
part : (i k : ℕ) → k ≤ i → 2 ^ i ≡ 2 ^ (i - k) * 2 ^ k
part i k h = ap (λ (x : ℕ). 2 ^ x) (back i k h) ∙ pow-add 2 (i - k) k
  where
    back : (i k : ℕ) → k ≤ i → i ≡ i - k + k
    back i k h = omega arith

whole_up : (f : Format) (m i : ℕ) → m < 2 ^ prec f → m * 2 ^ i < 2 ^ suc (emax f) * 1 → Whole f (m * 2 ^ i * 2 ^ low f / 1)
whole_up f m i short small = record {
  digits = m;
  place = i + low f;
  is = div-one (m * 2 ^ i * 2 ^ low f) ∙ mul_assoc m (2 ^ i) (2 ^ low f) ∙ ap (λ (x : ℕ). m * x) (sym (pow-add 2 i (low f)));
  short = short;
  small =
      subst (λ (x : ℕ). x < 2 ^ (low f + suc (emax f))) (sym (div-one (m * 2 ^ i * 2 ^ low f)))
      (lt_of_lt_of_le (mul-lt-mul_of_pos_right small (pow_pos (low f)))
      (le_of_eq (ap (λ (x : ℕ). x * 2 ^ low f) (mul-one (2 ^ suc (emax f))) ∙ mul_comm (2 ^ suc (emax f)) (2 ^ low f) ∙ sym (pow-add 2 (low f) (suc (emax f))))));
}

whole_down : (f : Format) (m i : ℕ) → m < 2 ^ prec f → 2 ^ i ≤ 2 ^ low f → m * 1 < 2 ^ suc (emax f) * 2 ^ i → Whole f (m * 1 * 2 ^ low f / 2 ^ i)
whole_down f m i short deep small =
    let e : m * 1 * 2 ^ low f ≡ m * 2 ^ (low f - i) * 2 ^ i =
    ap (λ (x : ℕ). x * 2 ^ low f) (mul-one m) ∙ ap (λ (x : ℕ). m * x) (part (low f) i (pow_le_back i (low f) deep)) ∙ sym (mul_assoc m (2 ^ (low f - i)) (2 ^ i)) in
    let q : m * 1 * 2 ^ low f / 2 ^ i ≡ m * 2 ^ (low f - i) = ap (λ (x : ℕ). x / 2 ^ i) e ∙ mul-div_cancel (m * 2 ^ (low f - i)) (pow_pos i) in
    record {
      digits = m;
      place = low f - i;
      is = q;
      short = short;
      small =
          subst (λ (x : ℕ). x < 2 ^ (low f + suc (emax f))) (sym q)
          (lt_of_mul-lt-mul_right (2 ^ i)
          (subst (λ (x : ℕ). x < 2 ^ (low f + suc (emax f)) * 2 ^ i) e
          (lt_of_lt_of_le (mul-lt-mul_of_pos_right small (pow_pos (low f)))
          (le_of_eq (mul_right_comm (2 ^ suc (emax f)) (2 ^ i) (2 ^ low f) ∙ ap (λ (x : ℕ). x * 2 ^ i) (mul_comm (2 ^ suc (emax f)) (2 ^ low f) ∙ sym (pow-add 2 (low f) (suc (emax f)))))))));
    }

-- what `fits` says of a value that is no zero
record Held (f : Format) (m : ℕ) (e : ℤ) : Type 0 where
  short : m < 2 ^ prec f
  deep : down e ≤ 2 ^ low f
  small : m * up e < 2 ^ suc (emax f) * down e

held_of : (f : Format) (s : Bool) (m : ℕ) (e : ℤ) → T (fits f (fin s (suc m) e)) → Held f (suc m) e
unfolding fits
held_of f s m e t =
    let a = eqb (suc m % 2) 1 in
    let b = ltb (suc m) (2 ^ prec f) in
    let c = leb (down e) (2 ^ low f) in
    let d = ltb (suc m * up e) (2 ^ suc (emax f) * down e) in
    let abc = and_l (a && b && c) d t in
    record {
      short = ltb→lt (suc m) (2 ^ prec f) (and_r a b (and_l (a && b) c abc));
      deep = leb→le (down e) (2 ^ low f) (and_r (a && b) c abc);
      small = ltb→lt (suc m * up e) (2 ^ suc (emax f) * down e) (and_r (a && b && c) d t);
    }

whole_some : (f : Format) (m : ℕ) (e : ℤ) → Held f m e → Whole f (m * up e * 2 ^ low f / down e)
whole_some f m (pos i) h = whole_up f m i h.short h.small
whole_some f m (negsuc i) h = whole_down f m (suc i) h.short h.deep h.small

whole : (f : Format) (y : Float) → T (fits f y) → T (unsigned y) → Whole f (smallests_in f y)
unfolding smallests_in
whole f nan t u = absurd u
whole f (inf s) t u = absurd u
whole f (fin s zero e) t u =
    subst (Whole f) (sym (ap (λ (x : ℕ). x * 2 ^ low f / down e) (zero-mul (up e)) ∙ ap (λ (x : ℕ). x / down e) (zero-mul (2 ^ low f)) ∙ zero-div (down e)))
    (record { digits = 0; place = 0; is = refl; short = pow_pos (prec f); small = pow_pos (low f + suc (emax f)) })
whole f (fin s (suc m) e) t u = whole_some f (suc m) e (held_of f s m e t)

-- so from 2 ^ (prec - 1 + k) smallest values up it is a multiple of 2 ^ k of them
multiple : (f : Format) (p k n : ℕ) → prec f ≡ suc p → Whole f n → 2 ^ (p + k) ≤ n → (a : ℕ) × (n ≡ a * 2 ^ k)
multiple f p k n P w h =
    let d = w.digits in
    let i = w.place in
    let l : p + k < prec f + i = pow_lt_back (p + k) (prec f + i) (lt_of_le_of_lt h (subst (λ (x : ℕ). x < 2 ^ (prec f + i)) (sym w.is) (shl_lt (prec f) i w.short))) in
    let g : k ≤ i = omega arith in
    (d * 2 ^ (i - k), w.is ∙ ap (λ (x : ℕ). d * x) (part i k g) ∙ sym (mul_assoc d (2 ^ (i - k)) (2 ^ k)))

-- ---- `root_of`, given its N as v * 4 ^ k with a v of twice prec binary digits, or one less

abbrev made : Format → ℕ → ℕ → Float
made f N k = units f false (nearest (isqrt (N / 4 ^ k)) (compare (4 * N) ((2 * isqrt (N / 4 ^ k) + 1) * (2 * isqrt (N / 4 ^ k) + 1) * 4 ^ k))) k

root_of_is : (f : Format) (n : ℕ) → root_of f n ≡ made f (n * 2 ^ low f) ((size (n * 2 ^ low f) + 1) / 2 - prec f)
unfolding root_of
root_of_is f n = refl

-- a factor taken off both sides of a comparison
off : (o : Ordering) (a b u : ℕ) → 0 < u → Cmp o (4 * (a * u)) (b * u) → Cmp o (4 * a) b
off Ordering.lt a b u p c = lt_of_mul-lt-mul_right u (subst (λ (x : ℕ). x < b * u) (sym (mul_assoc 4 a u)) c)
off Ordering.eq a b u p c = eq_of_mul-eq-mul_right u p (4 * a) b (mul_assoc 4 a u ∙ c)
off Ordering.gt a b u p c = lt_of_mul-lt-mul_right u (subst (λ (x : ℕ). b * u < x) (sym (mul_assoc 4 a u)) c)

-- what the format drops of the root's digits
dropped : (p v k : ℕ) → 2 ^ (p + p) ≤ v → v < 2 ^ (suc p + suc p) → (size (v * 4 ^ k) + 1) / 2 - suc p ≡ k
dropped p v k lo hi =
    let e : v * 4 ^ k ≡ v * 2 ^ (k + k) = ap (λ (x : ℕ). v * x) (four_two k) in
    let a : p + p + (k + k) < size (v * 4 ^ k) =
    size_above (p + p + (k + k)) (v * 4 ^ k) (subst (λ (x : ℕ). 2 ^ (p + p + (k + k)) ≤ x) (sym e) (le_trans (le_of_eq (pow-add 2 (p + p) (k + k))) (mul-le-mul_right (2 ^ (k + k)) lo))) in
    let b : size (v * 4 ^ k) ≤ suc p + suc p + (k + k) =
    size-le (v * 4 ^ k) (suc p + suc p + (k + k)) (subst (λ (x : ℕ). x < 2 ^ (suc p + suc p + (k + k))) (sym e) (shl_lt (suc p + suc p) (k + k) hi)) in
    omega arith

root_some : (p v : ℕ) → 2 ^ (p + p) ≤ v → 0 < isqrt v
root_some p v h =
    let a : 2 ^ p < isqrt v + 1 = sq_lt_back (2 ^ p) (isqrt v + 1) (lt_of_le_of_lt (le_trans (le_of_eq (sym (pow-add 2 p p))) h) (isqrt_is v).above) in
    let b = pow_pos p in
    omega arith

pub root_at : (f : Format) (p n v k r : ℕ) → prec f ≡ suc p → n * 2 ^ low f ≡ v * 4 ^ k → 2 ^ (p + p) ≤ v → v < 2 ^ (suc p + suc p) → NearRoot v r → root_of f n ≡ units f false r k
root_at f p n v k r P e lo hi h =
    let q = isqrt v in
    let b = (2 * q + 1) * (2 * q + 1) in
    let o = compare (4 * (v * 4 ^ k)) (b * 4 ^ k) in
    root_of_is f n
    ∙ (λ i. made f (e i) ((size (e i) + 1) / 2 - P i))
    ∙ ap (made f (v * 4 ^ k)) (dropped p v k lo hi)
    ∙ ap (λ (x : ℕ). units f false (nearest (isqrt x) (compare (4 * (v * 4 ^ k)) ((2 * isqrt x + 1) * (2 * isqrt x + 1) * 4 ^ k))) k) (mul-div_cancel v (four_pos k))
    ∙ ap (λ (x : ℕ). units f false x k) (one_near v (nearest q o) r (near_is v q o (root_some p v lo) (isqrt_is v) (off o v b (4 ^ k) (four_pos k) (cmp (4 * (v * 4 ^ k)) (b * 4 ^ k)))) h)

-- ---- the root of v * 4 ^ k is nearer to r * 2 ^ k than to any Y that the format holds

sq_scale : (a k : ℕ) → a * 2 ^ k * (a * 2 ^ k) ≡ a * a * 4 ^ k
sq_scale a k = mul-mul-mul_comm a (2 ^ k) a (2 ^ k) ∙ ap (λ (x : ℕ). a * a * x) (sym (pow-add 2 k k) ∙ sym (four_two k))

module _ (p v r k Y : ℕ) (least : 2 ^ (p + p) ≤ v) (near : NearRoot v r) (grid : 2 ^ (p + k) ≤ Y → (a : ℕ) × (Y ≡ a * 2 ^ k)) where
  r_least : 2 ^ p ≤ r
  r_least = near_least v (2 ^ p) r (le_trans (le_of_eq (sym (pow-add 2 p p))) least) near

  floor : (x : ℕ) → 2 ^ p ≤ x → 2 ^ (p + k) ≤ x * 2 ^ k
  floor x h = le_trans (le_of_eq (pow-add 2 p k)) (mul-le-mul_right (2 ^ k) h)

  above : r * 2 ^ k < Y → 4 * (v * 4 ^ k) < (r * 2 ^ k + Y) * (r * 2 ^ k + Y)
  above h =
      let g = grid (le_trans (floor r r_least) (le_of_lt h)) in
      let a = g.0 in
      let l : r < a = lt_of_mul-lt-mul_right (2 ^ k) (subst (λ (x : ℕ). r * 2 ^ k < x) g.1 h) in
      let e : r * 2 ^ k + Y ≡ (r + a) * 2 ^ k = ap (λ (x : ℕ). r * 2 ^ k + x) g.1 ∙ sym (add-mul r a (2 ^ k)) in
      let m : 2 * r + 1 ≤ r + a = omega arith in
      let q : 4 * v < (2 * r + 1) * (2 * r + 1) = (let x = next_sq (2 * r) in let y = twice_sq r in let z = by_next r in omega (arith, near.under)) in
      subst (λ (x : ℕ). 4 * (v * 4 ^ k) < x) (sym (ap (λ (x : ℕ). x * x) e ∙ sq_scale (r + a) k))
      (subst (λ (x : ℕ). x < (r + a) * (r + a) * 4 ^ k) (mul_assoc 4 v (4 ^ k)) (mul-lt-mul_of_pos_right (lt_of_lt_of_le q (mul-le-mul m m)) (four_pos k)))

  -- where the root is r or more
  from_r : r * r ≤ v → Y < r * 2 ^ k → (r * 2 ^ k + Y) * (r * 2 ^ k + Y) < 4 * (v * 4 ^ k)
  from_r g h =
      let w : r * 2 ^ k + Y < 2 * r * 2 ^ k = (let t = mul_assoc 2 r (2 ^ k) in omega arith) in
      let s : 2 * r * (2 * r) ≤ 4 * v = (let t = twice_sq r in omega arith) in
      lt_of_lt_of_le (sq_lt (r * 2 ^ k + Y) (2 * r * 2 ^ k) w) (le_trans (le_of_eq (sq_scale (2 * r) k)) (le_trans (mul-le-mul_right (4 ^ k) s) (le_of_eq (mul_assoc 4 v (4 ^ k)))))

  -- where it is below r, Y is at most r - 1 times 2 ^ k
  kept : v < r * r → Y < r * 2 ^ k → Y ≤ (r - 1) * 2 ^ k
  kept g h = go (dec_le (2 ^ (p + k)) Y)
    where
      more : 2 ^ p < r
      more = sq_lt_back (2 ^ p) r (lt_of_le_of_lt (le_trans (le_of_eq (sym (pow-add 2 p p))) least) g)

      go : Dec (2 ^ (p + k) ≤ Y) → Y ≤ (r - 1) * 2 ^ k
      go (yes l) =
          let a = grid l in
          let m : a.0 < r = lt_of_mul-lt-mul_right (2 ^ k) (subst (λ (x : ℕ). x < r * 2 ^ k) a.1 h) in
          let n : a.0 ≤ r - 1 = omega arith in
          le_trans (le_of_eq a.1) (mul-le-mul_right (2 ^ k) n)
      go (no l) = let n : 2 ^ p ≤ r - 1 = (let x = more in omega arith) in le_of_lt (lt_of_lt_of_le (lt_of_not-le l) (floor (r - 1) n))

  under_r : v < r * r → Y < r * 2 ^ k → (r * 2 ^ k + Y) * (r * 2 ^ k + Y) < 4 * (v * 4 ^ k)
  under_r g h =
      let z = r + (r - 1) in
      let w : r * 2 ^ k + Y ≤ z * 2 ^ k = le_trans (add-le-add (le_refl (r * 2 ^ k)) (kept g h)) (le_of_eq (sym (add-mul r (r - 1) (2 ^ k)))) in
      let q : z * z < 4 * v = (let a = near.over in let b = by_last r in let c = next_sq z in let d = ap (λ (x : ℕ). x * x) (twice r (le_trans (pow_pos p) r_least)) ∙ twice_sq r in omega arith) in
      lt_of_le_of_lt (le_trans (mul-le-mul w w) (le_of_eq (sq_scale z k))) (subst (λ (x : ℕ). z * z * 4 ^ k < x) (mul_assoc 4 v (4 ^ k)) (mul-lt-mul_of_pos_right q (four_pos k)))
    where
      twice : (r : ℕ) → 0 < r → r + (r - 1) + 1 ≡ 2 * r
      twice r h = omega arith

  nearer : Nearer (v * 4 ^ k) (r * 2 ^ k) Y
  nearer = record { under = above; over = λ (h : Y < r * 2 ^ k). elim (dec_le (r * r) v) [ yes g ↦ from_r g h | no g ↦ under_r (lt_of_not-le g) h ] }

-- ---- the theorem

pub count_val : (f : Format) (x : Float) (s : Bool) (a : ℕ) → HasValue x s a (2 ^ low f) → smallests_in f x ≡ a
unfolding smallests_in
count_val f nan s a v = absurd v
count_val f (inf t) s a v = absurd v
count_val f (fin t m e) s a v = ap (λ (y : ℕ). y / down e) v.1 ∙ mul-div_cancel a (down_pos e)

pub units_fits : (f : Format) (q k : ℕ) → q ≤ 2 ^ prec f → q * 2 ^ k < 2 ^ (low f + suc (emax f)) → T (fits f (units f false q k))
unfolding units
units_fits f q k a h = go (ltb (q * 2 ^ k) (2 ^ (low f + suc (emax f)))) (lt→ltb (q * 2 ^ k) (2 ^ (low f + suc (emax f))) h)
  where
    go : (b : Bool) → T b → T (fits f (cond b (odd (suc (prec f)) false q k (low f)) (inf false)))
    go true t = odd-fits f (suc (prec f)) false q k (lt_of_le_of_lt a (pow-lt (le_refl (suc (prec f))))) a h
    go false t = absurd t

-- of a format the proof uses that twice its digits lie above its smallest value
roomy : (f : Format) → prec f + prec f ≤ low f
roomy binary32 = lit≤ tt
roomy binary64 = lit≤ tt

one_less : (f : Format) → prec f ≡ suc (prec f - 1)
one_less binary32 = refl
one_less binary64 = refl

-- what is above zero is at least one smallest value
count_pos : (f : Format) (x : Float) → T (fits f x) → T (positive x) → 0 < smallests_in f x
unfolding smallests_in
count_pos f x t p = positive_cases (λ (x : Float). T (fits f x) → 0 < smallests_in f x) some x p t
  where
    some : (m : ℕ) (e : ℤ) → T (fits f (fin false (suc m) e)) → 0 < suc m * up e * 2 ^ low f / down e
    some m e t =
        (le-div_iff_mul-le (down_pos e)).1
        (le_trans (le_of_eq (one-mul (down e)))
        (le_trans (held_of f false m e t).deep
        (le_trans (le_of_eq (sym (one-mul (2 ^ low f)))) (mul-le-mul_right (2 ^ low f) (mul-pos (zero-lt-suc m) (up_pos e))))))

no_sign : (x : Float) → T (positive x) → T (unsigned x)
no_sign = positive_cases (λ (x : Float). T (unsigned x)) (λ m e. tt)

module _ (f : Format) (p n : ℕ) (P : prec f ≡ suc p) (some : 0 < n) (w : Whole f n) where
  abbrev N : ℕ
  N = n * 2 ^ low f

  abbrev k : ℕ
  k = (size N + 1) / 2 - suc p

  size_is : (p + p + (k + k) < size N) × (size N ≤ suc p + suc p + (k + k))
  size_is =
      let a : low f < size N = size_above (low f) N (le_trans (le_of_eq (sym (one-mul (2 ^ low f)))) (mul-le-mul_right (2 ^ low f) some)) in
      let b = subst (λ (x : ℕ). x + x ≤ low f) P (roomy f) in
      (omega arith, omega arith)

  N_is : N ≡ w.digits * 2 ^ (w.place + low f)
  N_is = ap (λ (x : ℕ). x * 2 ^ low f) w.is ∙ mul_assoc w.digits (2 ^ w.place) (2 ^ low f) ∙ ap (λ (x : ℕ). w.digits * x) (sym (pow-add 2 w.place (low f)))

  even : k + k ≤ w.place + low f
  even =
      let a : size N ≤ suc p + (w.place + low f) =
      size-le N (suc p + (w.place + low f)) (subst (λ (x : ℕ). x < 2 ^ (suc p + (w.place + low f))) (sym N_is) (shl_lt (suc p) (w.place + low f) (subst (λ (x : ℕ). w.digits < 2 ^ x) P w.short))) in
      let b = size_is in
      omega arith

  abbrev v : ℕ
  v = w.digits * 2 ^ (w.place + low f - (k + k))

  split_two : N ≡ v * 2 ^ (k + k)
  split_two = N_is ∙ ap (λ (x : ℕ). w.digits * x) (part (w.place + low f) (k + k) even) ∙ sym (mul_assoc w.digits (2 ^ (w.place + low f - (k + k))) (2 ^ (k + k)))

  split : N ≡ v * 4 ^ k
  split = split_two ∙ ap (λ (x : ℕ). v * x) (sym (four_two k))

  v_least : 2 ^ (p + p) ≤ v
  v_least = le_of_mul-le-mul_right (le_trans (le_of_eq (sym (pow-add 2 (p + p) (k + k)))) (le_trans (size_reaches N (p + p + (k + k)) size_is.0) (le_of_eq split_two))) (pow_pos (k + k))

  v_most : v < 2 ^ (suc p + suc p)
  v_most =
      lt_of_mul-lt-mul_right (2 ^ (k + k))
      (subst (λ (x : ℕ). x < 2 ^ (suc p + suc p) * 2 ^ (k + k)) split_two (lt_of_lt_of_le (size-lt N) (le_trans (pow_mono size_is.1) (le_of_eq (pow-add 2 (suc p + suc p) (k + k))))))

  abbrev r : ℕ
  r = nearest (isqrt v) (compare (4 * v) ((2 * isqrt v + 1) * (2 * isqrt v + 1)))

  near : NearRoot v r
  near =
      let q = isqrt v in
      near_is v q (compare (4 * v) ((2 * q + 1) * (2 * q + 1))) (root_some p v v_least) (isqrt_is v) (cmp (4 * v) ((2 * q + 1) * (2 * q + 1)))

  r_most : r ≤ 2 ^ suc p
  r_most = near_most v (2 ^ suc p) r (lt_of_lt_of_le v_most (le_of_eq (pow-add 2 (suc p) (suc p)))) near

  fine : r * 2 ^ k < 2 ^ (low f + suc (emax f))
  fine =
      let a : size N ≤ low f + suc (emax f) + low f = size-le N (low f + suc (emax f) + low f) (shl_lt (low f + suc (emax f)) (low f) w.small) in
      let b = size_is in
      let c = two f in
      let d = reach f in
      let e : suc p + k < low f + suc (emax f) = omega arith in
      lt_of_le_of_lt (le_trans (mul-le-mul_right (2 ^ k) r_most) (le_of_eq (sym (pow-add 2 (suc p) k)))) (pow-lt e)

  is_units : root_of f n ≡ units f false r k
  is_units = root_at f p n v k r P split v_least v_most near

  value : HasValue (root_of f n) false (r * 2 ^ k) (2 ^ low f)
  value = subst (λ (z : Float). HasValue z false (r * 2 ^ k) (2 ^ low f)) (sym is_units) (units_val f false r k fine)

  root_held : T (fits f (root_of f n))
  root_held = subst (λ (z : Float). T (fits f z)) (sym is_units) (units_fits f r k (subst (λ (x : ℕ). r ≤ 2 ^ x) (sym P) r_most) fine)

  root_above : T (positive (root_of f n))
  root_above = positive_of_value (root_of f n) (r * 2 ^ k) (2 ^ low f) value (mul-pos (lt_of_lt_of_le (pow_pos p) (near_least v (2 ^ p) r (le_trans (le_of_eq (sym (pow-add 2 p p))) v_least) near)) (pow_pos k))

  root_nearer : (y : Float) → T (fits f y) → T (unsigned y) → Nearer N (smallests_in f (root_of f n)) (smallests_in f y)
  root_nearer y t u =
      subst (λ (M : ℕ). Nearer M (smallests_in f (root_of f n)) (smallests_in f y)) (sym split)
      (subst (λ (R : ℕ). Nearer (v * 4 ^ k) R (smallests_in f y)) (sym (count_val f (root_of f n) false (r * 2 ^ k) value)) (nearer p v r k (smallests_in f y) v_least near (multiple f p k (smallests_in f y) P (whole f y t u))))

pub sqrt_positive : (f : Format) (x : Float) → T (positive x) → sqrt_in f x ≡ root_of f (smallests_in f x)
unfolding sqrt_in
sqrt_positive f = positive_cases (λ (x : Float). sqrt_in f x ≡ root_of f (smallests_in f x)) (λ m e. refl)

pub correctly_rounded : (f : Format) (x : Float) → T (fits f x) → T (positive x) → Rounded f x (sqrt_in f x)
correctly_rounded f x t u =
    let some = count_pos f x t u in
    let w = whole f x t (no_sign x u) in
    let p = prec f - 1 in
    subst (Rounded f x) (sym (sqrt_positive f x u))
    (record { held = root_held f p (smallests_in f x) (one_less f) some w; above = root_above f p (smallests_in f x) (one_less f) some w; nearer = root_nearer f p (smallests_in f x) (one_less f) some w })

-- ---- there is one such value only

-- the bit pattern of a value above zero goes by how many smallest values it is
abbrev pattern : Format → ℕ → ℕ
pattern f n = 0 + (size n - prec f) * hid f + n / 2 ^ (size n - prec f)

bits : (f : Format) (x : Float) → T (positive x) → to_bits f x ≡ pattern f (smallests_in f x)
unfolding to_bits smallests_in
bits f = positive_cases (λ (x : Float). to_bits f x ≡ pattern f (smallests_in f x)) (λ m e. refl)

same_count : (f : Format) (x y : Float) → T (fits f x) → T (fits f y) → T (positive x) → T (positive y) → smallests_in f x ≡ smallests_in f y → x ≡ y
same_count f x y t u p q e = sym (of_bits-to_bits f x t) ∙ ap (of_bits f) (bits f x p ∙ ap (pattern f) e ∙ sym (bits f y q)) ∙ of_bits-to_bits f y u

-- if the root is nearer to each of two than to the other, neither is less
no_less : (N R Y : ℕ) → Nearer N R Y → Nearer N Y R → R ≤ Y
no_less N R Y a b = less (λ (h : Y < R). lt_irrefl (4 * N) (lt_trans (b.under h) (subst (λ (x : ℕ). x * x < 4 * N) (add_comm R Y) (a.over h))))
  where
    less : (Y < R → ⊥) → R ≤ Y
    less n = elim (dec_le R Y) [ yes h ↦ h | no h ↦ absurd (n (lt_of_not-le h)) ]

pub only_one : (f : Format) (x r t : Float) → Rounded f x r → Rounded f x t → r ≡ t
only_one f x r t a b =
    let rt = a.nearer t b.held (no_sign t b.above) in
    let tr = b.nearer r a.held (no_sign r a.above) in
    same_count f r t a.held b.held a.above b.above
    (le_antisymm (no_less (smallests_in f x * 2 ^ low f) (smallests_in f r) (smallests_in f t) rt tr) (no_less (smallests_in f x * 2 ^ low f) (smallests_in f t) (smallests_in f r) tr rt))
