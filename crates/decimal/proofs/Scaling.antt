-- Laws of rounding by limbs: N = high * 2 ^ 26 + low over a power of two, and the cases of a bit pattern. Assumes nothing.
use mathlib.Core.Path.{◌≡◌, refl, sym, ap, ◌∙◌, subst}
use mathlib.Core.Bool.{Bool, true, false, cond, true≢false}
use Prim.Native.Nat.{ℕ, zero, suc, ◌+◌, ◌-◌, ◌*◌, ◌/◌, ◌%◌, ◌^◌, ◌≤◌, ◌<◌, min}
use native.Mathlib.Nat.{le_of_lt, zero-lt-suc, mul_comm, mul_assoc, mul_left_comm, mul_right_comm, mul-mul-mul_comm, mul-add, add-mul, mul-pos, mul-le-mul, mul-div-mul_left, mul-add-div_right, div-div-eq-div-mul, div-eq_of_lt, pow-suc, min-eq_left, min-eq_right}
use native.Mathlib.Omega.{arith}
use lib.Dec.{ltb, leb, eqb, lit≤}
use lib.Pow.{pow_pos, pow-add, pow_mono, high}
use lib.Ieee.{Float, nan, inf, fin, binary64, up, down, odd, of_fields, of_bits, is_nan}
use lib.Ieee.Fits.{down_pos}
use lib.Ieee.Exact.{HasValue, odd_sign}
use lib.Ieee.Nearest.{div_same}
use borrow.Author.Tests.{ltb-true, ltb-false, le-ltb, ne_eqb}
use Rattle.decimal.specs.declared.answers.Units.TheVariants.{NotANumber, Infinite, TooLarge}
use Rattle.decimal.specs.Scaled.{away, sized_of, units_of}

two_pos : (c : ℕ) → 0 < c → 0 < 2 * c
two_pos c h = omega arith

-- what is nearest turns on the fraction alone
pub away_same : (n c m d : ℕ) → 0 < c → 0 < d → n * d ≡ m * c → away n c ≡ away m d
unfolding away
away_same n c m d C D e =
    div_same (2 * n + c) (2 * c) (2 * m + d) (2 * d) (two_pos c C) (two_pos d D)
    (add-mul (2 * n) c (2 * d)
    ∙ ap (λ (x : ℕ). x + c * (2 * d)) (mul-mul-mul_comm 2 n 2 d ∙ ap (λ (x : ℕ). 2 * 2 * x) e ∙ sym (mul-mul-mul_comm 2 m 2 c))
    ∙ ap (λ (x : ℕ). 2 * m * (2 * c) + x) (mul_left_comm c 2 d ∙ ap (λ (x : ℕ). 2 * x) (mul_comm c d) ∙ sym (mul_left_comm d 2 c))
    ∙ sym (add-mul (2 * m) d (2 * c)))

pub units_value : (d : ℕ) (x : Float) (s : Bool) (a c : ℕ) → 0 < c → HasValue x s a c → units_of d x ≡ sized_of s (away (a * 10 ^ d) c)
unfolding units_of
units_value d nan s a c C v = absurd v
units_value d (inf t) s a c C v = absurd v
units_value d (fin t m e) s a c C v =
    ap (λ (b : Bool). sized_of b (away (m * up e * 10 ^ d) (down e))) v.0
    ∙ ap (sized_of s) (away_same (m * up e * 10 ^ d) (down e) (a * 10 ^ d) c (down_pos e) C
    (mul_right_comm (m * up e) (10 ^ d) c ∙ ap (λ (x : ℕ). x * 10 ^ d) v.1 ∙ mul_right_comm a (down e) (10 ^ d)))

large : (s : Bool) (q : ℕ) → 10 ^ 18 ≤ q → sized_of s q ≡ TooLarge s
unfolding sized_of
large s q h = rw (le-ltb q (10 ^ 18) h)

pub sized_min : (s : Bool) (q : ℕ) → sized_of s (min q (10 ^ 18)) ≡ sized_of s q
sized_min s q = go (ltb q (10 ^ 18)) refl
  where
    go : (t : Bool) → ltb q (10 ^ 18) ≡ t → sized_of s (min q (10 ^ 18)) ≡ sized_of s q
    go true e = ap (sized_of s) (min-eq_left (le_of_lt (ltb-true q (10 ^ 18) e)))
    go false e = ap (sized_of s) (min-eq_right (ltb-false q (10 ^ 18) e)) ∙ large s (10 ^ 18) (lit≤ tt) ∙ sym (large s q (ltb-false q (10 ^ 18) e))

-- ---- a common factor
away_factor : (A n c : ℕ) → 0 < A → 0 < c → away (A * n) (A * c) ≡ away n c
away_factor A n c P C = away_same (A * n) (A * c) n c (mul-pos P C) C (mul_assoc A n c ∙ mul_left_comm A n c)

-- over an even number the half is whole
away_even : (n h : ℕ) → away n (2 * h) ≡ (n + h) / (2 * h)
unfolding away
away_even n h = ap (λ (x : ℕ). x / (2 * (2 * h))) (sym (mul-add 2 n h)) ∙ mul-div-mul_left (n + h) (2 * h) (zero-lt-suc 1)

-- low does not count over 2 ^ 26 * 2 * j
away_low : (H L j : ℕ) → L < 2 ^ 26 → away (H * 2 ^ 26 + L) (2 * (2 ^ 26 * j)) ≡ (H + j) / (2 * j)
away_low H L j h =
    away_even (H * 2 ^ 26 + L) (2 ^ 26 * j)
    ∙ ap (λ (x : ℕ). x / (2 * (2 ^ 26 * j))) (regroup H L j)
    ∙ ap (λ (x : ℕ). ((H + j) * 2 ^ 26 + L) / x) (mul_left_comm 2 (2 ^ 26) j)
    ∙ sym (div-div-eq-div-mul ((H + j) * 2 ^ 26 + L) (2 ^ 26) (2 * j))
    ∙ ap (λ (x : ℕ). x / (2 * j)) (high (H + j) 26 h)
  where
    regroup : (H L j : ℕ) → H * 2 ^ 26 + L + 2 ^ 26 * j ≡ (H + j) * 2 ^ 26 + L
    regroup H L j = omega arith

half_power : (k : ℕ) → 0 < k → 2 ^ k ≡ 2 * 2 ^ (k - 1)
half_power (suc k) h = (let e : suc k - 1 ≡ k = omega arith in pow-suc 2 k ∙ mul_comm (2 ^ k) 2 ∙ ap (λ (x : ℕ). 2 * 2 ^ x) (sym e))
half_power zero h = absurd (omega (arith, h))

-- m * 2 ^ place * p over 2 ^ 1074, where 2 ^ place is too small: the 26 lower places go
pub away_lowered : (m p place H L : ℕ) → place < 1048 → H * 2 ^ 26 + L ≡ m * p → L < 2 ^ 26 → away (m * 2 ^ place * p) (2 ^ 1074) ≡ (H + 2 ^ (1048 - place - 1)) / 2 ^ (1048 - place)
away_lowered m p place H L h e l =
    let j = 2 ^ (1048 - place - 1) in
    let k : 2 ^ (1048 - place) ≡ 2 * j = half_power (1048 - place) (omega arith) in
    let n : m * 2 ^ place * p ≡ 2 ^ place * (H * 2 ^ 26 + L) = mul_right_comm m (2 ^ place) p ∙ mul_comm (m * p) (2 ^ place) ∙ ap (λ (x : ℕ). 2 ^ place * x) (sym e) in
    let d : 2 ^ 1074 ≡ 2 ^ place * (2 * (2 ^ 26 * j)) =
    ap (λ (x : ℕ). 2 ^ x) (parts place h) ∙ pow-add 2 place (26 + (1048 - place))
    ∙ ap (λ (x : ℕ). 2 ^ place * x) (pow-add 2 26 (1048 - place) ∙ ap (λ (x : ℕ). 2 ^ 26 * x) k ∙ mul_left_comm (2 ^ 26) 2 j) in
    ap (λ (x : ℕ). away x (2 ^ 1074)) n
    ∙ ap (λ (x : ℕ). away (2 ^ place * (H * 2 ^ 26 + L)) x) d
    ∙ away_factor (2 ^ place) (H * 2 ^ 26 + L) (2 * (2 ^ 26 * j)) (pow_pos place) (two_pos (2 ^ 26 * j) (mul-pos (pow_pos 26) (pow_pos (1048 - place - 1))))
    ∙ away_low H L j l
    ∙ ap (λ (x : ℕ). (H + j) / x) (sym k)
  where
    parts : (place : ℕ) → place < 1048 → 1074 ≡ place + (26 + (1048 - place))
    parts place h = omega arith

away_high : (H L U : ℕ) → away ((H * 2 ^ 26 + L) * U) (2 ^ 26) ≡ H * U + (L * U + 2 ^ 25) / 2 ^ 26
away_high H L U =
    away_even ((H * 2 ^ 26 + L) * U) (2 ^ 25)
    ∙ ap (λ (x : ℕ). (x + 2 ^ 25) / 2 ^ 26) (add-mul (H * 2 ^ 26) L U ∙ ap (λ (x : ℕ). x + L * U) (mul_right_comm H (2 ^ 26) U))
    ∙ ap (λ (x : ℕ). x / 2 ^ 26) (assoc (H * U) (L * U))
    ∙ mul-add-div_right (pow_pos 26) (H * U) (L * U + 2 ^ 25)
  where
    assoc : (a b : ℕ) → a * 2 ^ 26 + b + 2 ^ 25 ≡ a * 2 ^ 26 + (b + 2 ^ 25)
    assoc a b = omega arith

pub away_raised : (m p place H L : ℕ) → 1048 ≤ place → H * 2 ^ 26 + L ≡ m * p → away (m * 2 ^ place * p) (2 ^ 1074) ≡ H * 2 ^ (place - 1048) + (L * 2 ^ (place - 1048) + 2 ^ 25) / 2 ^ 26
away_raised m p place H L h e =
    let U = 2 ^ (place - 1048) in
    let a : 2 ^ place ≡ 2 ^ 1048 * U = ap (λ (x : ℕ). 2 ^ x) (parts place h) ∙ pow-add 2 1048 (place - 1048) in
    let n : m * 2 ^ place * p ≡ 2 ^ 1048 * ((H * 2 ^ 26 + L) * U) =
    mul_right_comm m (2 ^ place) p ∙ ap (λ (x : ℕ). m * p * x) a ∙ mul_left_comm (m * p) (2 ^ 1048) U ∙ ap (λ (x : ℕ). 2 ^ 1048 * (x * U)) (sym e) in
    ap (λ (x : ℕ). away x (2 ^ 1074)) n
    ∙ away_factor (2 ^ 1048) ((H * 2 ^ 26 + L) * U) (2 ^ 26) (pow_pos 1048) (pow_pos 26)
    ∙ away_high H L U
  where
    parts : (place : ℕ) → 1048 ≤ place → place ≡ 1048 + (place - 1048)
    parts place h = omega arith

-- ---- by the fields of a bit pattern: the sign, the exponent's field y, the digits' field t
pub at_top : (d : ℕ) (x : Float) (s : Bool) (y t : ℕ) → y ≡ 2047 → is_nan x ≡ false → of_fields binary64 s y t ≡ x → units_of d x ≡ Infinite s
unfolding of_fields units_of is_nan
at_top d x s y t e n q = go (eqb t 0) refl (subst (λ (z : ℕ). of_fields binary64 s z t ≡ x) e q)
  where
    opened : (b : Bool) → eqb t 0 ≡ b → of_fields binary64 s 2047 t ≡ cond b (inf s) nan
    opened b e = ap (λ (c : Bool). cond c (inf s) nan) e

    infinite : inf s ≡ x → units_of d x ≡ Infinite s
    infinite e = ap (units_of d) (sym e)

    none : nan ≡ x → ⊥
    none e = true≢false (ap is_nan e ∙ n)

    go : (b : Bool) → eqb t 0 ≡ b → of_fields binary64 s 2047 t ≡ x → units_of d x ≡ Infinite s
    go true e q = infinite (sym (opened true e) ∙ q)
    go false e q = absurd (none (sym (opened false e) ∙ q))

pub at_bottom : (d : ℕ) (x : Float) (s : Bool) (y t : ℕ) → y ≡ 0 → of_fields binary64 s y t ≡ x → units_of d x ≡ sized_of s (away (t * 2 ^ 0 * 10 ^ d) (2 ^ 1074))
unfolding of_fields
at_bottom d x s zero t e q = units_value d x s (t * 2 ^ 0) (2 ^ 1074) (pow_pos 1074) (subst (λ (z : Float). HasValue z s (t * 2 ^ 0) (2 ^ 1074)) q (odd_sign 53 s t 0 1074))
at_bottom d x s (suc y) t e q = absurd (omega (arith, e))

pub between : (d : ℕ) (x : Float) (s : Bool) (y t : ℕ) → (y ≡ 0 → ⊥) → (y ≡ 2047 → ⊥) → of_fields binary64 s y t ≡ x → units_of d x ≡ sized_of s (away ((2 ^ 52 + t) * 2 ^ (y - 1) * 10 ^ d) (2 ^ 1074))
unfolding of_fields
between d x s zero t z n q = absurd (z refl)
between d x s (suc y) t z n q =
    units_value d x s ((2 ^ 52 + t) * 2 ^ y) (2 ^ 1074) (pow_pos 1074) (subst (λ (z : Float). HasValue z s ((2 ^ 52 + t) * 2 ^ y) (2 ^ 1074)) (sym opened ∙ q) (odd_sign 53 s (2 ^ 52 + t) y 1074))
    ∙ ap (λ (k : ℕ). sized_of s (away ((2 ^ 52 + t) * 2 ^ k * 10 ^ d) (2 ^ 1074))) (less y)
  where
    less : (y : ℕ) → y ≡ suc y - 1
    less y = omega arith

    opened : of_fields binary64 s (suc y) t ≡ odd 53 s (2 ^ 52 + t) y 1074
    opened = ap (λ (c : Bool). cond c (cond (eqb t 0) (inf s) nan) (odd 53 s (2 ^ 52 + t) y 1074)) (ne_eqb (suc y) 2047 n)

pub fields : (b : ℕ) → of_bits binary64 b ≡ of_fields binary64 (leb (2 ^ 63) b) (b % 2 ^ 63 / 2 ^ 52) (b % 2 ^ 52)
unfolding of_bits
fields b = refl

-- ---- the limbs of a product
pub small_product : (a n p : ℕ) → a ≤ n → p ≤ 1000000 → a * p ≤ n * 1000000
small_product a n p h k = mul-le-mul h k

pub product_is : (m p : ℕ) → m * p ≡ m / 2 ^ 26 * p * 2 ^ 26 + m % 2 ^ 26 * p
product_is m p = ap (λ (x : ℕ). x * p) (split m) ∙ add-mul (m / 2 ^ 26 * 2 ^ 26) (m % 2 ^ 26) p ∙ ap (λ (x : ℕ). x + m % 2 ^ 26 * p) (mul_right_comm (m / 2 ^ 26) (2 ^ 26) p)
  where
    split : (m : ℕ) → m ≡ m / 2 ^ 26 * 2 ^ 26 + m % 2 ^ 26
    split m = omega arith

-- below half of the unit
pub low_zero : (h k : ℕ) → h < 2 ^ 48 → 48 < k → (h + 2 ^ (k - 1)) / 2 ^ k ≡ 0
low_zero h k l g =
    let e = half_power k (omega arith) in
    let p : 2 ^ 48 ≤ 2 ^ (k - 1) = pow_mono {i = 48} {j = k - 1} (omega arith) in
    div-eq_of_lt (omega arith)

-- ---- up to 10 ^ 18
pub kept : (q n : ℕ) → q ≡ n → q < 10 ^ 18 → q ≡ min n (10 ^ 18)
kept q n e h = e ∙ sym (min-eq_left (subst (λ (x : ℕ). x ≤ 10 ^ 18) e (le_of_lt h)))

pub topped : (n : ℕ) → 10 ^ 18 ≤ n → 10 ^ 18 ≡ min n (10 ^ 18)
topped n h = sym (min-eq_right h)

pub raised_far : (H k x : ℕ) → 2 ^ 26 ≤ H → 33 < k → 10 ^ 18 ≤ H * 2 ^ k + x
raised_far H k x h g = let p : 2 ^ 26 * 2 ^ 34 ≤ H * 2 ^ k = mul-le-mul h (pow_mono {i = 34} {j = k} g) in omega arith

-- ---- a NaN
pub units_nan : (d : ℕ) (x : Float) → is_nan x ≡ true → units_of d x ≡ NotANumber
unfolding units_of is_nan
units_nan d nan e = refl
units_nan d (inf s) e = absurd (true≢false (sym e))
units_nan d (fin s m z) e = absurd (true≢false (sym e))

-- ---- what the calls give
pub sized_by : (s : Bool) (a p q d : ℕ) → p ≡ 10 ^ d → q ≡ min (away (a * p) (2 ^ 1074)) (10 ^ 18) → sized_of s q ≡ sized_of s (away (a * 10 ^ d) (2 ^ 1074))
sized_by s a p q d P Q = ap (sized_of s) Q ∙ sized_min s (away (a * p) (2 ^ 1074)) ∙ ap (λ (x : ℕ). sized_of s (away (a * x) (2 ^ 1074))) P
