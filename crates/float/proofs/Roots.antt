-- The square root's laws on whole numbers: a square by halves, the number beside the guess, and what the root of a value taken apart is. Assumes nothing.
use mathlib.Core.Path.{◌≡◌, refl, sym, ap, ◌∙◌, subst}
use mathlib.Core.Bool.{Bool, true, false, not}
use Prim.Native.Nat.{ℕ, ◌+◌, ◌-◌, ◌*◌, ◌/◌, ◌%◌, ◌^◌, ◌≤◌, ◌<◌}
use native.Mathlib.Nat.{le_of_lt, le_trans, le_of_eq, lt_of_le_of_lt, lt_of_lt_of_le, mod-eq_of_lt, mul-one, mul_comm, mul_assoc, mul_left_comm, mul-add, add-mul, add_assoc, add_comm, add_left_comm, mul-le-mul_left, mul-le-mul_right, mul-lt-mul_of_pos_right, div-add-mod'}
use native.Mathlib.Omega.{arith}
use mir.Val.{bool_byte}
use lib.Dec.{T, ltb, ltb→lt, nltb→le, lit≤}
use lib.Pow.{pow_pos, pow-add, pow_mono, shl_lt}
use lib.Ieee.Positive.{positive}
use lib.Ieee.{Float, inf, binary64, of_bits}
use Rattle.definition.specs.Root.{smallests_in, sqrt_in, sqrt_of}
use Rattle.laws.specs.Squares.{IsRoot, NearRoot, next_sq, by_next, by_last, sq_lt_back, four_two, near_least, near_most, near_half}
use Rattle.laws.specs.RootLaws.{root_at, sqrt_positive}
use Rattle.float.specs.Inner.{Beside, Parted}
use Rattle.float.proofs.Tests.{Zero, Outside, zero_cases, outside_cases}
use Rattle.float.proofs.Units.{bits_units}

-- ---- a square by halves of 27 digits

abbrev pub up_half : ℕ → ℕ
up_half g = g / 2 ^ 27

abbrev pub low_half : ℕ → ℕ
low_half g = g % 2 ^ 27

below : {a b : ℕ} → a < 2 ^ 27 → b < 2 ^ 27 → a * b < 2 ^ 54
below {a} {b} ha hb = lt_of_le_of_lt (mul-le-mul_left a (le_of_lt hb)) (mul-lt-mul_of_pos_right ha (pow_pos 27))

pub record Small (g : ℕ) : Type 0 where
  pub hh : up_half g * up_half g < 2 ^ 54
  pub hl : up_half g * low_half g < 2 ^ 54
  pub ll : low_half g * low_half g < 2 ^ 54

pub small : (g : ℕ) → g < 2 ^ 54 → Small g
small g h =
    let a : up_half g < 2 ^ 27 = omega arith in
    let b : low_half g < 2 ^ 27 = omega arith in
    record { hh = below a a; hl = below a b; ll = below b b }

expand : (u v k : ℕ) → (u * k + v) * (u * k + v) ≡ u * u * (k * k) + u * v * 2 * k + v * v
expand u v k =
    let e : (u * k + v) * (u * k + v) ≡ u * u * (k * k) + (u * v + v * u) * k + v * v = simp (add-mul, mul-add, mul_assoc, mul_comm, mul_left_comm, add_assoc, add_comm, add_left_comm) in
    let f : u * v + v * u ≡ u * v * 2 = (let g = mul_comm v u in omega arith) in
    e ∙ ap (λ (x : ℕ). u * u * (k * k) + x * k + v * v) f

pub square_is : (g : ℕ) → g * g ≡ up_half g * up_half g * 2 ^ 54 + up_half g * low_half g * 2 * 2 ^ 27 + low_half g * low_half g
square_is g = (λ i. sym (div-add-mod' g (2 ^ 27)) i * sym (div-add-mod' g (2 ^ 27)) i) ∙ expand (up_half g) (low_half g) (2 ^ 27)

-- ---- g - 1, g or g + 1, by how far the root lies from them

-- g is p + 1
picked_from : (n p u : ℕ) (a b : Bool) → u + (p + 1) * (p + 1) + 2 ≡ n + 3 * (p + 1) → u ≤ 6 * (p + 1) → 0 < u
    → (T a → 2 * p < u) → (T (not a) → u ≤ 2 * p) → (T b → 4 * p + 2 < u) → (T (not b) → u ≤ 4 * p + 2)
    → NearRoot n (p + bool_byte a + bool_byte b)
picked_from n p u a b e most some a-yes a-no b-yes b-no = go a b a-yes a-no b-yes b-no
  where
    is : u + p * p ≡ n + p
    is = let s = next_sq p in omega arith

    go : (a b : Bool) → (T a → 2 * p < u) → (T (not a) → u ≤ 2 * p) → (T b → 4 * p + 2 < u) → (T (not b) → u ≤ 4 * p + 2) → NearRoot n (p + bool_byte a + bool_byte b)
    go false false ay an by bn =
        let h = an tt in let i = is in let l = by_last p in let r = by_next p in let e : p ≡ p + 0 + 0 = omega arith in
        subst (NearRoot n) e (record { over = omega arith; under = omega arith })
    go true false ay an by bn =
        let h = ay tt in let k = bn tt in let i = is in let s = next_sq p in let l = by_last (p + 1) in let r = by_next (p + 1) in let e : p + 1 ≡ p + 1 + 0 = omega arith in
        subst (NearRoot n) e (record { over = omega arith; under = omega arith })
    go true true ay an by bn =
        let k = by tt in let i = is in let s = next_sq p in let t = next_sq (p + 1) in let l = by_last (p + 1 + 1) in let r = by_next (p + 1 + 1) in
        record { over = omega arith; under = omega arith }
    go false true ay an by bn = absurd (let h = an tt in let k = by tt in omega arith)

pub picked : (m g u : ℕ) → 0 < g → Beside m g u → NearRoot (m * 2 ^ 52) (g - 1 + bool_byte (ltb (2 * g - 2) u) + bool_byte (ltb (4 * g - 2) u))
picked m g u G b =
    let p = g - 1 in
    let e : g ≡ p + 1 = omega arith in
    picked_from (m * 2 ^ 52) p u (ltb (2 * g - 2) u) (ltb (4 * g - 2) u) (subst (λ (x : ℕ). u + x * x + 2 ≡ m * 2 ^ 52 + 3 * x) e b.is) (subst (λ (x : ℕ). u ≤ 6 * x) e b.most) b.some
    (λ t. let h = ltb→lt (2 * g - 2) u t in omega arith)
    (λ t. let h = nltb→le (2 * g - 2) u t in omega arith)
    (λ t. let h = ltb→lt (4 * g - 2) u t in omega arith)
    (λ t. let h = nltb→le (4 * g - 2) u t in omega arith)

pub byte_le : (b : Bool) → bool_byte b ≤ 1
byte_le true = lit≤ tt
byte_le false = lit≤ tt

-- ---- the long way

pub long_small : (m r : ℕ) → m < 2 ^ 54 → IsRoot (m * 2 ^ 54) r → r < 2 ^ 54
long_small m r h i = sq_lt_back r (2 ^ 54) (lt_of_le_of_lt i.below (mul-lt-mul_of_pos_right h (pow_pos 54)))

pub long_way : (m r : ℕ) → 2 ^ 52 ≤ m → IsRoot (m * 2 ^ 54) r → NearRoot (m * 2 ^ 52) ((r + 1) / 2)
long_way m r h i = let e : m * 2 ^ 54 ≡ 4 * (m * 2 ^ 52) = omega arith in near_half (m * 2 ^ 52) r (omega arith) (subst (λ (x : ℕ). IsRoot x r) e i)

-- ---- the root of a value taken apart into its digits d and its place j: with m = d or 2 * d, the root of m * 2 ^ 52, times 2 ^ (j / 2 + 485), in smallest values

squared : (n d j : ℕ) → n * 2 ^ 52 ≡ d * 2 ^ j → n * 2 ^ 1074 ≡ d * 2 ^ (j % 2) * 2 ^ 52 * 4 ^ (j / 2 + 485)
squared n d j value =
    let k = j / 2 + 485 in
    sym (mul_assoc n (2 ^ 52) (2 ^ 1022))
    ∙ ap (λ (x : ℕ). x * 2 ^ 1022) value
    ∙ mul_assoc d (2 ^ j) (2 ^ 1022)
    ∙ ap (λ (x : ℕ). d * x) (sym (pow-add 2 j 1022) ∙ ap (λ (x : ℕ). 2 ^ x) places ∙ pow-add 2 (j % 2 + 52) (k + k) ∙ ap (λ (x : ℕ). x * 2 ^ (k + k)) (pow-add 2 (j % 2) 52))
    ∙ sym (mul_assoc d (2 ^ (j % 2) * 2 ^ 52) (2 ^ (k + k)))
    ∙ (λ i. sym (mul_assoc d (2 ^ (j % 2)) (2 ^ 52)) i * sym (four_two k) i)
  where
    places : j + 1022 ≡ j % 2 + 52 + (j / 2 + 485 + (j / 2 + 485))
    places = omega arith

module _ {x : Float} {d j : ℕ} (a : Parted x d j) where
  m_least : 2 ^ 52 ≤ d * 2 ^ (j % 2)
  m_least = le_trans a.least (le_trans (le_of_eq (sym (mul-one d))) (mul-le-mul_left d (pow_pos (j % 2))))

  m_most : d * 2 ^ (j % 2) < 2 ^ 54
  m_most = lt_of_lt_of_le (shl_lt 53 (j % 2) a.most) (pow_mono {i = 53 + j % 2} {j = 54} (omega arith))

  -- shifted by a `<<` the digits stay whole
  shifted : d * 2 ^ (j % 2) % 2 ^ 64 ≡ d * 2 ^ (j % 2)
  shifted = mod-eq_of_lt (lt_of_lt_of_le m_most (lit≤ tt))

  pub m_range : (2 ^ 52 ≤ d * 2 ^ (j % 2) % 2 ^ 64) × (d * 2 ^ (j % 2) % 2 ^ 64 < 2 ^ 54)
  m_range = subst (λ (m : ℕ). (2 ^ 52 ≤ m) × (m < 2 ^ 54)) (sym shifted) (m_least, m_most)

  unshifted : {r : ℕ} → NearRoot (d * 2 ^ (j % 2) % 2 ^ 64 * 2 ^ 52) r → NearRoot (d * 2 ^ (j % 2) * 2 ^ 52) r
  unshifted {r} = subst (λ (m : ℕ). NearRoot (m * 2 ^ 52) r) shifted

  pub r_range : {r : ℕ} → NearRoot (d * 2 ^ (j % 2) % 2 ^ 64 * 2 ^ 52) r → (2 ^ 52 ≤ r) × (r ≤ 2 ^ 53)
  r_range {r} h =
      let n = d * 2 ^ (j % 2) * 2 ^ 52 in
      (near_least n (2 ^ 52) r (mul-le-mul_right (2 ^ 52) m_least) (unshifted h), near_most n (2 ^ 53) r (mul-lt-mul_of_pos_right m_most (pow_pos 52)) (unshifted h))

  pub root_bits : {r : ℕ} → T (positive x) → NearRoot (d * 2 ^ (j % 2) % 2 ^ 64 * 2 ^ 52) r → of_bits binary64 ((j / 2 + 485) * 2 ^ 52 + r) ≡ sqrt_of x
  root_bits {r} p h =
      let k = j / 2 + 485 in
      let J = a.small in
      bits_units r k (r_range h).0 (r_range h).1 (omega arith)
      ∙ sym (root_at binary64 52 (smallests_in binary64 x) (d * 2 ^ (j % 2) * 2 ^ 52) k r refl (squared (smallests_in binary64 x) d j a.value) (mul-le-mul_right (2 ^ 52) m_least) (mul-lt-mul_of_pos_right m_most (pow_pos 52)) (unshifted h))
      ∙ sym (sqrt_positive binary64 x p)

-- ---- the other values

pub at_top : (x : Float) → x ≡ inf false → x ≡ sqrt_of x
unfolding sqrt_in
at_top x e = e ∙ ap (sqrt_in binary64) (sym e)

pub at_zero : (x : Float) → Zero x → x ≡ sqrt_of x
unfolding sqrt_in
at_zero = zero_cases (λ (x : Float). x ≡ sqrt_of x) (λ e. refl) (λ e. refl)

pub at_outside : (x : Float) → Outside x → of_bits binary64 0x7FF8000000000000 ≡ sqrt_of x
unfolding sqrt_in of_bits
at_outside = outside_cases (λ (x : Float). of_bits binary64 0x7FF8000000000000 ≡ sqrt_of x) refl refl (λ m e. refl)
