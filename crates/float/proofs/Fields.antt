-- A float that is finite and above zero, by its bit pattern. `Read x b`: b's exponent's field is below 2047, and the fields say how many smallest values x is.
-- Assumes nothing.
use mathlib.Core.Path.{◌≡◌, refl, sym, ap, ◌∙◌, subst}
use mathlib.Core.Bool.{Bool, true, false, not, cond}
use Prim.Native.Nat.{ℕ, zero, suc, ◌+◌, ◌-◌, ◌*◌, ◌/◌, ◌%◌, ◌^◌, ◌≤◌, ◌<◌}
use native.Mathlib.Nat.{add_comm, le_of_suc-le-suc, lt_of_lt_of_le, lt_of_le_of_lt, mul-one, mul_comm, mul_assoc, mul-le-mul_right, mod-eq_of_lt}
use native.Mathlib.Omega.{arith}
use lib.Dec.{T, T_not, leb, eqb, nleb→lt, lit≤}
use lib.Arith.{lt_of_le-ne}
use lib.Count.{count_leading_zeros, leading_top}
use lib.Pow.{pow_pos, pow-add, shl_lt}
use lib.Ieee.{Float, nan, inf, binary64, odd, of_fields, of_bits, to_bits, fits, is_nan}
use lib.Ieee.Exact.{HasValue, odd_sign}
use lib.Ieee.Positive.{positive, value_pos}
use lib.Ieee.Bits.{of_bits-to_bits}
use Rattle.definition.specs.Root.{smallests_in}
use Rattle.laws.specs.Squares.{pow_lt_back}
use Rattle.laws.specs.RootLaws.{count_val, positive_cases}
use Rattle.float.specs.Inner.{Parted}

-- ---- how many smallest values a value is
count_of : (x : Float) (s : Bool) (a : ℕ) → T (positive x) → HasValue x s a (2 ^ 1074) → (s ≡ false) × (smallests_in binary64 x ≡ a) × (0 < a)
count_of x s a p v =
    let plus : s ≡ false = positive_cases (λ (x : Float). HasValue x s a (2 ^ 1074) → s ≡ false) (λ m e. λ v. sym v.0) x p v in
    (plus, count_val binary64 x s a v, value_pos x a (2 ^ 1074) p (pow_pos 1074) (subst (λ (t : Bool). HasValue x t a (2 ^ 1074)) plus v))

-- ---- what the fields say
abbrev pub Says : ℕ → ℕ → ℕ → Type 0
Says zero t n = n ≡ t
Says (suc y) t n = (suc y < 2047) × (n ≡ (2 ^ 52 + t) * 2 ^ y)

not_top : (y : ℕ) → y < 2048 → T (not (eqb y 2047)) → y < 2047
not_top y h n = lt_of_le-ne (le_of_suc-le-suc h) (λ (e : y ≡ 2047). T_not (eqb y 2047) n (subst (λ (z : ℕ). T (eqb z 2047)) (sym e) tt))

fields : (s : Bool) (y t : ℕ) (x : Float) → y < 2048 → T (positive x) → of_fields binary64 s y t ≡ x → (s ≡ false) × Says y t (smallests_in binary64 x) × (0 < smallests_in binary64 x)
unfolding of_fields
fields s zero t x Y p e =
    let v : HasValue x s (t * 1) (2 ^ 1074) = subst (λ (z : Float). HasValue z s (t * 1) (2 ^ 1074)) e (odd_sign 53 s t 0 1074) in
    let c = count_of x s (t * 1) p v in
    (c.0, c.1 ∙ mul-one t, subst (λ (n : ℕ). 0 < n) (sym c.1) c.2)
fields s (suc y) t x Y p e = go (eqb (suc y) 2047) (eqb t 0) refl e
  where
    go : (b d : Bool) → eqb (suc y) 2047 ≡ b → cond b (cond d (inf s) nan) (odd 53 s (2 ^ 52 + t) y 1074) ≡ x → (s ≡ false) × ((suc y < 2047) × (smallests_in binary64 x ≡ (2 ^ 52 + t) * 2 ^ y)) × (0 < smallests_in binary64 x)
    go true true q e = absurd (subst (λ (z : Float). T (positive z)) (sym e) p)
    go true false q e = absurd (subst (λ (z : Float). T (positive z)) (sym e) p)
    go false d q e =
        let v : HasValue x s ((2 ^ 52 + t) * 2 ^ y) (2 ^ 1074) = subst (λ (z : Float). HasValue z s ((2 ^ 52 + t) * 2 ^ y) (2 ^ 1074)) e (odd_sign 53 s (2 ^ 52 + t) y 1074) in
        let c = count_of x s ((2 ^ 52 + t) * 2 ^ y) p v in
        (c.0, (not_top (suc y) Y (subst (λ (b : Bool). T (not b)) (sym q) tt), c.1), subst (λ (n : ℕ). 0 < n) (sym c.1) c.2)

field_lt : (b : ℕ) → b % 2 ^ 63 / 2 ^ 52 < 2048
field_lt b = omega arith

pub record Read (x : Float) (b : ℕ) : Type 0 where
  pub sign : b < 2 ^ 63
  pub says : Says (b / 2 ^ 52) (b % 2 ^ 52) (smallests_in binary64 x)
  pub some : 0 < smallests_in binary64 x

read_of : (x : Float) (b : ℕ) → T (positive x) → of_bits binary64 b ≡ x → Read x b
unfolding of_bits
read_of x b p e =
    let f = fields (leb (2 ^ 63) b) (b % 2 ^ 63 / 2 ^ 52) (b % 2 ^ 52) x (field_lt b) p e in
    let h : b < 2 ^ 63 = nleb→lt (2 ^ 63) b (subst (λ (c : Bool). T (not c)) (sym f.0) tt) in
    record {
      sign = h;
      says = subst (λ (y : ℕ). Says y (b % 2 ^ 52) (smallests_in binary64 x)) (ap (λ (z : ℕ). z / 2 ^ 52) (mod-eq_of_lt h)) f.1;
      some = f.2;
    }

pub read : (x : Float) → T (fits binary64 x) → T (positive x) → Read x (to_bits binary64 x)
read x f p = read_of x (to_bits binary64 x) p (of_bits-to_bits binary64 x f)

-- ---- taken apart
pub lead : (b : ℕ) → 0 < b → b / 2 ^ 52 ≡ 0 → (j : ℕ) × (count_leading_zeros 64 b + suc j ≡ 64) × (2 ^ j ≤ b) × (b < 2 ^ suc j) × (j < 52)
lead b h e =
    let l = leading_top 64 b h (omega arith) in
    (l.0, l.1, l.2, l.3, pow_lt_back l.0 52 (lt_of_le_of_lt l.2 (omega arith)))

shift : (j : ℕ) → j < 52 → 2 ^ (52 - j) * 2 ^ j ≡ 2 ^ 52
shift j h = sym (pow-add 2 (52 - j) j) ∙ ap (λ (x : ℕ). 2 ^ x) (back j h)
  where
    back : (j : ℕ) → j < 52 → 52 - j + j ≡ 52
    back j h = omega arith

low_parts : (x : Float) (b s j : ℕ) → smallests_in binary64 x ≡ b → 2 ^ j ≤ b → b < 2 ^ suc j → j < 52 → s ≡ 52 - j → Parted x (b * 2 ^ s % 2 ^ 64) (52 - s)
low_parts x b s j n lo hi J e =
    let least : 2 ^ 52 ≤ b * 2 ^ (52 - j) = subst (λ (y : ℕ). y ≤ b * 2 ^ (52 - j)) (mul_comm (2 ^ j) (2 ^ (52 - j)) ∙ shift j J) (mul-le-mul_right (2 ^ (52 - j)) lo) in
    let most : b * 2 ^ (52 - j) < 2 ^ 53 = subst (λ (y : ℕ). b * 2 ^ (52 - j) < 2 ^ y) (up_to j J) (shl_lt (suc j) (52 - j) hi) in
    let same : b * 2 ^ (52 - j) % 2 ^ 64 ≡ b * 2 ^ (52 - j) = mod-eq_of_lt (lt_of_lt_of_le most (lit≤ tt)) in
    subst (λ (t : ℕ). Parted x (b * 2 ^ t % 2 ^ 64) (52 - t)) (sym e)
    (subst (λ (d : ℕ). Parted x d (52 - (52 - j))) (sym same)
    (subst (λ (k : ℕ). Parted x (b * 2 ^ (52 - j)) k) (sym (twice j J))
    (record {
      least = least;
      most = most;
      small = omega arith;
      value = ap (λ (y : ℕ). y * 2 ^ 52) n ∙ ap (λ (y : ℕ). b * y) (sym (shift j J)) ∙ sym (mul_assoc b (2 ^ (52 - j)) (2 ^ j));
    })))
  where
    up_to : (j : ℕ) → j < 52 → suc j + (52 - j) ≡ 53
    up_to j h = omega arith

    twice : (j : ℕ) → j < 52 → 52 - (52 - j) ≡ j
    twice j h = omega arith

says_low : (y t n : ℕ) → y ≡ 0 → Says y t n → n ≡ t
says_low zero t n e s = s
says_low (suc y) t n e s = absurd (none y e)
  where
    none : (y : ℕ) → suc y ≡ 0 → ⊥
    none y e = omega arith

-- how far to shift
pub by : (x : Float) (b : ℕ) → Read x b → b / 2 ^ 52 ≡ 0 → (11 ≤ count_leading_zeros 64 b) × (count_leading_zeros 64 b - 11 ≤ 52)
by x b r e = let n = says_low (b / 2 ^ 52) (b % 2 ^ 52) (smallests_in binary64 x) e r.says in let l = lead b (omega (arith, r.some)) e in (omega arith, omega arith)

pub parted_low : (x : Float) (b : ℕ) → Read x b → b / 2 ^ 52 ≡ 0 → Parted x (b * 2 ^ (count_leading_zeros 64 b - 11) % 2 ^ 64) (52 - (count_leading_zeros 64 b - 11))
parted_low x b r e =
    let n = says_low (b / 2 ^ 52) (b % 2 ^ 52) (smallests_in binary64 x) e r.says in
    let l = lead b (omega (arith, r.some)) e in
    low_parts x b (count_leading_zeros 64 b - 11) l.0 (omega arith) l.2 l.3 l.4 (omega arith)

says_high : (x : Float) (y t : ℕ) → (y ≡ 0 → ⊥) → t < 2 ^ 52 → Says y t (smallests_in binary64 x) → Parted x (t + 2 ^ 52) (y + 51)
says_high x zero t n h s = absurd (n refl)
says_high x (suc y) t n h s = record {
  least = omega arith;
  most = omega arith;
  small = let a = s.0 in omega arith;
  value =
      ap (λ (z : ℕ). z * 2 ^ 52) s.1
      ∙ mul_assoc (2 ^ 52 + t) (2 ^ y) (2 ^ 52)
      ∙ ap (λ (z : ℕ). (2 ^ 52 + t) * z) (sym (pow-add 2 y 52) ∙ ap (λ (z : ℕ). 2 ^ z) (one_less y))
      ∙ ap (λ (z : ℕ). z * 2 ^ (suc y + 51)) (add_comm (2 ^ 52) t);
}
  where
    one_less : (y : ℕ) → y + 52 ≡ suc y + 51
    one_less y = omega arith

pub parted_high : (x : Float) (b : ℕ) → Read x b → (b / 2 ^ 52 ≡ 0 → ⊥) → Parted x (b % 2 ^ 52 + 2 ^ 52) (b / 2 ^ 52 + 51)
parted_high x b r n = says_high x (b / 2 ^ 52) (b % 2 ^ 52) n (omega arith) r.says

pub no_nan : (x : Float) → T (positive x) → T (not (is_nan x))
unfolding is_nan
no_nan = positive_cases (λ (x : Float). T (not (is_nan x))) (λ m e. tt)
