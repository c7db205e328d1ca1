-- The logarithm's laws: its k and s from a value taken apart, `j as i64 - 1074` as an `f64`, and its cases. Assumes nothing.
use mathlib.Core.Path.{◌≡◌, refl, sym, ap, ◌∙◌, subst}
use mathlib.Core.Bool.{Bool, true, false, not, cond}
use Prim.Native.Nat.{ℕ, suc, ◌+◌, ◌-◌, ◌*◌, ◌/◌, ◌%◌, ◌^◌, ◌≤◌, ◌<◌, compare}
use native.Mathlib.Nat.{le_trans, le_of_eq, le_of_lt, lt_of_lt_of_le, add_comm, mul_comm, mul_assoc, mul-le-mul_right, mul-lt-mul_of_pos_right, le_of_mul-le-mul_right, lt_of_mul-lt-mul_right, mul-div_cancel, mul-mod_left, pow-succ'}
use native.Mathlib.Omega.{arith}
use lib.Dec.{T, leb, ltb, leb→le, nleb→lt, ltb→lt, nltb→le, lit≤, le→leb, lt→ltb}
use lib.IntN.{ℤ, pos, negsuc, ◌-ℤ◌}
use lib.Signed.{mag}
use lib.Pow.{pow_pos}
use lib.Ieee.{Float, inf, binary64, size, nearest, units, round, of_bits, lt, mul, minus, in_float}
use lib.Ieee.Fits.{core, round_is}
use lib.Ieee.Positive.{positive}
use lib.Ieee.Scale.{round_same}
use mir.Syntax.{w64}
use mir.Val.{to_z, of_z, SFits}
use mir.Facts.{to_z_pos}
use mir.ValLaws.{to_z-of_z}
use Rattle.definition.specs.Root.{smallests_in}
use Rattle.definition.specs.Log.{half, ln_of, log_of, log_count, reduced}
use Rattle.laws.specs.Squares.{size_exact}
use Rattle.laws.specs.RootLaws.{positive_cases}
use Rattle.float.specs.Inner.{Parted}
use Rattle.float.proofs.Tests.{Zero, Outside, zero_cases, outside_cases}
use Rattle.float.proofs.Units.{bits_units}

-- ---- s = d / 2 ^ 52, with its pattern d + 1022 * 2 ^ 52, is what the definition divides

-- d / 2 ^ 52 is exact: 2 ^ 1022 smallest values, d times
round_digits : (d : ℕ) → 2 ^ 52 ≤ d → d < 2 ^ 53 → round binary64 false d (2 ^ 52) ≡ units binary64 false d 1022
round_digits d lo hi =
    let e : d * 2 ^ 1074 ≡ d * 2 ^ 1022 * 2 ^ 52 = sym (mul_assoc d (2 ^ 1022) (2 ^ 52)) in
    let q : d * 2 ^ 1074 / 2 ^ 52 ≡ d * 2 ^ 1022 = ap (λ (x : ℕ). x / 2 ^ 52) e ∙ mul-div_cancel (d * 2 ^ 1022) (pow_pos 52) in
    let z : size (d * 2 ^ 1022) ≡ 1075 = size_exact 1074 (d * 2 ^ 1022) (mul-le-mul_right (2 ^ 1022) lo) (mul-lt-mul_of_pos_right hi (pow_pos 1022)) in
    round_is binary64 false d (2 ^ 52)
    ∙ ap (λ (x : ℕ). core binary64 false (d * 2 ^ 1074) (2 ^ 52) (size x - 53)) q
    ∙ ap (λ (x : ℕ). core binary64 false (d * 2 ^ 1074) (2 ^ 52) (x - 53)) z
    ∙ ap (λ (x : ℕ). units binary64 false (nearest x (compare (d * 2 ^ 1074 % 2 ^ 1074 * 2) (2 ^ 1074))) 1022) (mul-div_cancel d (pow_pos 1074))
    ∙ ap (λ (x : ℕ). units binary64 false (nearest d (compare (x * 2) (2 ^ 1074))) 1022) (mul-mod_left d (2 ^ 1074))

ln_positive : (x : Float) → T (positive x) → ln_of x ≡ log_count (smallests_in binary64 x)
unfolding ln_of
ln_positive = positive_cases (λ (x : Float). ln_of x ≡ log_count (smallests_in binary64 x)) (λ m e. refl)

below_middle : (j : ℕ) (s : Float) → lt s (of_bits binary64 0x3FF8000000000000) ≡ true → log_of (minus j 1074) s ≡ reduced j s
unfolding reduced of_bits
below_middle j s h = sym (ap (λ (b : Bool). cond b (log_of (minus j 1074) s) (log_of (minus (j + 1) 1074) (mul binary64 s half))) h)

from_middle : (j : ℕ) (s : Float) → lt s (of_bits binary64 0x3FF8000000000000) ≡ false → log_of (minus (j + 1) 1074) (mul binary64 s (of_bits binary64 0x3FE0000000000000)) ≡ reduced j s
unfolding reduced of_bits
from_middle j s h = sym (ap (λ (b : Bool). cond b (log_of (minus j 1074) s) (log_of (minus (j + 1) 1074) (mul binary64 s half))) h)

module _ {x : Float} {d j : ℕ} (a : Parted x d j) where
  abbrev n : ℕ
  n = smallests_in binary64 x

  digits : size n ≡ suc j
  digits =
      size_exact j n
      (le_of_mul-le-mul_right (le_trans (le_of_eq (mul_comm (2 ^ j) (2 ^ 52))) (le_trans (mul-le-mul_right (2 ^ j) a.least) (le_of_eq (sym a.value)))) (pow_pos 52))
      (lt_of_mul-lt-mul_right (2 ^ 52) (subst (λ (x : ℕ). x < 2 ^ suc j * 2 ^ 52) (sym a.value) (lt_of_lt_of_le (mul-lt-mul_of_pos_right a.most (pow_pos j)) (le_of_eq above))))
    where
      above : 2 ^ 53 * 2 ^ j ≡ 2 ^ suc j * 2 ^ 52
      above = mul_assoc (2 ^ 52) 2 (2 ^ j) ∙ ap (λ (x : ℕ). 2 ^ 52 * x) (sym (pow-succ' 2 j)) ∙ mul_comm (2 ^ 52) (2 ^ suc j)

  part : of_bits binary64 (d + 1022 * 2 ^ 52) ≡ round binary64 false n (2 ^ j)
  part =
      ap (of_bits binary64) (add_comm d (1022 * 2 ^ 52))
      ∙ bits_units d 1022 a.least (le_of_lt a.most) (lit≤ tt)
      ∙ sym (round_digits d a.least a.most)
      ∙ sym (round_same binary64 false n (2 ^ j) d (2 ^ 52) (pow_pos j) (pow_pos 52) a.value)

  log_count_is : log_count n ≡ reduced j (of_bits binary64 (d + 1022 * 2 ^ 52))
  unfolding log_count
  log_count_is = ap (λ (x : ℕ). reduced (x - 1) (round binary64 false n (2 ^ (x - 1)))) digits ∙ ap (λ (x : ℕ). reduced x (round binary64 false n (2 ^ x))) (less j) ∙ ap (reduced j) (sym part)
    where
      less : (j : ℕ) → suc j - 1 ≡ j
      less j = omega arith

  at_positive : T (positive x) → reduced j (of_bits binary64 (d + 1022 * 2 ^ 52)) ≡ ln_of x
  at_positive p = sym (ln_positive x p ∙ log_count_is)

  -- s as it is, or halved
  pub as_is : T (positive x) → lt (of_bits binary64 (d + 1022 * 2 ^ 52)) (of_bits binary64 0x3FF8000000000000) ≡ true → log_of (minus j 1074) (of_bits binary64 (d + 1022 * 2 ^ 52)) ≡ ln_of x
  as_is p h = below_middle j (of_bits binary64 (d + 1022 * 2 ^ 52)) h ∙ at_positive p

  pub halved : T (positive x) → lt (of_bits binary64 (d + 1022 * 2 ^ 52)) (of_bits binary64 0x3FF8000000000000) ≡ false
      → log_of (minus (j + 1) 1074) (mul binary64 (of_bits binary64 (d + 1022 * 2 ^ 52)) (of_bits binary64 0x3FE0000000000000)) ≡ ln_of x
  halved p h = from_middle j (of_bits binary64 (d + 1022 * 2 ^ 52)) h ∙ at_positive p

-- ---- the exponent as an integer and as a float

lowered : (j : ℕ) → pos j -ℤ pos 1074 ≡ minus j 1074
lowered j = go (ltb j 1074) (leb 1074 j) (ltb→lt j 1074) (nltb→le j 1074) (leb→le 1074 j) (nleb→lt 1074 j)
  where
    go : (a b : Bool) → (T a → j < 1074) → (T (not a) → 1074 ≤ j) → (T b → 1074 ≤ j) → (T (not b) → j < 1074) → cond a (negsuc (1074 - suc j)) (pos (j - 1074)) ≡ cond b (pos (j - 1074)) (negsuc (1074 - suc j))
    go true true p q r s = absurd (let x = p tt in let y = r tt in omega arith)
    go true false p q r s = refl
    go false true p q r s = refl
    go false false p q r s = absurd (let x = q tt in let y = s tt in omega arith)

near : (j : ℕ) → j < 4096 → mag (minus j 1074) < 4096
near j h = go (leb 1074 j)
  where
    go : (b : Bool) → mag (cond b (pos (j - 1074)) (negsuc (1074 - suc j))) < 4096
    go true = omega arith
    go false = omega arith

value : (j : ℕ) → j < 4096 → to_z w64 j -ℤ pos 1074 ≡ minus j 1074
value j h = ap (λ (z : ℤ). z -ℤ pos 1074) (to_z_pos w64 (lt_of_lt_of_le h (lit≤ tt))) ∙ lowered j

pub whole : (j : ℕ) → j < 4096 → SFits w64 (to_z w64 j -ℤ pos 1074)
whole j h = record { sfits = subst (λ (z : ℤ). mag z < 2 ^ 63) (sym (value j h)) (let x = near j h in omega arith) }

pub exponent_is : (j : ℕ) → j < 4096 → to_z w64 (of_z w64 (to_z w64 j -ℤ pos 1074)) ≡ minus j 1074
exponent_is j h = to_z-of_z w64 (to_z w64 j -ℤ pos 1074) (whole j h) ∙ value j h

small : (k : ℤ) → mag k < 4096 → T (in_float binary64 k)
unfolding in_float
small (pos n) h = le→leb n (2 ^ 53) (omega arith)
small (negsuc n) h = lt→ltb n (2 ^ 53) (omega arith)

pub exponent_in : (j : ℕ) → j < 4096 → T (in_float binary64 (to_z w64 (of_z w64 (to_z w64 j -ℤ pos 1074))))
exponent_in j h = subst (λ (z : ℤ). T (in_float binary64 z)) (sym (exponent_is j h)) (small (minus j 1074) (near j h))

-- ---- the other values

pub at_top : (x : Float) → x ≡ inf false → x ≡ ln_of x
unfolding ln_of
at_top x e = e ∙ ap ln_of (sym e)

pub at_zero : (x : Float) → Zero x → of_bits binary64 0xFFF0000000000000 ≡ ln_of x
unfolding ln_of of_bits
at_zero = zero_cases (λ (x : Float). of_bits binary64 0xFFF0000000000000 ≡ ln_of x) (λ e. refl) (λ e. refl)

pub at_outside : (x : Float) → Outside x → of_bits binary64 0x7FF8000000000000 ≡ ln_of x
unfolding ln_of of_bits
at_outside = outside_cases (λ (x : Float). of_bits binary64 0x7FF8000000000000 ≡ ln_of x) refl refl (λ m e. refl)
