-- What the code's tests say of a float, by its cases: comparisons with zero, with an infinity and with itself. Assumes nothing.
use mathlib.Core.Path.{◌≡◌, refl, sym, ◌∙◌, subst}
use mathlib.Core.Bool.{Bool, true, false, true≢false, false≢true, not, ◌&&◌, ◌||◌, beq}
use Prim.Native.Nat.{ℕ, zero, suc, ◌*◌, ◌<◌}
use native.Mathlib.Nat.{zero-lt-suc, zero-mul, mul-one}
use native.Mathlib.Omega.{arith}
use lib.IntN.{ℤ}
use lib.Dec.{T, ltb, eqb, ltb→lt, lt→ltb}
use lib.Ieee.{Float, nan, inf, fin, sub, lt, eq, neg, fits, binary64, up, down, is_nan, of_bits}
use lib.Ieee.Fits.{neg-fits, and_i, eq→eqb}
use lib.Ieee.Positive.{positive}
use Rattle.std.specs.Float.{float_is_infinite, float_is_finite}
use Rattle.definition.specs.Num.{0ᶠ, abs_of, is_infinite, is_finite}
use Rattle.laws.specs.Swap.{add_swap}
use Rattle.laws.specs.Same.{zero_fits, plus_zero, minus_zero, some_above, add_plus_zero, zeros_add}
use Rattle.laws.specs.Zeros.{not_zero}
use Rattle.laws.specs.Says.{or_right}

abbrev pub top : Float
top = of_bits binary64 0x7FF0000000000000

yes : (b : Bool) → b ≡ true → T b
yes b h = subst T (sym h) tt

no : (b : Bool) → b ≡ false → T b → ⊥
no b h t = subst T h t

-- ---- against zero

-- a zero, of either sign
abbrev pub Zero : Float → Type 0
Zero nan = ⊥
Zero (inf s) = ⊥
Zero (fin s zero e) = Unit
Zero (fin s (suc m) e) = ⊥

-- a NaN, or below zero
abbrev pub Outside : Float → Type 0
Outside nan = Unit
Outside (inf true) = Unit
Outside (inf false) = ⊥
Outside (fin s zero e) = ⊥
Outside (fin true (suc m) e) = Unit
Outside (fin false (suc m) e) = ⊥

pub zero_cases : (P : Float → Type 0) → ((e : ℤ) → P (fin true 0 e)) → ((e : ℤ) → P (fin false 0 e)) → (x : Float) → Zero x → P x
zero_cases P g h nan z = absurd z
zero_cases P g h (inf s) z = absurd z
zero_cases P g h (fin true zero e) z = g e
zero_cases P g h (fin false zero e) z = h e
zero_cases P g h (fin s (suc m) e) z = absurd z

pub outside_cases : (P : Float → Type 0) → P nan → P (inf true) → ((m : ℕ) (e : ℤ) → P (fin true (suc m) e)) → (x : Float) → Outside x → P x
outside_cases P f g h nan z = f
outside_cases P f g h (inf true) z = g
outside_cases P f g h (inf false) z = absurd z
outside_cases P f g h (fin s zero e) z = absurd z
outside_cases P f g h (fin true (suc m) e) z = h m e
outside_cases P f g h (fin false (suc m) e) z = absurd z

-- m * 2 ^ e against 0, as `lt` and `eq` work it out

none_above : (d u : ℕ) → 0 * d < 0 * u * 1 → ⊥
none_above d u h = omega (arith, zero-mul d, zero-mul u)

level_zero : (s : Bool) (e : ℤ) → T (eqb (0 * up e * 1) (0 * down e) && (beq s false || eqb (0 * up e * 1) 0))
level_zero s e = and_i (eqb (0 * up e * 1) (0 * down e)) (beq s false || eqb (0 * up e * 1) 0) (eq→eqb (left ∙ sym (zero-mul (down e)))) (or_right (beq s false) (eqb (0 * up e * 1) 0) (eq→eqb left))
  where
    left : 0 * up e * 1 ≡ 0
    left = mul-one (0 * up e) ∙ zero-mul (up e)

pub zero_of : (x : Float) → eq x 0ᶠ ≡ true → Zero x
unfolding eq of_bits
zero_of nan h = absurd (false≢true h)
zero_of (inf s) h = absurd (false≢true h)
zero_of (fin s zero e) h = tt
zero_of (fin s (suc m) e) h = not_zero s m e h

pub outside_of : (x : Float) → lt 0ᶠ x ≡ false → eq x 0ᶠ ≡ false → Outside x
unfolding lt eq of_bits
outside_of nan h g = tt
outside_of (inf true) h g = tt
outside_of (inf false) h g = true≢false h
outside_of (fin s zero e) h g = no (eqb (0 * up e * 1) (0 * down e) && (beq s false || eqb (0 * up e * 1) 0)) g (level_zero s e)
outside_of (fin true (suc m) e) h g = tt
outside_of (fin false (suc m) e) h g = no (ltb (0 * down e) (suc m * up e * 1)) h (lt→ltb (0 * down e) (suc m * up e * 1) (some_above m e))

pub above_no_nan : (x : Float) → lt 0ᶠ x ≡ true → T (not (is_nan x))
unfolding lt is_nan of_bits
above_no_nan nan h = absurd (false≢true h)
above_no_nan (inf s) h = tt
above_no_nan (fin s m e) h = tt

-- ---- against an infinity

pub positive_of : (x : Float) → lt 0ᶠ x ≡ true → eq x top ≡ false → T (positive x)
unfolding lt eq of_bits
positive_of nan h g = absurd (false≢true h)
positive_of (inf true) h g = absurd (false≢true h)
positive_of (inf false) h g = absurd (true≢false g)
positive_of (fin true m e) h g = absurd (false≢true h)
positive_of (fin false zero e) h g = absurd (none_above (down e) (up e) (ltb→lt (0 * down e) (0 * up e * 1) (yes (ltb (0 * down e) (0 * up e * 1)) h)))
positive_of (fin false (suc m) e) h g = lt→ltb 0 (suc m) (zero-lt-suc m)

pub top_of : (x : Float) → eq x top ≡ true → x ≡ inf false
unfolding eq of_bits
top_of nan h = absurd (false≢true h)
top_of (inf true) h = absurd (false≢true h)
top_of (inf false) h = refl
top_of (fin s m e) h = absurd (false≢true h)

pub infinite_is : (x : Float) → float_is_infinite x ≡ is_infinite x
unfolding float_is_infinite is_infinite
infinite_is nan = refl
infinite_is (inf s) = refl
infinite_is (fin s m e) = refl

pub finite_is : (x : Float) → float_is_finite x ≡ is_finite x
unfolding float_is_finite is_finite
finite_is nan = refl
finite_is (inf s) = refl
finite_is (fin s m e) = refl

-- ---- the magnitude, by the two cases of `abs`

pub abs_above : (x : Float) → lt 0ᶠ x ≡ true → x ≡ abs_of x
unfolding lt abs_of of_bits
abs_above nan h = refl
abs_above (inf true) h = absurd (false≢true h)
abs_above (inf false) h = refl
abs_above (fin true m e) h = absurd (false≢true h)
abs_above (fin false m e) h = refl

-- 0 - x is the magnitude of every x that is not above zero, and +0 at either zero: a zero that fits is written in the one way
pub abs_rest : (x : Float) → T (fits binary64 x) → lt 0ᶠ x ≡ false → sub binary64 0ᶠ x ≡ abs_of x
unfolding lt abs_of of_bits sub neg fits
abs_rest nan f h = add_swap binary64 plus_zero nan
abs_rest (inf true) f h = add_swap binary64 plus_zero (inf false)
abs_rest (inf false) f h = absurd (true≢false h)
abs_rest (fin true m e) f h = add_swap binary64 plus_zero (fin false m e) ∙ add_plus_zero binary64 (fin false m e) (neg-fits binary64 (fin true m e) f) tt
abs_rest (fin false zero e) f h = let z = zero_fits binary64 false e f in rw z (add_swap binary64 plus_zero minus_zero ∙ zeros_add binary64)
abs_rest (fin false (suc m) e) f h = absurd (no (ltb (0 * down e) (suc m * up e * 1)) h (lt→ltb (0 * down e) (suc m * up e * 1) (some_above m e)))
