-- A double in a decimal unit: the whole number that is nearest to it times 10 ^ decimals, a tie away from zero.
use Rattle.std.proofs.Common.{sym, ap, ◌∙◌, subst, add-mul, one-mul, div-mul-le_self, arith}
use Rattle.std.specs.Prelude.{Bool, false, cond, ℕ, ◌+◌, ◌*◌, ◌/◌, ◌^◌, ◌≤◌, ◌<◌, ltb, eqb, Float}
use Rattle.std.proofs.Math.Nat.{lt-div-mul-add}
use Rattle.std.specs.Float.{nan, inf, fin}
use Rattle.std.specs.Float.Ieee.{up, down}
use Rattle.decimal.specs.declared.answers.Units.{Units}
use Rattle.decimal.specs.declared.answers.Units.TheVariants.{Whole, NotANumber, Infinite, TooLarge}
use Rattle.decimal.specs.Reading.{whole}

-- the whole number nearest to n / c: n / c + 1 / 2, cut. A tie goes up, so away from zero, since signs are apart.
unfoldable pub away : ℕ → ℕ → ℕ
away n c = (2 * n + c) / (2 * c)

-- q units with a sign. Zero has no minus.
unfoldable pub sized_of : Bool → ℕ → Units
sized_of minus q = cond (ltb q (10 ^ 18)) (Whole (whole (cond (eqb q 0) false minus) q)) (TooLarge minus)

-- a finite value is m * 2 ^ e, which is m * up e / down e
unfoldable pub units_of : ℕ → Float → Units
units_of d nan = NotANumber
units_of d (inf s) = Infinite s
units_of d (fin s m e) = sized_of s (away (m * up e * 10 ^ d) (down e))

-- ---- the number that `away` gives is half a unit or less from n / c, and where n / c lies half way it is the upper one: away n c - 1 / 2 ≤ n / c < away n c + 1 / 2
pub away_is : (n c : ℕ) → 0 < c → (away n c * (2 * c) ≤ 2 * n + c) × (2 * n + c < (away n c + 1) * (2 * c))
unfolding away
away_is n c h =
    let a = 2 * n + c in
    let b = 2 * c in
    let above : a < a / b * b + b = lt-div-mul-add {a = a} {b = b} (omega arith) in
    (div-mul-le_self a b, subst (λ (x : ℕ). a < x) (ap (λ (x : ℕ). a / b * b + x) (sym (one-mul b)) ∙ sym (add-mul (a / b) 1 b)) above)
