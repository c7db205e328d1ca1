-- By whether the list has run out.
use mathlib.Core.Path.{◌≡◌, refl, sym, ap, ◌∙◌}
use Prim.Native.Nat.{ℕ, suc, ◌-◌, ◌*◌, ◌/◌, ◌≤◌, ◌<◌, min}
use native.Mathlib.Nat.{min-eq_left, min-eq_right, mul-le-mul, mul-le-mul_right, suc-mul, zero-mul, mul-zero, zero-div}
use native.Mathlib.Omega.{arith}
use mathlib.Core.Bool.{Bool, true, false}
use lib.Dec.{ltb}
use borrow.Author.Tests.{ltb-true, ltb-false}
use Rattle.model.specs.Lists.{Whole, entry_in}
use Rattle.model.proofs.lists.entry_from.Goals as goal

small : {t k : ℕ} → t ≤ 4096 → k ≤ 64 → t * k ≤ 262144
small {t} {k} h g = mul-le-mul {n₁ = t} {m₁ = k} {n₂ = 4096} {m₂ = 64} h g

module _ {k list : ℕ} (t : ℕ) (s : Whole k list) where
  -- an entry has numbers
  filled : k ≡ 0 → ⊥
  filled e =
      let none : list ≡ 0 = s.whole ∙ ap (λ (i : ℕ). list / k * i) e ∙ mul-zero (list / k) in
      omega (arith, s.some, ap (λ (i : ℕ). i / k) none, zero-div k)

  -- the first place of entry t is within the list, or the list has run out
  within : t * k < list → t < list / k
  within h = by (ltb t (list / k)) refl
    where
      by : (b : Bool) → ltb t (list / k) ≡ b → t < list / k
      by true e = ltb-true _ _ e
      by false e = absurd (omega (arith, s.whole, mul-le-mul_right {m = list / k} {n = t} k (ltb-false _ _ e)))

  past : list ≤ t * k → list / k ≤ t
  past h = by (ltb t (list / k)) refl
    where
      by : (b : Bool) → ltb t (list / k) ≡ b → list / k ≤ t
      by true e = absurd (filled (omega (arith, s.whole, suc-mul t k, mul-le-mul_right {m = suc t} {n = list / k} k (ltb-true _ _ e))))
      by false e = ltb-false _ _ e

  first : t * k < list → t * k ≡ min t (list / k - 1) * k
  first h = ap (λ (i : ℕ). i * k) (sym (min-eq_left (omega (arith, within h))))

  last : list ≤ t * k → list - k ≡ min t (list / k - 1) * k
  last h =
      let n = list / k in
      let one : suc (n - 1) ≡ n = omega (arith, s.some) in
      omega (arith, s.whole, suc-mul (n - 1) k, ap (λ (i : ℕ). i * k) one) ∙ ap (λ (i : ℕ). i * k) (sym (min-eq_right (omega (arith, past h))))

pub returns-then-from-list : goal.returns-then-from-list
returns-then-from-list c = first c.args.t c.requires.0 c.if-from-list.true

pub overflow_sub-result : goal.overflow_sub-result
overflow_sub-result c = omega (arith, entry_in 0 c.requires.0 c.requires.0.some, zero-mul c.args.k)

pub returns : goal.returns
returns c = last c.args.t c.requires.0 (omega arith)

pub overflow_mul-from : goal.overflow_mul-from
overflow_mul-from c = omega (arith, small c.requires.2 c.requires.1)
