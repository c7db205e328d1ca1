-- Zeros of either sign in products and in sums that start from +0.0: a finite number times a zero is a zero, and a zero more changes no sum.
use Rattle.std.specs.Prelude.{◌≡◌, refl, ℕ, zero, suc, ◌*◌, ◌<◌, Bool, true, false, not, List, length, get_or, T, eqb, ℤ, pos, Float}
use Rattle.std.proofs.Common.{sym, ap, ap₂, ◌∙◌, subst, ⊎_elim, zero-mul, mul-zero, mul-pos, eq-or-lt_of_le, arith, eqb-true}
use Rattle.std.specs.Float.{nan, inf, fin, binary64}
use Rattle.std.specs.Float.Ieee.{fits, up, down, unlike, round, mul, eq, of_bits}
use Rattle.std.specs.Float.Ieee.Fits.{down_pos, add-fits}
use Rattle.std.proofs.lemmas.Bool.{not-false}
use Rattle.definition.specs.Num.{◌⊕◌, ◌⊗◌, 0ᶠ, is_zero, is_finite, sum_to}
use Rattle.definition.specs.Refusals.{unfit, not_finite}
use Rattle.laws.specs.Any.{both_true}
use Rattle.laws.specs.All.{all_at, none_fails}
use Rattle.laws.specs.Same.{round_of, zero_fits, some_above, plus_zero, is_minus_zero, add_plus_zero, add_minus_zero}
use Rattle.laws.specs.Swap.{add_swap, mul_swap}

-- a zero, as an operation leaves it
abbrev pub Nil : Float → Type 0
Nil v = (s : Bool) × (v ≡ fin s 0 (pos 0))

pub zero_is : 0ᶠ ≡ fin false 0 (pos 0)
unfolding of_bits
zero_is = refl

pub round_zero : (s : Bool) (a c : ℕ) → a ≡ 0 → 0 < c → round binary64 s a c ≡ fin s 0 (pos 0)
round_zero s a c e h = round_of binary64 s 0 (pos 0) a c h (fit s) (ap (λ (i : ℕ). i * 1) e ∙ sym (ap (λ (i : ℕ). i * c) (zero-mul 1) ∙ zero-mul c))
  where
    fit : (s : Bool) → T (fits binary64 (fin s 0 (pos 0)))
    fit s = unfold fits in tt

pub nil_is_zero : (v : Float) → Nil v → is_zero v ≡ true
unfolding eq of_bits
nil_is_zero v n = ap is_zero n.1 ∙ go n.0
  where
    go : (s : Bool) → is_zero (fin s 0 (pos 0)) ≡ true
    go true = refl
    go false = refl

-- ---- a finite number times a zero

pub not_zero : (s : Bool) (m : ℕ) (e : ℤ) → is_zero (fin s (suc m) e) ≡ true → ⊥
unfolding eq of_bits
not_zero s m e h =
    apart (suc m * up e * 1) (0 * down e) (some_above m e) (eqb-true (suc m * up e * 1) (0 * down e) (both_true (eqb (suc m * up e * 1) (0 * down e)) _ h).0)
  where
    apart : (a b : ℕ) → b < a → a ≡ b → ⊥
    apart a b l h = omega arith

pub times_zero : (v z : Float) → T (is_finite v) → is_zero z ≡ true → Nil (v ⊗ z)
unfolding mul is_finite eq of_bits
times_zero nan z h e = absurd h
times_zero (inf s) z h e = absurd h
times_zero (fin s m d) nan h e = absurd (let w : ◌≡◌ {A = ℕ} 0 1 = cc in omega arith)
times_zero (fin s m d) (inf t) h e = absurd (let w : ◌≡◌ {A = ℕ} 0 1 = cc in omega arith)
times_zero (fin s m d) (fin t zero c) h e =
    (unlike s t, round_zero (unlike s t) _ _ (ap (λ (i : ℕ). m * up d * i) (zero-mul (up c)) ∙ mul-zero (m * up d)) (mul-pos (down_pos d) (down_pos c)))
times_zero (fin s m d) (fin t (suc n) c) h e = absurd (not_zero t n c e)

pub zero_times : (z v : Float) → T (is_finite v) → is_zero z ≡ true → Nil (z ⊗ v)
zero_times z v h e = let n = times_zero v z h e in (n.0, mul_swap binary64 z v ∙ n.1)

-- ---- sums of zeros

-- a zero more
add_nil : (x z : Float) → T (fits binary64 x) → T (not (is_minus_zero x)) → Nil z → x ⊕ z ≡ x
add_nil x z t n (false, e) = ap (λ (v : Float). x ⊕ v) e ∙ add_plus_zero binary64 x t n
add_nil x z t n (true, e) = ap (λ (v : Float). x ⊕ v) e ∙ add_minus_zero binary64 x t

plus_nil : (z : Float) → Nil z → plus_zero ⊕ z ≡ plus_zero
unfolding fits
plus_nil z n = add_nil plus_zero z tt tt n

pub sum_zero : (k : ℕ) (f : ℕ → Float) → ((i : ℕ) → i < k → Nil (f i)) → sum_to k f ≡ fin false 0 (pos 0)
unfolding sum_to
sum_zero zero f h = zero_is
sum_zero (suc k) f h =
    ap (λ (s : Float). s ⊕ f k) (sum_zero k f (λ i l. h i (omega arith))) ∙ plus_nil (f k) (h k (omega arith))

-- ---- a sum with one term that may be something

same : (y : Float) → T (fits binary64 y) → T (not (is_minus_zero y)) → 0ᶠ ⊕ y ≡ y
same y t n = add_swap binary64 0ᶠ y ∙ ap (λ (v : Float). y ⊕ v) zero_is ∙ add_plus_zero binary64 y t n

-- what starts from +0.0 is never -0.0
never_minus : (y : Float) → T (fits binary64 y) → T (not (is_minus_zero (0ᶠ ⊕ y)))
never_minus nan t = subst (λ (v : Float). T (not (is_minus_zero v))) (sym (same nan t tt)) tt
never_minus (inf s) t = subst (λ (v : Float). T (not (is_minus_zero v))) (sym (same (inf s) t tt)) tt
never_minus (fin false m e) t = subst (λ (v : Float). T (not (is_minus_zero v))) (sym (same (fin false m e) t tt)) tt
never_minus (fin true (suc m) e) t = subst (λ (v : Float). T (not (is_minus_zero v))) (sym (same (fin true (suc m) e) t tt)) tt
never_minus (fin true zero e) t =
    subst (λ (v : Float). T (not (is_minus_zero v)))
    (sym (ap (λ (v : Float). v ⊕ fin true 0 e) zero_is ∙ plus_nil (fin true 0 e) (true, ap (λ (d : ℤ). fin true 0 d) (zero_fits binary64 true e t)))) tt

pub only_one : (n l : ℕ) (f : ℕ → Float) → l < n → T (fits binary64 (f l)) → ((k : ℕ) → k < n → (k ≡ l → ⊥) → Nil (f k)) → sum_to n f ≡ 0ᶠ ⊕ f l
unfolding sum_to
only_one zero l f h t z = absurd (omega arith)
only_one (suc n) l f h t z =
    ⊎_elim
    (λ (e : l ≡ n). ap₂ ◌⊕◌ (sum_zero n f (λ k c. z k (omega arith) (λ q. omega arith)) ∙ sym zero_is) (ap f (sym e)))
    (λ (b : l < n).
    ap (λ (s : Float). s ⊕ f n) (only_one n l f b t (λ k c d. z k (omega arith) d))
    ∙ add_nil (0ᶠ ⊕ f l) (f n) (add-fits binary64 0ᶠ (f l)) (never_minus (f l) t) (z n (omega arith) (λ q. omega arith)))
    (eq-or-lt_of_le (omega arith))

-- ---- what refusal 3 sees to

pub finite_at : (l : List Float) (i : ℕ) → not_finite l ≡ false → i < length l → T (is_finite (get_or l i nan))
finite_at l i e h = subst T (sym (not-false (is_finite (get_or l i nan)) (all_at (λ v. unfit v ≡ false) l i nan (none_fails unfit l e) h))) tt
