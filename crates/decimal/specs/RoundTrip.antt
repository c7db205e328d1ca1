-- What is printed reads back: the digits of a number have its value. A text that fits fills the field. Assumes nothing.
use Rattle.std.specs.Prelude.{◌≡◌, Bool, List, [], ◌∷◌, ℕ, zero, suc, ◌+◌, ◌-◌, ◌*◌, ◌/◌, ◌%◌, ◌^◌, ◌≤◌, ◌<◌, length, replicate}
use Rattle.std.proofs.Common.{sym, ap, ◌∙◌, mod-eq_of_lt, mul_assoc, zero-lt-suc, pow-suc, arith, length-append}
use Rattle.std.proofs.Math.Nat.{one-le-pow}
use Rattle.std.proofs.Math.Arith.{mod-mul}
use Rattle.std.proofs.lemmas.List.{length-replicate}
use Rattle.decimal.specs.Reading.{value_from}
use Rattle.decimal.specs.Printed.{digits_onto, places_of, places_are, text_of, shown}

-- k digits of n after a number m
pub value_digits : (k n m : ℕ) (l : List ℕ) → value_from m (digits_onto k n l) ≡ value_from (m * 10 ^ k + n % 10 ^ k) l
unfolding value_from digits_onto
value_digits zero n m l = ap (λ (x : ℕ). value_from x l) (none m n)
  where
    none : (m n : ℕ) → m ≡ m * 1 + n % 1
    none m n = omega arith
value_digits (suc k) n m l = value_digits k (n / 10) m ((48 + n % 10) ∷ l) ∙ ap (λ (x : ℕ). value_from x l) (next (10 ^ k) (pow-suc 10 k) (mod-mul n {m = 10 ^ k} {c = 10} (one-le-pow k 10 (zero-lt-suc 9)) (zero-lt-suc 9)))
  where
    next : (p : ℕ) → 10 ^ suc k ≡ p * 10 → n % (p * 10) ≡ n / 10 % p * 10 + n % 10 → (m * p + n / 10 % p) * 10 + (48 + n % 10 - 48) ≡ m * 10 ^ suc k + n % 10 ^ suc k
    next p e f =
        let g : m * 10 ^ suc k ≡ m * p * 10 = ap (λ (x : ℕ). m * x) e ∙ sym (mul_assoc m p 10) in
        let h : n % 10 ^ suc k ≡ n % (p * 10) = ap (λ (x : ℕ). n % x) e in
        omega arith

pub read_back : (n : ℕ) → n < 10 ^ 20 → value_from 0 (digits_onto (places_of n) n []) ≡ n
unfolding value_from
read_back n h = value_digits (places_of n) n 0 [] ∙ (let e = mod-eq_of_lt (places_are n h).0 in omega arith)

pub shown_fills : (width d : ℕ) (minus : Bool) (n : ℕ) → length (text_of d minus n) ≤ width → length (shown width d minus n) ≡ width
unfolding shown
shown_fills width d minus n h =
    let t = text_of d minus n in
    omega (arith, length-append (replicate (width - length t) 32) t, length-replicate {A = ℕ} (width - length t) 32)
