-- Squares and whole roots: `isqrt n` is the largest number whose square is at most n; the whole number nearest to the root of n, of which there is one only. Assumes nothing.
use Rattle.std.specs.Prelude.{◌≡◌, refl, Bool, true, false, not, cond, T, leb, eqb}
use Rattle.std.proofs.Common.{sym, ap, ◌∙◌, subst, le_refl, le_trans, le_of_eq, le_antisymm, lt_of_lt_of_le, lt_of_le_of_lt, lt_of_not-le, lt_irrefl, le_of_lt, zero-lt-suc, mul-le-mul, mul-le-mul_left, mul-lt-mul_of_pos_right, mul_comm, mul-one, one-mul, mul-suc, add-mul, mul-add, add_assoc, pow-suc, div-lt_iff_lt-mul, arith, leb→le, eqb→eq, pow-add, pow_pos, pow_mono}
use Prim.Native.Nat.{ℕ, zero, suc, ◌+◌, ◌-◌, ◌*◌, ◌/◌, ◌%◌, ◌^◌, ◌≤◌, ◌<◌, compare, Ordering}
use Rattle.std.proofs.Math.Nat.{mul-mul-mul_comm}
use Rattle.std.proofs.Math.Dec.{is_le, compare_is_eq, nleb→lt, eqb_refl}
use Rattle.std.proofs.Math.Arith.{lt_of_le-ne}
use Rattle.std.specs.Float.Ieee.{size, nearest}
use Rattle.std.specs.Float.Ieee.Digits.{size-lt, size-le}
use Rattle.definition.specs.Root.{cut_root, isqrt}

-- r is the root of n, cut to a whole number
pub record IsRoot (n r : ℕ) : Type 0 where
  pub below : r * r ≤ n
  pub above : n < (r + 1) * (r + 1)

-- p is the whole number nearest to the root of n: n lies between the squares of p - 1/2 and p + 1/2. A tie cannot be, since those squares are no whole numbers
pub record NearRoot (n p : ℕ) : Type 0 where
  pub over : p * (p - 1) < n
  pub under : n ≤ p * (p + 1)

-- ---- products of a number and one beside it
pub next_sq : (q : ℕ) → (q + 1) * (q + 1) ≡ q * q + 2 * q + 1
next_sq q = let e : (q + 1) * (q + 1) ≡ q * q + q + (q + 1) = simp (add-mul, mul-add, mul-one, one-mul, add_assoc) in omega arith

pub twice_sq : (q : ℕ) → 2 * q * (2 * q) ≡ 4 * (q * q)
twice_sq q = mul-mul-mul_comm 2 q 2 q

pub by_next : (q : ℕ) → q * (q + 1) ≡ q * q + q
by_next q = mul-add q q 1 ∙ ap (λ (x : ℕ). q * q + x) (mul-one q)

pub by_last : (q : ℕ) → q * (q - 1) + q ≡ q * q
by_last zero = refl
by_last (suc q) = ap (λ (x : ℕ). suc q * x + suc q) (less q) ∙ sym (mul-suc (suc q) q)
  where
    less : (q : ℕ) → suc q - 1 ≡ q
    less q = omega arith

pub sq_lt : (a b : ℕ) → a < b → a * a < b * b
sq_lt a b h = lt_of_le_of_lt (mul-le-mul_left a (le_of_lt h)) (mul-lt-mul_of_pos_right h (some a b h))
  where
    some : (a b : ℕ) → a < b → 0 < b
    some a b h = omega arith

-- squares are in the order of their roots
pub sq_lt_back : (a b : ℕ) → a * a < b * b → a < b
sq_lt_back a b h = lt_of_not-le (λ (g : b ≤ a). lt_irrefl (a * a) (lt_of_lt_of_le h (mul-le-mul g g)))

-- ---- powers, and how many binary digits a number has
pub four_two : (k : ℕ) → 4 ^ k ≡ 2 ^ (k + k)
four_two k = go k ∙ sym (pow-add 2 k k)
  where
    go : (k : ℕ) → 4 ^ k ≡ 2 ^ k * 2 ^ k
    go zero = refl
    go (suc k) = pow-suc 4 k ∙ ap (λ (x : ℕ). x * 4) (go k) ∙ mul-mul-mul_comm (2 ^ k) (2 ^ k) 2 2 ∙ (λ i. sym (pow-suc 2 k) i * sym (pow-suc 2 k) i)

pub four_pos : (k : ℕ) → 0 < 4 ^ k
four_pos k = subst (λ (x : ℕ). 0 < x) (sym (four_two k)) (pow_pos (k + k))

pub pow_lt_back : (i j : ℕ) → 2 ^ i < 2 ^ j → i < j
pow_lt_back i j h = lt_of_not-le (λ (g : j ≤ i). lt_irrefl (2 ^ i) (lt_of_lt_of_le h (pow_mono g)))

pub size_above : (a n : ℕ) → 2 ^ a ≤ n → a < size n
size_above a n h = pow_lt_back a (size n) (lt_of_le_of_lt h (size-lt n))

pub size_exact : (a n : ℕ) → 2 ^ a ≤ n → n < 2 ^ suc a → size n ≡ suc a
size_exact a n lo hi = le_antisymm (size-le n (suc a) hi) (size_above a n lo)

-- ---- the cut root

-- the root of n is twice that of n / 4, or one more
one_digit : (n s : ℕ) → IsRoot (n / 4) s → IsRoot n (cond (leb ((2 * s + 1) * (2 * s + 1)) n) (2 * s + 1) (2 * s))
one_digit n s h = go (leb ((2 * s + 1) * (2 * s + 1)) n) (leb→le ((2 * s + 1) * (2 * s + 1)) n) (nleb→lt ((2 * s + 1) * (2 * s + 1)) n)
  where
    go : (b : Bool) → (T b → (2 * s + 1) * (2 * s + 1) ≤ n) → (T (not b) → n < (2 * s + 1) * (2 * s + 1)) → IsRoot n (cond b (2 * s + 1) (2 * s))
    go true p n' =
        let a = next_sq s in
        let b = next_sq (2 * s + 1) in
        let c = next_sq (2 * s) in
        let d = twice_sq s in
        record { below = p tt; above = omega (arith, h.above) }
    go false p n' = let d = twice_sq s in record { below = omega (arith, h.below); above = n' tt }

cut_root_lem : (k n : ℕ) → n < 4 ^ k → IsRoot n (cut_root k n)
unfolding cut_root
cut_root_lem zero n h = record { below = omega arith; above = omega arith }
cut_root_lem (suc k) n h = one_digit n (cut_root k (n / 4)) (cut_root_lem k (n / 4) ((div-lt_iff_lt-mul (zero-lt-suc 3)).1 (subst (λ (x : ℕ). n < x) (pow-suc 4 k) h)))

pub isqrt_is : (n : ℕ) → IsRoot n (isqrt n)
unfolding isqrt
isqrt_is n = cut_root_lem (size n) n (lt_of_lt_of_le (size-lt n) (twos (size n)))
  where
    twos : (k : ℕ) → 2 ^ k ≤ 4 ^ k
    twos zero = le_refl 1
    twos (suc k) = let a = pow-suc 2 k in let b = pow-suc 4 k in let c = twos k in omega arith

-- ---- the nearest root
before_mono : (a r : ℕ) → a + 1 ≤ r → a * (a + 1) ≤ r * (r - 1)
before_mono a r h = le_trans (le_of_eq (mul_comm a (a + 1))) (mul-le-mul h (less a r h))
  where
    less : (a r : ℕ) → a + 1 ≤ r → a ≤ r - 1
    less a r h = omega arith

no_later : (n p r : ℕ) → NearRoot n p → NearRoot n r → r < p + 1
no_later n p r a b = lt_of_not-le (λ (g : p + 1 ≤ r). lt_irrefl n (lt_of_le_of_lt (le_trans a.under (before_mono p r g)) b.over))

-- there is one only
pub one_near : (n p r : ℕ) → NearRoot n p → NearRoot n r → p ≡ r
one_near n p r a b = let x = no_later n p r a b in let y = no_later n r p b a in omega arith

-- it is in the order of whole roots
pub near_least : (n a p : ℕ) → a * a ≤ n → NearRoot n p → a ≤ p
near_least n a p h r = less a p (lt_of_not-le (λ (g : p + 1 ≤ a). lt_irrefl n (lt_of_le_of_lt (le_trans r.under (mul-le-mul_left p g)) (lt_of_lt_of_le (mul-lt-mul_of_pos_right (under p a g) (some p a g)) h))))
  where
    less : (a p : ℕ) → a < p + 1 → a ≤ p
    less a p h = omega arith

    under : (p a : ℕ) → p + 1 ≤ a → p < a
    under p a h = omega arith

    some : (p a : ℕ) → p + 1 ≤ a → 0 < a
    some p a h = omega arith

pub near_most : (n a p : ℕ) → n < a * a → NearRoot n p → p ≤ a
near_most n a p h r = less a p (lt_of_not-le (λ (g : a + 1 ≤ p). lt_irrefl n (lt_of_lt_of_le h (le_trans (mul-le-mul_left a (more a)) (le_trans (before_mono a p g) (le_of_lt r.over))))))
  where
    less : (a p : ℕ) → p < a + 1 → p ≤ a
    less a p h = omega arith

    more : (a : ℕ) → a ≤ a + 1
    more a = omega arith

-- what `compare` says
abbrev pub Cmp : Ordering → ℕ → ℕ → Type 0
Cmp Ordering.lt a b = a < b
Cmp Ordering.eq a b = a ≡ b
Cmp Ordering.gt a b = b < a

pub cmp : (a b : ℕ) → Cmp (compare a b) a b
cmp a b = go (compare a b) (leb→le a b) (nleb→lt a b) (eqb→eq a b) (λ (e : a ≡ b). subst (λ (x : ℕ). T (eqb a x)) e (eqb_refl a))
  where
    go : (o : Ordering) → (T (is_le o) → a ≤ b) → (T (not (is_le o)) → b < a) → (T (compare_is_eq o) → a ≡ b) → (a ≡ b → T (compare_is_eq o)) → Cmp o a b
    go Ordering.lt h k e n = lt_of_le-ne (h tt) n
    go Ordering.eq h k e n = e tt
    go Ordering.gt h k e n = k tt

-- the cut root, moved up where the root lies above the number half way to the next one
pub near_is : (n q : ℕ) (o : Ordering) → 0 < q → IsRoot n q → Cmp o (4 * n) ((2 * q + 1) * (2 * q + 1)) → NearRoot n (nearest q o)
near_is n q Ordering.lt h r c =
    let a = next_sq (2 * q) in
    let b = twice_sq q in
    let d = by_next q in
    let e = by_last q in
    record { over = omega (arith, r.below); under = omega arith }
near_is n q Ordering.eq h r c = let a = next_sq (2 * q) in let b = twice_sq q in absurd (omega arith)
near_is n q Ordering.gt h r c =
    let a = next_sq (2 * q) in
    let b = twice_sq q in
    let d = by_next (suc q) in
    let e = by_last (suc q) in
    let f = next_sq q in
    let g : suc q * suc q ≡ (q + 1) * (q + 1) = ap (λ (x : ℕ). x * x) (up q) in
    record { over = omega arith; under = omega (arith, r.above) }
  where
    up : (q : ℕ) → suc q ≡ q + 1
    up q = omega arith

-- from the cut root r of 4 * n, which has one binary digit more: half of it, rounded up. r is twice that number, or one less
half_even : (n p : ℕ) → 0 < p → IsRoot (4 * n) (2 * p) → NearRoot n p
half_even n p h i =
    let a = twice_sq p in
    let b = next_sq (2 * p) in
    let c = by_next p in
    let d = by_last p in
    record { over = omega (arith, i.below); under = omega (arith, i.above) }

half_odd : (n p r : ℕ) → 0 < p → r + 1 ≡ 2 * p → IsRoot (4 * n) r → NearRoot n p
half_odd n p r h e i =
    let a = ap (λ (x : ℕ). x * x) e ∙ twice_sq p in
    let b = next_sq r in
    let c = by_next p in
    let d = by_last p in
    record { over = omega (arith, i.below); under = omega (arith, i.above) }

pub near_half : (n r : ℕ) → 0 < n → IsRoot (4 * n) r → NearRoot n ((r + 1) / 2)
near_half n r h i = go (r % 2) refl
  where
    some : 1 < r + 1
    some = sq_lt_back 1 (r + 1) (lt_of_le_of_lt (more n h) i.above)
      where
        more : (n : ℕ) → 0 < n → 1 * 1 ≤ 4 * n
        more n h = omega arith

    go : (b : ℕ) → r % 2 ≡ b → NearRoot n ((r + 1) / 2)
    go zero e = let s = some in half_even n ((r + 1) / 2) (omega arith) (subst (IsRoot (4 * n)) (omega arith) i)
    go (suc b) e = let s = some in half_odd n ((r + 1) / 2) r (omega arith) (omega arith) i
