-- Half of x + x is x, where x + x does not overflow; and it does not where x is itself half of a value. So to symmetrise twice is to symmetrise once.
-- Assumes nothing.
use Rattle.std.specs.Prelude.{◌≡◌, Bool, true, false, T, ℤ, negsuc, Float}
use Rattle.std.proofs.Math.Path.{refl}
use Rattle.std.proofs.Common.{sym, ap, ◌∙◌, subst, le_refl, le_trans, le_of_eq, lt_of_le_of_lt, zero-lt-suc, mul-one, one-mul, mul_comm, mul_assoc, mul_right_comm, mul-pos, pow-suc, two-mul, div-le_self, arith, lit<, pow_pos}
use Prim.Native.Nat.{ℕ, zero, suc, ◌+◌, ◌-◌, ◌*◌, ◌/◌, ◌%◌, ◌^◌, ◌≤◌, ◌<◌, compare}
use Rattle.std.proofs.Math.Nat.{pow-succ', eq_of_mul-eq-mul_right}
use Rattle.std.proofs.Math.Pow.{pow-lt}
use Rattle.std.specs.Float.{nan, inf, fin, Format, binary32, binary64}
use Rattle.std.specs.Float.Ieee.{prec, emax, low, up, down, size, round, unlike, add, mul, sum, fits}
use Rattle.std.specs.Float.Ieee.Digits.{size-le}
use Rattle.std.specs.Float.Ieee.Fits.{down_pos, add-fits, mul-fits, core, round_is, nearest-le}
use Rattle.std.specs.Float.Ieee.Exact.{HasValue, round_exact, units_val}
use Rattle.std.specs.Float.Ieee.Nearest.{div_same, closest}
use Rattle.std.specs.Float.Ieee.Scale.{round_same}
use Rattle.laws.specs.Same.{held, place, in_range, round_of}

abbrev pub half : Float
half = fin false 1 (negsuc 0)

mul_two : (m : ℕ) → m * 2 ≡ m + m
mul_two m = mul_comm m 2 ∙ two-mul m

-- ---- half of a value
unlike_left : (s : Bool) → unlike false s ≡ s
unlike_left true = refl
unlike_left false = refl

mul-half : (f : Format) (y : Float) (s : Bool) (a c : ℕ) → 0 < c → HasValue y s a c → mul f half y ≡ round f s a (c * 2)
unfolding mul
mul-half f nan s a c C v = absurd v
mul-half f (inf t) s a c C v = absurd v
mul-half f (fin t n d) s a c C v =
    ap (λ (b : Bool). round f b (1 * (n * up d)) (2 * down d)) (unlike_left t ∙ v.0)
    ∙ round_same f s (1 * (n * up d)) (2 * down d) a (c * 2) (mul-pos (zero-lt-suc 1) (down_pos d)) (mul-pos C (zero-lt-suc 1))
    (ap (λ (x : ℕ). x * (c * 2)) (one-mul (n * up d)) ∙ sym (mul_assoc (n * up d) c 2) ∙ ap (λ (x : ℕ). x * 2) v.1 ∙ mul_assoc a (down d) 2 ∙ ap (λ (x : ℕ). a * x) (mul_comm (down d) 2))

-- ---- twice a value
same_sign : (f : Format) (s : Bool) (a c : ℕ) → sum f s a s a c ≡ round f s (a + a) c
unfolding sum
same_sign f true a c = refl
same_sign f false a c = refl

add_self : (f : Format) (s : Bool) (m : ℕ) (e : ℤ) → add f (fin s m e) (fin s m e) ≡ round f s (m * up e * 2) (down e)
unfolding add
add_self f s m e =
    let a = m * up e in
    let c = down e in
    same_sign f s (a * c) (c * c)
    ∙ round_same f s (a * c + a * c) (c * c) (a * 2) c (mul-pos (down_pos e) (down_pos e)) (down_pos e)
    (ap (λ (x : ℕ). x * c) (sym (mul_two (a * c)) ∙ mul_right_comm a c 2) ∙ mul_assoc (a * 2) c c)

-- ---- a value of n smallest values, with 2 * n below the overflow
pub half_of_twice : (f : Format) (s t : Bool) (m : ℕ) (e : ℤ) (n : ℕ) → T (fits f (fin t m e)) → HasValue (fin t m e) s n (2 ^ low f) → n * 2 < 2 ^ (low f + suc (emax f))
    → mul f half (add f (fin t m e) (fin t m e)) ≡ fin t m e
half_of_twice f s t m e n p v w =
    let h = held f t m e p in
    let l = place (low f) m e h.deep in
    let j = l.0 in
    let is : n ≡ m * 2 ^ j = eq_of_mul-eq-mul_right (down e) (down_pos e) n (m * 2 ^ j) (sym v.1 ∙ l.1) in
    let top : m * 2 ^ suc j < 2 ^ (low f + suc (emax f)) = subst (λ (x : ℕ). x < 2 ^ (low f + suc (emax f))) (ap (λ (x : ℕ). x * 2) is ∙ mul_assoc m (2 ^ j) 2 ∙ ap (λ (x : ℕ). m * x) (sym (pow-suc 2 j))) w in
    let twice : m * up e * 2 * 2 ^ low f ≡ m * 2 ^ suc j * down e =
    mul_right_comm (m * up e) 2 (2 ^ low f) ∙ ap (λ (x : ℕ). x * 2) l.1 ∙ mul_right_comm (m * 2 ^ j) (down e) 2 ∙ ap (λ (x : ℕ). x * down e) (mul_assoc m (2 ^ j) 2 ∙ ap (λ (x : ℕ). m * x) (sym (pow-suc 2 j))) in
    ap (mul f half) (add_self f t m e)
    ∙ mul-half f (round f t (m * up e * 2) (down e)) t (m * up e * 2) (down e) (down_pos e) (round_exact f t (m * up e * 2) (down e) m (suc j) (down_pos e) h.short top twice)
    ∙ round_of f t m e (m * up e * 2) (down e * 2) (mul-pos (down_pos e) (zero-lt-suc 1)) p (mul_assoc (m * up e) 2 (down e) ∙ ap (λ (x : ℕ). m * up e * x) (mul_comm 2 (down e)))

-- ---- half of a value that fits is n smallest values, with 2 * n below the overflow
pub record Half (f : Format) (x : Float) (s : Bool) : Type 0 where
  pub n : ℕ
  pub is : HasValue x s n (2 ^ low f)
  pub under : n * 2 < 2 ^ (low f + suc (emax f))

-- from one fraction to another of the same size
rescale : (x : Float) (s : Bool) (w l num den : ℕ) → 0 < l → num * l ≡ w * den → HasValue x s w l → HasValue x s num den
rescale nan s w l num den p h v = v
rescale (inf t) s w l num den p h v = v
rescale (fin t m e) s w l num den p h v = (
  v.0,
  eq_of_mul-eq-mul_right l p (m * up e * den) (num * down e)
      (mul_right_comm (m * up e) den l
      ∙ ap (λ (x : ℕ). x * den) v.1
      ∙ mul_right_comm w (down e) den
      ∙ ap (λ (x : ℕ). x * down e) (sym h)
      ∙ mul_right_comm num l (down e)),
)

small_fits : (f : Format) → 2 ^ suc (prec f) < 2 ^ (low f + suc (emax f))
small_fits binary32 = pow-lt {i = 25} {j = 277} (lit< tt)
small_fits binary64 = pow-lt {i = 54} {j = 2098} (lit< tt)

-- a = n * down d / 2 ^ low, so of a / (down d * 2) the smallest values are n / 2
tiny : (f : Format) (s : Bool) (a n d : ℕ) → 0 < d → n < 2 ^ prec f → a * 2 ^ low f ≡ n * d → Half f (round f s a (d * 2)) s
tiny f s a n d D h e =
    let N = a * 2 ^ low f in
    let c = d * 2 in
    let C : 0 < c = mul-pos D (zero-lt-suc 1) in
    let w : N / c ≡ n / 2 = div_same N c n 2 C (zero-lt-suc 1) (ap (λ (x : ℕ). x * 2) e ∙ mul_assoc n d 2) in
    let z : size (N / c) ≤ prec f = size-le (N / c) (prec f) (lt_of_le_of_lt (le_trans (le_of_eq w) (div-le_self n 2)) h) in
    let k : size (N / c) - prec f ≡ 0 = omega arith in
    let q = closest N (c * 1) in
    let small : q ≤ suc (n / 2) = le_trans (nearest-le (N / (c * 1)) (compare (N % (c * 1) * 2) (c * 1))) (le_of_eq (ap suc (ap (λ (x : ℕ). N / x) (mul-one c) ∙ w))) in
    let g : q * 1 * 2 < 2 ^ (low f + suc (emax f)) = (let a = small_fits f in let b = pow-succ' 2 (prec f) in let p = pow_pos (prec f) in omega arith) in
    record {
      n = q * 1;
      is = subst (λ (y : Float). HasValue y s (q * 1) (2 ^ low f)) (sym (round_is f s a c ∙ ap (core f s N c) k)) (units_val f s q 0 (omega arith));
      under = g;
    }

halved_fin : (f : Format) (s : Bool) (m : ℕ) (e : ℤ) → T (fits f (fin s m e)) → Half f (round f s (m * up e) (down e * 2)) s
halved_fin f s m e p = go (place (low f) m e (held f s m e p).deep)
  where
    go : (j : ℕ) × (m * up e * 2 ^ low f ≡ m * 2 ^ j * down e) → Half f (round f s (m * up e) (down e * 2)) s
    go (zero, l) = tiny f s (m * up e) m (down e) (down_pos e) (held f s m e p).short (l ∙ ap (λ (x : ℕ). x * down e) (mul-one m))
    go (suc j, l) =
        let top : m * 2 ^ suc j < 2 ^ (low f + suc (emax f)) = in_range f m (suc j) e l (held f s m e p).wide in
        let t : m * 2 ^ j * 2 ≡ m * 2 ^ suc j = mul_assoc m (2 ^ j) 2 ∙ ap (λ (x : ℕ). m * x) (sym (pow-suc 2 j)) in
        let g : m * 2 ^ j * 2 < 2 ^ (low f + suc (emax f)) = subst (λ (x : ℕ). x < 2 ^ (low f + suc (emax f))) (sym t) top in
        let l' : m * up e * 2 ^ low f ≡ m * 2 ^ j * (down e * 2) = l ∙ ap (λ (x : ℕ). x * down e) (sym t) ∙ mul_assoc (m * 2 ^ j) 2 (down e) ∙ ap (λ (x : ℕ). m * 2 ^ j * x) (mul_comm 2 (down e)) in
        record {
          n = m * 2 ^ j;
          is = rescale (round f s (m * up e) (down e * 2)) s (m * up e) (down e * 2) (m * 2 ^ j) (2 ^ low f) (mul-pos (down_pos e) (zero-lt-suc 1)) (sym l')
              (round_exact f s (m * up e) (down e * 2) m j (mul-pos (down_pos e) (zero-lt-suc 1)) (held f s m e p).short (lt_of_le_of_lt (le_trans (half_le (m * 2 ^ j)) (le_refl (m * 2 ^ j * 2))) g) l');
          under = g;
        }
      where
        half_le : (a : ℕ) → a ≤ a * 2
        half_le a = omega arith

half_of_finite : (f : Format) (v : Float) (s : Bool) → T (fits f v) → Half f v s → mul f half (add f v v) ≡ v
half_of_finite f nan s p h = absurd h.is
half_of_finite f (inf t) s p h = absurd h.is
half_of_finite f (fin t m e) s p h = half_of_twice f s t m e h.n p h.is h.under

-- ---- for every w that fits, half of w taken twice and halved again is half of w
pub half_again : (f : Format) (w : Float) → T (fits f w) → mul f half (add f (mul f half w) (mul f half w)) ≡ mul f half w
half_again f nan p = unfold mul add in refl
half_again f (inf true) p = unfold mul add in refl
half_again f (inf false) p = unfold mul add in refl
half_again f (fin s m e) p =
    let v = mul f half (fin s m e) in
    half_of_finite f v s (mul-fits f half (fin s m e))
    (subst (λ (y : Float). Half f y s) (sym (mul-half f (fin s m e) s (m * up e) (down e) (down_pos e) (refl, refl))) (halved_fin f s m e p))

-- to symmetrise twice is to symmetrise once: of any two floats
pub symmetrised : (f : Format) (a b : Float) → mul f half (add f (mul f half (add f a b)) (mul f half (add f a b))) ≡ mul f half (add f a b)
symmetrised f a b = half_again f (add f a b) (add-fits f a b)
