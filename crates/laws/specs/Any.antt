-- Whether a test holds somewhere: laws of `any_to` (at a place below k) and `any_of` (of an entry of a list), as a loop that goes through the places
-- needs them. `found` is what the loop has found so far. Before them, laws of `||` and of `&&`.
use Rattle.std.specs.Prelude.{◌≡◌, Bool, true, false, ◌&&◌, length, get_or, take, Float}
use Rattle.std.proofs.Math.Path.{refl, sym, ap, ap₂}
use Rattle.std.proofs.Common.{◌∙◌, arith, add-one, le_of_suc-le-suc, not-suc-le-zero, eq-or-lt_of_le, ⊎_elim}
use Prim.Native.Nat.{ℕ, zero, suc, ◌+◌, ◌≤◌, ◌<◌}
use Rattle.std.proofs.Math.Bool.{◌||◌}
use mathlib.Core.List.{List, [], ◌∷◌, ◌++◌, map}
use Rattle.std.proofs.Math.Seq.{take-length}
use Rattle.std.specs.Float.{nan, inf, fin}
use Rattle.definition.specs.Num.{is_infinite}
use Rattle.definition.specs.Run.{any_of, any_to}
use Rattle.definition.specs.Inputs.{class_of, is_infinity}

pub or_assoc : (a b c : Bool) → ((a || b) || c) ≡ (a || (b || c))
or_assoc true b c = refl
or_assoc false b c = refl

pub or_false : (a : Bool) → (a || false) ≡ a
or_false true = refl
or_false false = refl

pub or_self : (a : Bool) → (a || a) ≡ a
or_self true = refl
or_self false = refl

pub or_true : (a : Bool) → (a || true) ≡ true
or_true true = refl
or_true false = refl

-- neither half of a test that is false holds
pub either_false : (a b : Bool) → (a || b) ≡ false → (a ≡ false) × (b ≡ false)
either_false true b e = absurd (let z : ◌≡◌ {A = ℕ} 0 1 = cc in omega arith)
either_false false b e = (refl, e)

-- both halves of a test that is true hold
pub both_true : (a b : Bool) → (a && b) ≡ true → (a ≡ true) × (b ≡ true)
both_true true b e = (refl, e)
both_true false b e = absurd (let z : ◌≡◌ {A = ℕ} 0 1 = cc in omega arith)

-- ---- at a place below k

pub any_none : (q : ℕ → Bool) → false ≡ any_to 0 q
unfolding any_to
any_none q = refl

pub any_next : (q : ℕ → Bool) (k : ℕ) (found here : Bool) → found ≡ any_to k q → here ≡ q k → (found || here) ≡ any_to (k + 1) q
unfolding any_to
any_next q k found here e h = rw add-one (ap₂ ◌||◌ e h)

pub any_false : (q : ℕ → Bool) (k : ℕ) → any_to k q ≡ false → (i : ℕ) → i < k → q i ≡ false
unfolding any_to
any_false q zero e i h = absurd (omega arith)
any_false q (suc k) e i h =
    let s = either_false (any_to k q) (q k) e in
    ⊎_elim (λ (w : i ≡ k). ap q w ∙ s.1) (λ (b : i < k). any_false q k s.0 i b) (eq-or-lt_of_le (omega arith))

pub any_end : (q : ℕ → Bool) {k n : ℕ} {found : Bool} → found ≡ any_to k q → k ≤ n → n ≤ k → found ≡ any_to n q
any_end q {k} {n} {found} e a b = let s : k ≡ n = omega arith in cc

-- ---- of an entry of a list

module _ {A : Type 0} where
  pub of_none : (q : A → Bool) (l : List A) → false ≡ any_of q (take 0 l)
  unfolding any_of
  of_none q l = refl

  pub of_snoc : (q : A → Bool) (l : List A) (k : ℕ) (d : A) → k < length l → any_of q (take (suc k) l) ≡ (any_of q (take k l) || q (get_or l k d))
  unfolding any_of
  of_snoc q [] k d h = absurd (not-suc-le-zero h)
  of_snoc q (x ∷ l) zero d h = or_false (q x)
  of_snoc q (x ∷ l) (suc k) d h = ap (λ (b : Bool). q x || b) (of_snoc q l k d (le_of_suc-le-suc h)) ∙ sym (or_assoc (q x) (any_of q (take k l)) (q (get_or l k d)))

  pub of_next : (q : A → Bool) (l : List A) (k : ℕ) (d : A) (found here : Bool) → k < length l → found ≡ any_of q (take k l) → here ≡ q (get_or l k d) → (found || here) ≡ any_of q (take (k + 1) l)
  of_next q l k d found here b e h = rw add-one (ap₂ ◌||◌ e h ∙ sym (of_snoc q l k d b))

  pub of_end : (q : A → Bool) (l : List A) {k : ℕ} {found : Bool} → found ≡ any_of q (take k l) → k ≤ length l → length l ≤ k → found ≡ any_of q l
  of_end q l {k} {found} e a b = let s : k ≡ length l = omega arith in e ∙ ap (λ (i : ℕ). any_of q (take i l)) s ∙ ap (any_of q) (take-length l)

  pub of_append : (q : A → Bool) (l r : List A) → any_of q (l ++ r) ≡ (any_of q l || any_of q r)
  unfolding any_of
  of_append q [] r = refl
  of_append q (x ∷ l) r = ap (λ (b : Bool). q x || b) (of_append q l r) ∙ sym (or_assoc (q x) (any_of q l) (any_of q r))

  pub of_split : (q : A → Bool) (l r : List A) → any_of q (l ++ r) ≡ false → (any_of q l ≡ false) × (any_of q r ≡ false)
  of_split q l r e = either_false (any_of q l) (any_of q r) (sym (of_append q l r) ∙ e)

  pub of_cong : (q q' : A → Bool) (l : List A) → ((x : A) → q x ≡ q' x) → any_of q l ≡ any_of q' l
  unfolding any_of
  of_cong q q' [] h = refl
  of_cong q q' (x ∷ l) h = ap₂ ◌||◌ (h x) (of_cong q q' l h)

pub of_map : {A B : Type 0} (q : B → Bool) (f : A → B) (l : List A) → any_of q (map f l) ≡ any_of (λ (x : A). q (f x)) l
unfolding any_of
of_map q f [] = refl
of_map q f (x ∷ l) = ap (λ (b : Bool). q (f x) || b) (of_map q f l)

-- some reading is infinite, by its class
infinite_class : (v : Float) → is_infinity (class_of v) ≡ is_infinite v
unfolding class_of is_infinite
infinite_class nan = refl
infinite_class (inf s) = refl
infinite_class (fin s m e) = refl

pub infinite_classes : (y : List Float) → any_of is_infinity (map class_of y) ≡ any_of is_infinite y
infinite_classes y = of_map is_infinity class_of y ∙ of_cong (λ (v : Float). is_infinity (class_of v)) is_infinite y infinite_class
