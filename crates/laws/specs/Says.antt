-- A test and the statement that it stands for: `Says test P` holds the two to each other. One law for each form that the definition's tests have.
use Rattle.std.specs.Prelude.{◌≡◌, ◌⊎◌, Bool, not, ◌&&◌, ◌||◌, leb, ltb, eqb, length, get_or}
use Rattle.std.proofs.Common.{sym, subst, inl, inr, ⊎_elim, not-suc-le-zero, le_of_suc-le-suc, eq-or-lt_of_le, leb→le, le→leb, ltb→lt, lt→ltb, eqb→eq}
use Prim.Native.Nat.{ℕ, zero, suc, ◌≤◌, ◌<◌}
use native.Mathlib.Omega.{arith}
use Rattle.std.proofs.Math.Bool.{true, false}
use mathlib.Core.List.{List, [], ◌∷◌}
use Rattle.std.proofs.Math.Dec.{T}
use Rattle.std.specs.Float.Ieee.Fits.{eq→eqb}
use Rattle.definition.specs.Run.{any_of, any_to}

infixl 20 ◌or◌
abbrev pub ◌or◌ : Type 0 → Type 0 → Type 0
P or Q = P ⊎ Q

pub record Says (b : Bool) (P : Type 0) : Type 0 where
  pub to : T b → P
  pub from : P → T b

pub says_itself : (b : Bool) → Says b (T b)
says_itself b = record { to = λ h. h; from = λ h. h }

pub says_as : {b : Bool} {P Q : Type 0} → (P → Q) → (Q → P) → Says b P → Says b Q
says_as f g s = record { to = λ h. f (s.to h); from = λ h. s.from (g h) }

-- the same test
pub says_of : {a b : Bool} {P : Type 0} → a ≡ b → Says b P → Says a P
says_of {a} {b} {P} e s = subst (λ (c : Bool). Says c P) (sym e) s

-- ---- not, and, or

no : (b : Bool) (P : Type 0) → Says b P → Says (not b) (P → ⊥)
no true P s = record { to = λ h. absurd h; from = λ h. h (s.to tt) }
no false P s = record { to = λ h p. s.from p; from = λ h. tt }

pub says_not : {b : Bool} {P : Type 0} → Says b P → Says (not b) (P → ⊥)
says_not {b} {P} s = no b P s

both : (a b : Bool) (P Q : Type 0) → Says a P → Says b Q → Says (a && b) (P × Q)
both true b P Q s r = record { to = λ h. (s.to tt, r.to h); from = λ h. r.from h.1 }
both false b P Q s r = record { to = λ h. absurd h; from = λ h. s.from h.0 }

pub says_and : {a b : Bool} {P Q : Type 0} → Says a P → Says b Q → Says (a && b) (P × Q)
says_and {a} {b} {P} {Q} s r = both a b P Q s r

either : (a b : Bool) (P Q : Type 0) → Says a P → Says b Q → Says (a || b) (P or Q)
either true b P Q s r = record { to = λ h. inl (s.to tt); from = λ h. tt }
either false b P Q s r = record { to = λ h. inr (r.to h); from = λ h. ⊎_elim (λ p. absurd (s.from p)) (λ q. r.from q) h }

pub says_or : {a b : Bool} {P Q : Type 0} → Says a P → Says b Q → Says (a || b) (P or Q)
says_or {a} {b} {P} {Q} s r = either a b P Q s r

-- ---- numbers

pub says_eq : (a b : ℕ) → Says (eqb a b) (a ≡ b)
says_eq a b = record { to = eqb→eq a b; from = λ e. eq→eqb e }

pub says_le : (a b : ℕ) → Says (leb a b) (a ≤ b)
says_le a b = record { to = leb→le a b; from = le→leb a b }

pub says_lt : (a b : ℕ) → Says (ltb a b) (a < b)
says_lt a b = record { to = ltb→lt a b; from = lt→ltb a b }

-- ---- somewhere below k, and somewhere in a list

abbrev pub Below : ℕ → (ℕ → Type 0) → Type 0
Below k P = (i : ℕ) × (i < k) × P i

abbrev pub Within : {A : Type 0} → List A → A → (A → Type 0) → Type 0
Within l d P = (i : ℕ) × (i < length l) × P (get_or l i d)

below_to : (q : ℕ → Bool) (P : ℕ → Type 0) → ((i : ℕ) → Says (q i) (P i)) → (k : ℕ) → T (any_to k q) → Below k P
unfolding any_to
below_to q P s zero h = absurd h
below_to q P s (suc k) h = pick (any_to k q) (q k) h (λ h. below_to q P s k h) (s k).to
  where
    pick : (a b : Bool) → T (a || b) → (T a → Below k P) → (T b → P k) → Below (suc k) P
    pick true b h f g = let r = f tt in (r.0, omega (arith, r.1), r.2)
    pick false b h f g = (k, omega arith, g h)

or_left : (a b : Bool) → T a → T (a || b)
or_left true b h = tt
or_left false b h = absurd h

pub or_right : (a b : Bool) → T b → T (a || b)
or_right true b h = tt
or_right false b h = h

below_from : (q : ℕ → Bool) (P : ℕ → Type 0) → ((i : ℕ) → Says (q i) (P i)) → (k : ℕ) → Below k P → T (any_to k q)
unfolding any_to
below_from q P s zero h = absurd (not-suc-le-zero h.1)
below_from q P s (suc k) h =
    ⊎_elim
    (λ (e : h.0 ≡ k). or_right (any_to k q) (q k) ((s k).from (subst P e h.2)))
    (λ (l : h.0 < k). or_left (any_to k q) (q k) (below_from q P s k (h.0, l, h.2)))
    (eq-or-lt_of_le (le_of_suc-le-suc h.1))

pub says_below : {q : ℕ → Bool} {P : ℕ → Type 0} → ((i : ℕ) → Says (q i) (P i)) → (k : ℕ) → Says (any_to k q) (Below k P)
says_below {q} {P} s k = record { to = below_to q P s k; from = below_from q P s k }

module _ {A : Type 0} (q : A → Bool) (P : A → Type 0) (s : (x : A) → Says (q x) (P x)) (d : A) where
  within_to : (l : List A) → T (any_of q l) → Within l d P
  unfolding any_of
  within_to [] h = absurd h
  within_to (x ∷ l) h = pick (q x) (any_of q l) h (s x).to (λ h. within_to l h)
    where
      pick : (a b : Bool) → T (a || b) → (T a → P x) → (T b → Within l d P) → Within (x ∷ l) d P
      pick true b h f g = (0, omega arith, f tt)
      pick false b h f g = let r = g h in (suc r.0, omega (arith, r.1), r.2)

  within_from : (l : List A) (i : ℕ) → i < length l → P (get_or l i d) → T (any_of q l)
  unfolding any_of
  within_from [] i b h = absurd (not-suc-le-zero b)
  within_from (x ∷ l) zero b h = or_left (q x) (any_of q l) ((s x).from h)
  within_from (x ∷ l) (suc i) b h = or_right (q x) (any_of q l) (within_from l i (le_of_suc-le-suc b) h)

pub says_within : {A : Type 0} {q : A → Bool} {P : A → Type 0} → ((x : A) → Says (q x) (P x)) → (l : List A) (d : A) → Says (any_of q l) (Within l d P)
says_within {q = q} {P = P} s l d = record { to = within_to q P s d l; from = λ h. within_from q P s d l h.0 h.1 h.2 }
