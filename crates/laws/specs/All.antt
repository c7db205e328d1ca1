-- P of each entry of a list: laws of `AllOf`, and what going through a list with a state keeps.
use Rattle.std.specs.Prelude.{◌≡◌, ℕ, zero, suc, ◌<◌, Bool, false, length, get_or, take, drop}
use Rattle.std.proofs.Math.Path.{refl}
use Rattle.std.proofs.Common.{ap₂, not-suc-le-zero, le_of_suc-le-suc}
use mathlib.Core.List.{List, [], ◌∷◌, ◌++◌, map}
use Rattle.definition.specs.Run.{scan, any_of}
use Rattle.laws.specs.Any.{either_false}
use Rattle.laws.specs.Lists.{Each}

abbrev pub AllOf : {A : Type 0} → (A → Type 0) → List A → Type 0
AllOf P [] = Unit {0}
AllOf P (x ∷ l) = P x × AllOf P l

module _ {A : Type 0} (P : A → Type 0) where
  pub all_at : (l : List A) (i : ℕ) (d : A) → AllOf P l → i < length l → P (get_or l i d)
  all_at [] i d h b = absurd (not-suc-le-zero b)
  all_at (x ∷ l) zero d h b = h.0
  all_at (x ∷ l) (suc i) d h b = all_at l i d h.1 (le_of_suc-le-suc b)

  pub all_append : (l r : List A) → AllOf P l → AllOf P r → AllOf P (l ++ r)
  all_append [] r h g = g
  all_append (x ∷ l) r h g = (h.0, all_append l r h.1 g)

  pub all_take : (n : ℕ) (l : List A) → AllOf P l → AllOf P (take n l)
  all_take zero l h = tt
  all_take (suc n) [] h = tt
  all_take (suc n) (x ∷ l) h = (h.0, all_take n l h.1)

  pub all_drop : (n : ℕ) (l : List A) → AllOf P l → AllOf P (drop n l)
  all_drop zero l h = h
  all_drop (suc n) [] h = tt
  all_drop (suc n) (x ∷ l) h = all_drop n l h.1

pub all_true : {A : Type 0} (l : List A) → AllOf (λ x. Unit {0}) l
all_true [] = tt
all_true (x ∷ l) = (tt, all_true l)

pub all_as : {A : Type 0} {P Q : A → Type 0} (l : List A) → ((x : A) → P x → Q x) → AllOf P l → AllOf Q l
all_as [] f h = tt
all_as (x ∷ l) f h = (f x h.0, all_as l f h.1)

pub all_map : {A B : Type 0} {P : A → Type 0} (Q : B → Type 0) (g : A → B) (l : List A) → ((x : A) → P x → Q (g x)) → AllOf P l → AllOf Q (map g l)
all_map Q g [] f h = tt
all_map Q g (x ∷ l) f h = (f x h.0, all_map Q g l f h.1)

-- there and back
pub map_back : {A B : Type 0} (f : A → B) (g : B → A) (l : List A) → AllOf (λ x. g (f x) ≡ x) l → map g (map f l) ≡ l
map_back f g [] h = refl
map_back {A} f g (x ∷ l) h = ap₂ (λ (a : A) (r : List A). a ∷ r) h.0 (map_back f g l h.1)

-- a test that fails everywhere
module _ {A : Type 0} (q : A → Bool) where
  pub none_fails : (l : List A) → any_of q l ≡ false → AllOf (λ x. q x ≡ false) l
  unfolding any_of
  none_fails [] e = tt
  none_fails (x ∷ l) e = let s = either_false (q x) (any_of q l) e in (s.0, none_fails l s.1)

  pub fails_none : (l : List A) → AllOf (λ x. q x ≡ false) l → any_of q l ≡ false
  unfolding any_of
  fails_none [] h = refl
  fails_none (x ∷ l) h = rw h.0 (fails_none l h.1)

pub each_all : {A : Type 0} (p : ℕ) (ls : List (List A)) → Each p ls → AllOf (λ l. length l ≡ p) ls
each_all p [] h = tt
each_all p (l ∷ ls) h = (h.0, each_all p ls h.1)

-- ---- going through a list with a state

module _ {A B S : Type 0} (f : ℕ → S → A → B × S) where
  -- what each entry leaves, by the entry alone
  pub scan_all : (Q : A → Type 0) (P : B → Type 0) → ((t : ℕ) (s : S) (x : A) → Q x → P (f t s x).0) → (xs : List A) (t : ℕ) (s : S) → AllOf Q xs → AllOf P (scan f t s xs).0
  unfolding scan
  scan_all Q P step [] t s h = tt
  scan_all Q P step (x ∷ xs) t s h = (step t s x h.0, scan_all Q P step xs (suc t) (f t s x).1 h.1)

  -- what the state keeps
  pub scan_keeps : (P : S → Type 0) → ((t : ℕ) (s : S) (x : A) → P s → P (f t s x).1) → (xs : List A) (t : ℕ) (s : S) → P s → P (scan f t s xs).1
  unfolding scan
  scan_keeps P step [] t s h = h
  scan_keeps P step (x ∷ xs) t s h = scan_keeps P step xs (suc t) (f t s x).1 (step t s x h)

  -- what each entry leaves, by the entry and by what the state keeps
  pub scan_leaves : (P : S → Type 0) (Q : A → Type 0) (R : B → Type 0) → ((t : ℕ) (s : S) (x : A) → P s → P (f t s x).1) → ((t : ℕ) (s : S) (x : A) → P s → Q x → R (f t s x).0)
      → (xs : List A) (t : ℕ) (s : S) → P s → AllOf Q xs → AllOf R (scan f t s xs).0
  unfolding scan
  scan_leaves P Q R keeps leaves [] t s h g = tt
  scan_leaves P Q R keeps leaves (x ∷ xs) t s h g = (leaves t s x h g.0, scan_leaves P Q R keeps leaves xs (suc t) (f t s x).1 (keeps t s x h) g.1)
