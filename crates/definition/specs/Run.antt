-- Going through a list with a state, from the front and from the back; lists cut into parts and joined; counts and tests.
-- Place k of the list is place t + k of the run.
use Rattle.std.specs.Prelude.{ℕ, zero, suc, ◌+◌, Bool, false, cond, ◌||◌, List, [], ◌∷◌, ◌++◌, length, take, drop}

module _ {A B S : Type 0} where
  unfoldable pub scan : (ℕ → S → A → B × S) → ℕ → S → List A → List B × S
  scan f t s [] = ([], s)
  scan f t s (x ∷ xs) = let r = f t s x in let rest = scan f (suc t) r.1 xs in (r.0 ∷ rest.0, rest.1)

  unfoldable pub scan_back : (ℕ → S → A → B × S) → ℕ → S → List A → List B × S
  scan_back f t s [] = ([], s)
  scan_back f t s (x ∷ xs) = let rest = scan_back f (suc t) s xs in let r = f t rest.1 x in (r.0 ∷ rest.0, r.1)

module _ {A S : Type 0} where
  -- the state alone, from the last place to the first
  unfoldable pub fold_back : (ℕ → S → A → S) → ℕ → S → List A → S
  fold_back f t s [] = s
  fold_back f t s (x ∷ xs) = f t (fold_back f (suc t) s xs) x

module _ {A B : Type 0} where
  unfoldable pub pairs : List A → List B → List (A × B)
  pairs [] ys = []
  pairs (x ∷ xs) [] = []
  pairs (x ∷ xs) (y ∷ ys) = (x, y) ∷ pairs xs ys

module _ {A : Type 0} where
  -- n parts of p places each
  unfoldable pub chunks : ℕ → ℕ → List A → List (List A)
  chunks zero p l = []
  chunks (suc n) p l = take p l ∷ chunks n p (drop p l)

  unfoldable pub join : List (List A) → List A
  join [] = []
  join (x ∷ xs) = x ++ join xs

  unfoldable pub count : (A → Bool) → List A → ℕ
  count q [] = 0
  count q (x ∷ xs) = cond (q x) 1 0 + count q xs

  -- whether q holds of some entry
  unfoldable pub any_of : (A → Bool) → List A → Bool
  any_of q [] = false
  any_of q (x ∷ xs) = q x || any_of q xs

  -- w over the first places of what stood there; the rest stays
  abbrev pub lay : List A → List A → List A
  lay w before = w ++ drop (length w) before

-- whether q holds at some place below k
unfoldable pub any_to : ℕ → (ℕ → Bool) → Bool
any_to zero q = false
any_to (suc k) q = any_to k q || q k
