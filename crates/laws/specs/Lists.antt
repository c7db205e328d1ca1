-- Laws of lists: going through one with a state, one place changed, cut in parts and joined; tables, matrices and sums by their entries; a running sum.
use Rattle.std.specs.Prelude.{◌≡◌, Bool, true, false, ◌||◌, get_or, set, drop, replicate, Float}
use Rattle.std.proofs.Math.Path.{refl, sym, ap, ap₂}
use Rattle.std.proofs.Common.{◌∙◌, mul-le-mul_right, mod-lt, div-lt_iff_lt-mul, mod-eq_of_lt, mul-zero, not-suc-le-zero, le_of_suc-le-suc, add-one, length-set, take-suc, get_or-append-add}
use Prim.Native.Nat.{ℕ, zero, suc, ◌+◌, ◌*◌, ◌/◌, ◌%◌, ◌≤◌, ◌<◌}
use Rattle.std.proofs.Math.Nat.{mul-add-div_right, div-eq_of_lt, mul-add-mod_self_right, zero-mul, zero-add, add-zero, add-suc, suc-add}
use native.Mathlib.Omega.{arith}
use Rattle.std.proofs.Math.Bool.{cond}
use mathlib.Core.List.{List, [], ◌∷◌, ◌++◌, map}
use Rattle.std.proofs.Math.ListN.{length, take, length-append, length-take, length-drop, take-append-drop, get_or-append}
use Rattle.std.specs.Float.{nan}
use Rattle.definition.specs.Num.{0ᶠ, ◌⊕◌, sum_to, tab_from, tabulate, matrix, at, ent}
use Rattle.std.proofs.Math.Seq.{take-append-le, drop-append-le, take-set-lt, drop-set-lt}
use Rattle.std.proofs.lemmas.List.{take-set-le, drop-set-add, set-append_left}
use Rattle.definition.specs.Run.{scan, scan_back, fold_back, pairs, chunks, join, count, any_of, lay}

-- ---- going through a list with a state

module _ {A B S : Type 0} (f : ℕ → S → A → B × S) where
  -- Place k holds x' instead, and the step from it leaves the state that the step from what stood there leaves: then the output there changes, as g
  -- says, and nothing else. P is what is known of that output.
  pub scan_put : (P : B → Type 0) (g : B → B) (xs : List A) (k t : ℕ) (s : S) (a : A) (b : B) (x' : A) → ((u : ℕ) (r : S) → P (f u r (get_or xs k a)).0 → f u r x' ≡ (g (f u r (get_or xs k a)).0, (f u r (get_or xs k a)).1)) → P (get_or (scan f t s xs).0 k b) → scan f t s (set xs k x') ≡ (set (scan f t s xs).0 k (g (get_or (scan f t s xs).0 k b)), (scan f t s xs).1)
  unfolding scan
  scan_put P g [] k t s a b x' step h = refl
  scan_put P g (x ∷ xs) zero t s a b x' step h = ap (λ (r : B × S). (r.0 ∷ (scan f (suc t) r.1 xs).0, (scan f (suc t) r.1 xs).1)) (step t s h)
  scan_put P g (x ∷ xs) (suc k) t s a b x' step h = ap (λ (r : List B × S). ((f t s x).0 ∷ r.0, r.1)) (scan_put P g xs k (suc t) (f t s x).1 a b x' step h)

  -- from the back, where the step does not tell x' from what stood there
  pub scan_back-set : (xs : List A) (k t : ℕ) (s : S) (a : A) (x' : A) → ((u : ℕ) (r : S) → f u r x' ≡ f u r (get_or xs k a)) → scan_back f t s (set xs k x') ≡ scan_back f t s xs
  unfolding scan_back
  scan_back-set [] k t s a x' step = refl
  scan_back-set (x ∷ xs) zero t s a x' step = let rest = scan_back f (suc t) s xs in ap (λ (r : B × S). (r.0 ∷ rest.0, r.1)) (step t rest.1)
  scan_back-set (x ∷ xs) (suc k) t s a x' step = ap (λ (rest : List B × S). ((f t rest.1 x).0 ∷ rest.0, (f t rest.1 x).1)) (scan_back-set xs k (suc t) s a x' step)

  -- what each output says is what its input says
  pub scan_says : {C : Type 0} (q : B → C) (g : A → C) → ((u : ℕ) (r : S) (x : A) → q (f u r x).0 ≡ g x) → (xs : List A) (t : ℕ) (s : S) → map q (scan f t s xs).0 ≡ map g xs
  unfolding scan
  scan_says q g step [] t s = refl
  scan_says {C} q g step (x ∷ xs) t s = ap₂ (λ (c : C) (l : List C). c ∷ l) (step t s x) (scan_says q g step xs (suc t) (f t s x).1)

  pub length-scan : (xs : List A) (t : ℕ) (s : S) → length (scan f t s xs).0 ≡ length xs
  unfolding scan
  length-scan [] t s = refl
  length-scan (x ∷ xs) t s = ap suc (length-scan xs (suc t) (f t s x).1)

  -- cut after xs, and gone on with: the same run
  pub scan-append : (xs ys : List A) (t : ℕ) (s : S) → scan f t s (xs ++ ys) ≡ ((scan f t s xs).0 ++ (scan f (t + length xs) (scan f t s xs).1 ys).0, (scan f (t + length xs) (scan f t s xs).1 ys).1)
  unfolding scan
  scan-append [] ys t s = rw add-zero
  scan-append (x ∷ xs) ys t s = rw add-suc (ap (λ (r : List B × S). ((f t s x).0 ∷ r.0, r.1)) (rw suc-add at (scan-append xs ys (suc t) (f t s x).1)))

  -- one period further: the state of a loop over the periods
  pub scan_next : (xs : List A) (t : ℕ) (s : S) (d : A) → t < length xs → scan f 0 s (take (suc t) xs) ≡ ((scan f 0 s (take t xs)).0 ++ ((f t (scan f 0 s (take t xs)).1 (get_or xs t d)).0 ∷ []), (f t (scan f 0 s (take t xs)).1 (get_or xs t d)).1)
  unfolding scan
  scan_next xs t s d h = let e : 0 + length (take t xs) ≡ t = simp length-take (omega arith) in ap (scan f 0 s) (take-suc xs t d h) ∙ rw e at (scan-append (take t xs) (get_or xs t d ∷ []) 0 s)

  -- from the back, the later places know nothing of the earlier
  pub scan_back-append : (xs ys : List A) (t : ℕ) (s : S) → scan_back f t s (xs ++ ys) ≡ ((scan_back f t (scan_back f (t + length xs) s ys).1 xs).0 ++ (scan_back f (t + length xs) s ys).0, (scan_back f t (scan_back f (t + length xs) s ys).1 xs).1)
  unfolding scan_back
  scan_back-append [] ys t s = rw add-zero
  scan_back-append (x ∷ xs) ys t s = rw add-suc (ap (λ (r : List B × S). ((f t r.1 x).0 ∷ r.0, (f t r.1 x).1)) (rw suc-add at (scan_back-append xs ys (suc t) s)))

module _ {A S : Type 0} (f : ℕ → S → A → S) where
  pub fold_back-set : (xs : List A) (k t : ℕ) (s : S) (a : A) (x' : A) → ((u : ℕ) (r : S) → f u r x' ≡ f u r (get_or xs k a)) → fold_back f t s (set xs k x') ≡ fold_back f t s xs
  unfolding fold_back
  fold_back-set [] k t s a x' step = refl
  fold_back-set (x ∷ xs) zero t s a x' step = step t (fold_back f (suc t) s xs)
  fold_back-set (x ∷ xs) (suc k) t s a x' step = ap (λ (r : S). f t r x) (fold_back-set xs k (suc t) s a x' step)

-- ---- one place changed

module _ {A B : Type 0} where
  pub map-set : (g : A → B) (l : List A) (k : ℕ) (a : A) → map g (set l k a) ≡ set (map g l) k (g a)
  map-set g [] k a = refl
  map-set g (x ∷ l) zero a = refl
  map-set g (x ∷ l) (suc k) a = ap (λ (r : List B). g x ∷ r) (map-set g l k a)

  pub pairs_at : (xs : List A) (ys : List B) (k : ℕ) (a : A) (b : B) (d : A × B) → k < length xs → k < length ys → get_or (pairs xs ys) k d ≡ (get_or xs k a, get_or ys k b)
  unfolding pairs
  pairs_at [] ys k a b d h g = absurd (not-suc-le-zero h)
  pairs_at (x ∷ xs) [] k a b d h g = absurd (not-suc-le-zero g)
  pairs_at (x ∷ xs) (y ∷ ys) zero a b d h g = refl
  pairs_at (x ∷ xs) (y ∷ ys) (suc k) a b d h g = pairs_at xs ys k a b d (le_of_suc-le-suc h) (le_of_suc-le-suc g)

  pub pairs-append : (xs xs' : List A) (ys ys' : List B) → length xs ≡ length ys → pairs (xs ++ xs') (ys ++ ys') ≡ pairs xs ys ++ pairs xs' ys'
  unfolding pairs
  pairs-append [] xs' [] ys' e = refl
  pairs-append [] xs' (y ∷ ys) ys' e = absurd (omega arith)
  pairs-append (x ∷ xs) xs' [] ys' e = absurd (omega arith)
  pairs-append (x ∷ xs) xs' (y ∷ ys) ys' e = ap (λ (l : List (A × B)). (x, y) ∷ l) (pairs-append xs xs' ys ys' (omega arith))

  pub length_pairs : (n : ℕ) (xs : List A) (ys : List B) → length xs ≡ n → length ys ≡ n → length (pairs xs ys) ≡ n
  unfolding pairs
  length_pairs n [] ys e g = e
  length_pairs n (x ∷ xs) [] e g = g
  length_pairs zero (x ∷ xs) (y ∷ ys) e g = absurd (omega arith)
  length_pairs (suc n) (x ∷ xs) (y ∷ ys) e g = ap suc (length_pairs n xs ys (omega arith) (omega arith))

-- Two lists gone through side by side. Place k holds x' and y' instead, and the step does not tell them from what stood there: nothing changes.
module _ {A B C S : Type 0} (f : ℕ → S → A × B → C × S) where
  pub scan-pairs : (xs : List A) (ys : List B) (k t : ℕ) (s : S) (a : A) (b : B) (x' : A) (y' : B) → ((u : ℕ) (r : S) → f u r (x', y') ≡ f u r (get_or xs k a, get_or ys k b)) → scan f t s (pairs (set xs k x') (set ys k y')) ≡ scan f t s (pairs xs ys)
  unfolding scan pairs
  scan-pairs [] ys k t s a b x' y' step = refl
  scan-pairs (x ∷ xs) [] zero t s a b x' y' step = refl
  scan-pairs (x ∷ xs) [] (suc k) t s a b x' y' step = refl
  scan-pairs (x ∷ xs) (y ∷ ys) zero t s a b x' y' step = ap (λ (r : C × S). let rest = scan f (suc t) r.1 (pairs xs ys) in (r.0 ∷ rest.0, rest.1)) (step t s)
  scan-pairs (x ∷ xs) (y ∷ ys) (suc k) t s a b x' y' step = let r = f t s (x, y) in ap (λ (rest : List C × S). (r.0 ∷ rest.0, rest.1)) (scan-pairs xs ys k (suc t) r.1 a b x' y' step)

  -- from the back, with another x' alone
  pub scan_back-pairs : (xs : List A) (ys : List B) (k t : ℕ) (s : S) (a : A) (x' : A) → ((u : ℕ) (r : S) (y : B) → f u r (x', y) ≡ f u r (get_or xs k a, y)) → scan_back f t s (pairs (set xs k x') ys) ≡ scan_back f t s (pairs xs ys)
  unfolding scan_back pairs
  scan_back-pairs [] ys k t s a x' step = refl
  scan_back-pairs (x ∷ xs) [] zero t s a x' step = refl
  scan_back-pairs (x ∷ xs) [] (suc k) t s a x' step = refl
  scan_back-pairs (x ∷ xs) (y ∷ ys) zero t s a x' step = let rest = scan_back f (suc t) s (pairs xs ys) in ap (λ (r : C × S). (r.0 ∷ rest.0, r.1)) (step t rest.1 y)
  scan_back-pairs (x ∷ xs) (y ∷ ys) (suc k) t s a x' step = ap (λ (rest : List C × S). ((f t rest.1 (x, y)).0 ∷ rest.0, (f t rest.1 (x, y)).1)) (scan_back-pairs xs ys k (suc t) s a x' step)

module _ {A B S : Type 0} (f : ℕ → S → A × B → S) where
  pub fold_back-pairs : (xs : List A) (ys : List B) (k t : ℕ) (s : S) (a : A) (x' : A) → ((u : ℕ) (r : S) (y : B) → f u r (x', y) ≡ f u r (get_or xs k a, y)) → fold_back f t s (pairs (set xs k x') ys) ≡ fold_back f t s (pairs xs ys)
  unfolding fold_back pairs
  fold_back-pairs [] ys k t s a x' step = refl
  fold_back-pairs (x ∷ xs) [] zero t s a x' step = refl
  fold_back-pairs (x ∷ xs) [] (suc k) t s a x' step = refl
  fold_back-pairs (x ∷ xs) (y ∷ ys) zero t s a x' step = step t (fold_back f (suc t) s (pairs xs ys)) y
  fold_back-pairs (x ∷ xs) (y ∷ ys) (suc k) t s a x' step = ap (λ (r : S). f t r (x, y)) (fold_back-pairs xs ys k (suc t) s a x' step)

-- ---- cut in parts and joined; counts

module _ {A : Type 0} where
  -- a place of what is laid over old
  pub lay-set : (w old : List A) (k : ℕ) (a : A) → k < length w → lay (set w k a) old ≡ set (lay w old) k a
  lay-set w old k a h = ap (λ (n : ℕ). set w k a ++ drop n old) (length-set w k a) ∙ sym (set-append_left w (drop (length w) old) k a h)

  set-append-add : (xs ys : List A) (k : ℕ) (a : A) → set (xs ++ ys) (length xs + k) a ≡ xs ++ set ys k a
  set-append-add [] ys k a = rw zero-add
  set-append-add (x ∷ xs) ys k a = rw suc-add (ap (λ (r : List A). x ∷ r) (set-append-add xs ys k a))

  pub chunks-set : (n p : ℕ) (l : List A) (t i : ℕ) (a : A) → i < p → chunks n p (set l (t * p + i) a) ≡ set (chunks n p l) t (set (get_or (chunks n p l) t []) i a)
  unfolding chunks
  chunks-set zero p l t i a h = refl
  chunks-set (suc n) p l zero i a h = rw (zero-mul, zero-add, take-set-lt p l i a h, drop-set-lt p l i a h)
  chunks-set (suc n) p l (suc t) i a h =
      let e : suc t * p + i ≡ p + (t * p + i) = omega arith in
      rw e (ap₂ (λ (u : List A) (r : List (List A)). u ∷ r) (take-set-le p l (p + (t * p + i)) a (omega arith)) (ap (chunks n p) (drop-set-add p l (t * p + i) a) ∙ chunks-set n p (drop p l) t i a h))

  pub length-chunks : (n p : ℕ) (l : List A) → length (chunks n p l) ≡ n
  unfolding chunks
  length-chunks zero p l = refl
  length-chunks (suc n) p l = ap suc (length-chunks n p (drop p l))

  -- each part has p places
  abbrev pub Each : ℕ → List (List A) → Type 0
  Each p [] = Unit {0}
  Each p (l ∷ ls) = (length l ≡ p) × Each p ls

  pub chunks_each : (n p : ℕ) (l : List A) → length l ≡ n * p → Each p (chunks n p l)
  unfolding chunks
  chunks_each zero p l e = tt
  chunks_each (suc n) p l e = (simp length-take (omega arith), chunks_each n p (drop p l) (simp length-drop (omega arith)))

  pub join_at : (p : ℕ) (ls : List (List A)) (t i : ℕ) (d : A) → Each p ls → t < length ls → i < p → get_or (join ls) (t * p + i) d ≡ get_or (get_or ls t []) i d
  unfolding join
  join_at p [] t i d each h g = absurd (not-suc-le-zero h)
  join_at p (l ∷ ls) zero i d each h g = rw (zero-mul, zero-add) (get_or-append l (join ls) d i (rw each.0 g))
  join_at p (l ∷ ls) (suc t) i d each h g =
      let e : suc t * p + i ≡ length l + (t * p + i) = rw each.0 (omega arith) in
      rw e (get_or-append-add l (join ls) (t * p + i) d ∙ join_at p ls t i d each.1 (le_of_suc-le-suc h) g)

  pub join-set : (p : ℕ) (ls : List (List A)) (t i : ℕ) (a : A) → Each p ls → t < length ls → i < p → join (set ls t (set (get_or ls t []) i a)) ≡ set (join ls) (t * p + i) a
  unfolding join
  join-set p [] t i a each h g = absurd (not-suc-le-zero h)
  join-set p (l ∷ ls) zero i a each h g = rw (zero-mul, zero-add) (sym (set-append_left l (join ls) i a (rw each.0 g)))
  join-set p (l ∷ ls) (suc t) i a each h g =
      let e : suc t * p + i ≡ length l + (t * p + i) = rw each.0 (omega arith) in
      rw e (ap (λ (r : List A). l ++ r) (join-set p ls t i a each.1 (le_of_suc-le-suc h) g) ∙ sym (set-append-add l (join ls) (t * p + i) a))

  pub length-join : (p : ℕ) (ls : List (List A)) → Each p ls → length (join ls) ≡ length ls * p
  unfolding join
  length-join p [] each = sym (zero-mul p)
  length-join p (l ∷ ls) each = length-append l (join ls) ∙ ap₂ ◌+◌ each.0 (length-join p ls each.1) ∙ omega arith

  pub join-chunks : (n p : ℕ) (l : List A) → length l ≡ n * p → join (chunks n p l) ≡ l
  unfolding join chunks
  join-chunks zero p [] e = refl
  join-chunks zero p (a ∷ l) e = absurd (omega (arith, zero-mul p))
  join-chunks (suc n) p l e = ap (λ (r : List A). take p l ++ r) (join-chunks n p (drop p l) (simp length-drop (omega arith))) ∙ take-append-drop p l

  pub chunks-append : (n k p : ℕ) (l r : List A) → length l ≡ n * p → chunks (n + k) p (l ++ r) ≡ chunks n p l ++ chunks k p r
  unfolding chunks
  chunks-append zero k p [] r e = rw zero-add
  chunks-append zero k p (a ∷ l) r e = absurd (omega (arith, zero-mul p))
  chunks-append (suc n) k p l r e =
      let g = chunks-append n k p (drop p l) r (simp length-drop (omega arith)) in
      rw (suc-add, take-append-le p l r (omega arith), drop-append-le p l r (omega arith)) (ap (λ (z : List (List A)). take p l ∷ z) g)

  pub each_at : (p : ℕ) (ls : List (List A)) (t : ℕ) → Each p ls → t < length ls → length (get_or ls t []) ≡ p
  each_at p [] t each h = absurd (not-suc-le-zero h)
  each_at p (l ∷ ls) zero each h = each.0
  each_at p (l ∷ ls) (suc t) each h = each_at p ls t each.1 (le_of_suc-le-suc h)

  pub count_set : (q : A → Bool) (l : List A) (k : ℕ) (a d : A) → k < length l → q (get_or l k d) ≡ true → q a ≡ false → suc (count q (set l k a)) ≡ count q l
  unfolding count
  count_set q [] k a d h e g = absurd (not-suc-le-zero h)
  count_set q (x ∷ l) zero a d h e g = rw (e, g) (omega arith)
  count_set q (x ∷ l) (suc k) a d h e g = let ih = count_set q l k a d (le_of_suc-le-suc h) e g in omega arith

  pub count_same : (q : A → Bool) (l : List A) (k : ℕ) (a d : A) → q a ≡ q (get_or l k d) → count q (set l k a) ≡ count q l
  unfolding count
  count_same q [] k a d e = refl
  count_same q (x ∷ l) zero a d e = ap (λ (b : Bool). cond b 1 0 + count q l) e
  count_same q (x ∷ l) (suc k) a d e = ap (λ (n : ℕ). cond (q x) 1 0 + n) (count_same q l k a d e)

  pub any_of_set : (q : A → Bool) (l : List A) (k : ℕ) (a d : A) → q a ≡ q (get_or l k d) → any_of q (set l k a) ≡ any_of q l
  unfolding any_of
  any_of_set q [] k a d e = refl
  any_of_set q (x ∷ l) zero a d e = ap (λ (b : Bool). b || any_of q l) e
  any_of_set q (x ∷ l) (suc k) a d e = ap (λ (b : Bool). q x || b) (any_of_set q l k a d e)

-- ---- places: an entry lies within its matrix, and what has a place has a column

pub place_lt : (n p t i : ℕ) → t < n → i < p → t * p + i < n * p
place_lt n p t i h g = omega (arith, mul-le-mul_right p h)

pub some_column : (r c k : ℕ) → k < r * c → 0 < c
some_column r zero k h = absurd (omega (arith, mul-zero r))
some_column r (suc c) k h = omega arith

-- ---- vectors and matrices, once over the size

module _ {A : Type 0} where
  pub tab_at : (n k i : ℕ) (f : ℕ → A) (d : A) → i < n → get_or (tab_from k n f) i d ≡ f (k + i)
  unfolding tab_from
  tab_at zero k i f d h = absurd (not-suc-le-zero h)
  tab_at (suc n) k zero f d h = rw add-zero
  tab_at (suc n) k (suc i) f d h = tab_at n (suc k) i f d (le_of_suc-le-suc h) ∙ ap f (omega arith)

  pub length_tab : (n k : ℕ) (f : ℕ → A) → length (tab_from k n f) ≡ n
  unfolding tab_from
  length_tab zero k f = refl
  length_tab (suc n) k f = ap suc (length_tab n (suc k) f)

  pub replicate_tab : (n k : ℕ) (a : A) → replicate n a ≡ tab_from k n (λ i. a)
  unfolding tab_from
  replicate_tab zero k a = refl
  replicate_tab (suc n) k a = ap (λ (l : List A). a ∷ l) (replicate_tab n (suc k) a)

pub vector_at : (n i : ℕ) (f : ℕ → Float) → i < n → at (tabulate n f) i ≡ f i
vector_at n i f h = tab_at n 0 i f nan h ∙ ap f (zero-add i)

pub matrix_at : (r c i j : ℕ) (f : ℕ → ℕ → Float) → i < r → j < c → ent c (matrix r c f) i j ≡ f i j
matrix_at r c i j f h g =
    let z : 0 < c = omega arith in
    let q : (i * c + j) / c ≡ i = mul-add-div_right z i j ∙ ap (λ (k : ℕ). i + k) (div-eq_of_lt g) ∙ add-zero i in
    let w : (i * c + j) % c ≡ j = mul-add-mod_self_right i c j ∙ mod-eq_of_lt g in
    vector_at (r * c) (i * c + j) (λ k. f (k / c) (k % c)) (place_lt r c i j h g) ∙ ap₂ f q w

-- a loop that fills place k with f k: what stands below k is the table so far
module _ {A : Type 0} where
  pub tab_snoc : (n k : ℕ) (f : ℕ → A) → tab_from k (suc n) f ≡ tab_from k n f ++ (f (k + n) ∷ [])
  unfolding tab_from
  tab_snoc zero k f = rw add-zero
  tab_snoc (suc n) k f = ap (λ (l : List A). f k ∷ l) (rw (suc-add, ← add-suc) at (tab_snoc n (suc k) f))

-- ---- what a table, a matrix or a sum reads is what its entries read

pub tab_cong : {A : Type 0} (n k : ℕ) (f g : ℕ → A) → ((i : ℕ) → k ≤ i → i < k + n → f i ≡ g i) → tab_from k n f ≡ tab_from k n g
unfolding tab_from
tab_cong zero k f g h = refl
tab_cong (suc n) k f g h = ap₂ (λ (a : _) (l : List _). a ∷ l) (h k (omega arith) (omega arith)) (tab_cong n (suc k) f g (λ i u v. h i (omega arith) (omega arith)))

-- tables that differ at place k alone
pub tab_set : {A : Type 0} (n j k : ℕ) (f g : ℕ → A) → k < n → ((i : ℕ) → (i ≡ j + k → ⊥) → g i ≡ f i) → tab_from j n g ≡ set (tab_from j n f) k (g (j + k))
unfolding tab_from
tab_set zero j k f g h e = absurd (not-suc-le-zero h)
tab_set (suc n) j zero f g h e = rw add-zero (ap (λ (l : List _). g j ∷ l) (tab_cong n (suc j) g f (λ i u v. e i (λ q. omega arith))))
tab_set (suc n) j (suc k) f g h e =
    ap₂ (λ (a : _) (l : List _). a ∷ l) (e j (λ q. omega arith)) (tab_set n (suc j) k f g (le_of_suc-le-suc h) (λ i q. e i (λ r. q (omega arith))) ∙ ap (λ (i : ℕ). set (tab_from (suc j) n f) k (g i)) (omega arith))

pub matrix_cong : (r c : ℕ) (f g : ℕ → ℕ → Float) → ((i j : ℕ) → i < r → j < c → f i j ≡ g i j) → matrix r c f ≡ matrix r c g
matrix_cong r c f g h = tab_cong (r * c) 0 (λ k. f (k / c) (k % c)) (λ k. g (k / c) (k % c)) (λ k u v. let z : 0 < c = some_column r c k (omega arith) in h (k / c) (k % c) ((div-lt_iff_lt-mul z).1 (omega arith)) (mod-lt k z))

pub sum_to_cong : (k : ℕ) (f g : ℕ → Float) → ((i : ℕ) → i < k → f i ≡ g i) → sum_to k f ≡ sum_to k g
unfolding sum_to
sum_to_cong zero f g h = refl
sum_to_cong (suc k) f g h = ap₂ ◌⊕◌ (sum_to_cong k f g (λ i u. h i (omega arith))) (h k (omega arith))

-- ---- a running sum

pub sum_none : (f : ℕ → Float) → 0ᶠ ≡ sum_to 0 f
unfolding sum_to
sum_none f = refl

pub sum_next : (f : ℕ → Float) (k : ℕ) (s x : Float) → s ≡ sum_to k f → x ≡ f k → s ⊕ x ≡ sum_to (k + 1) f
unfolding sum_to
sum_next f k s x h e = rw add-one (cc)

pub sum_end : (f : ℕ → Float) {k n : ℕ} {s : Float} → s ≡ sum_to k f → k ≤ n → n ≤ k → s ≡ sum_to n f
sum_end f {k} {n} {s} h a b = let e : k ≡ n = omega arith in cc
