-- Laws of a pass: a loop over the periods that writes each period's block of a part after those before it.
use Rattle.std.specs.Prelude.{◌≡◌, Bool, get_or, take}
use Rattle.std.proofs.Math.Path.{refl, sym, ap}
use Rattle.std.proofs.Common.{ap₂, ◌∙◌, mul-le-mul_right, not-suc-le-zero, le_of_suc-le-suc, add-one, length-append, length-take, length-drop, take_all, take_at, drop_at, drop-drop}
use Prim.Native.Nat.{ℕ, zero, suc, ◌+◌, ◌-◌, ◌*◌, ◌≤◌, ◌<◌}
use Rattle.std.proofs.Math.Nat.{zero-mul, suc-mul}
use native.Mathlib.Omega.{arith}
use Rattle.std.proofs.Math.Bool.{true, false, cond}
use mathlib.Core.List.{List, [], ◌∷◌, ◌++◌, map, append_assoc, append-nil}
use Rattle.std.proofs.Math.ListN.{length, drop}
use borrow.Rule.Slice.PartMut.{mid_of, put_mid, same_len_mid}
use Rattle.definition.specs.Run.{scan, join, count, chunks, lay}
use Rattle.laws.specs.Lists.{scan_next}

-- w, of k places, laid over old, is o
pub record Laid {X : Type 0} (k : ℕ) (w old o : List X) : Type 0 where
  pub long : length w ≡ k
  pub is : o ≡ lay w old

module _ {A : Type 0} where
  pub join-append : (xs ys : List (List A)) → join (xs ++ ys) ≡ join xs ++ join ys
  unfolding join
  join-append [] ys = refl
  join-append (x ∷ xs) ys = ap (λ (l : List A). x ++ l) (join-append xs ys) ∙ sym (append_assoc x (join xs) (join ys))

  pub count-append : (q : A → Bool) (xs ys : List A) → count q (xs ++ ys) ≡ count q xs + count q ys
  unfolding count
  count-append q [] ys = sym (omega arith)
  count-append q (x ∷ xs) ys = let ih = count-append q xs ys in omega arith

module _ {A B : Type 0} where
  pub map-append : (g : A → B) (xs ys : List A) → map g (xs ++ ys) ≡ map g xs ++ map g ys
  map-append g [] ys = refl
  map-append g (x ∷ xs) ys = ap (λ (l : List B). g x ∷ l) (map-append g xs ys)

-- the blocks of two runs in a row
module _ {A B : Type 0} (g : A → List B) where
  pub blocks_append : (xs ys : List A) → join (map g (xs ++ ys)) ≡ join (map g xs) ++ join (map g ys)
  blocks_append xs ys = ap join (map-append g xs ys) ∙ join-append (map g xs) (map g ys)

  pub blocks_then : (xs ys : List A) (z : List B) → join (map g (xs ++ ys)) ++ z ≡ join (map g xs) ++ (join (map g ys) ++ z)
  blocks_then xs ys z = ap (λ (l : List B). l ++ z) (blocks_append xs ys) ∙ append_assoc (join (map g xs)) (join (map g ys)) z

pub block_in : (t n k : ℕ) → t < n → t * k + k ≤ n * k
block_in t n k h = rw suc-mul at (mul-le-mul_right k h)

-- a block written right after w, over old
pub lay_next : {X : Type 0} (a k : ℕ) (w b old : List X) → length w ≡ a → length b ≡ k → put_mid a (a + k - a) (w ++ drop a old) b ≡ (w ++ b) ++ drop (a + k) old
lay_next a k w b old e l =
    let z : a + k - a ≡ k = omega arith in
    let past : drop k (drop a (w ++ drop a old)) ≡ drop (a + k) old = ap (drop k) (drop_at w (drop a old) a e) ∙ drop-drop k a old in
    rw (z, take_at w (drop a old) a e, past) (sym (append_assoc w b (drop (a + k) old)))

-- block t, of k places, of old replaced by b
abbrev pub over : {X : Type 0} → ℕ → ℕ → List X → List X → List X
over t k old b = put_mid (t * k) (t * k + k - t * k) old b

module _ {A B S X : Type 0} (f : ℕ → S → A → B × S) (g : B → List X) (k : ℕ) (xs : List A) (s : S) where
  -- what the first t periods leave in a part: their blocks, and the rest as it was
  abbrev pub Wrote : List X → List X → ℕ → Type 0
  Wrote old o t = (length o ≡ length old) × (o ≡ join (map g (scan f 0 s (take t xs)).0) ++ drop (t * k) old)

  pub wrote_none : (old : List X) → Wrote old old 0
  unfolding scan join
  wrote_none old = (refl, rw zero-mul)

  wrote_length : (old o : List X) (t : ℕ) → t * k ≤ length old → Wrote old o t → length (join (map g (scan f 0 s (take t xs)).0)) ≡ t * k
  wrote_length old o t h w =
      let l = simp (length-append, length-drop) at (ap length w.1) in
      omega (arith, w.0)

  pub wrote_next : (t : ℕ) (d : A) (old o ys : List X) → t < length xs → t * k + k ≤ length old → Wrote old o t → length ys ≡ k → ys ≡ g (f t (scan f 0 s (take t xs)).1 (get_or xs t d)).0 → Wrote old (over t k o ys) (t + 1)
  unfolding join
  wrote_next t d old o ys h room w ly e =
      let l : length ys ≡ length (mid_of (t * k) (t * k + k - t * k) o) = simp (length-take, length-drop) (omega (arith, w.0)) in
      let done = (scan f 0 s (take t xs)).0 in
      let b = (f t (scan f 0 s (take t xs)).1 (get_or xs t d)).0 in
      let more : join (map g (scan f 0 s (take (suc t) xs)).0) ≡ join (map g done) ++ ys =
      ap (λ (r : List B × S). join (map g r.0)) (scan_next f xs t s d h) ∙ ap join (map-append g done (b ∷ [])) ∙ join-append (map g done) (g b ∷ []) ∙ ap (λ (y : List X). join (map g done) ++ y) (append-nil (g b) ∙ sym e) in (
        same_len_mid (t * k) (t * k + k - t * k) o ys l ∙ w.0,
        rw (add-one, suc-mul, more) (ap (λ (o : List X). put_mid (t * k) (t * k + k - t * k) o ys) w.1 ∙ lay_next (t * k) k (join (map g done)) ys old (wrote_length old o t (omega arith) w) ly),
      )

  -- the loop's end
  pub wrote_all : (n t : ℕ) (old o : List X) → length xs ≡ n → t ≡ n → n * k ≤ length old → Wrote old o t → Laid (n * k) (join (map g (scan f 0 s xs).0)) old o
  wrote_all n t old o e q h w =
      let whole : take t xs ≡ xs = take_all t xs (omega arith) in
      let l = wrote_length old o t (rw q h) w in
      let l' : length (join (map g (scan f 0 s xs).0)) ≡ n * k = ap (λ (z : List A). length (join (map g (scan f 0 s z).0))) (sym whole) ∙ l ∙ ap (λ (i : ℕ). i * k) q in
      record { long = l'; is = w.1 ∙ ap (λ (z : List A). join (map g (scan f 0 s z).0) ++ drop (t * k) old) whole ∙ ap (λ (i : ℕ). join (map g (scan f 0 s xs).0) ++ drop i old) (ap (λ (i : ℕ). i * k) q ∙ sym l') }

-- the state one period further, and at the end
module _ {A B S : Type 0} (f : ℕ → S → A → B × S) (xs : List A) (s : S) where
  pub state_next : (t : ℕ) (d : A) (u v : S) → t < length xs → u ≡ (scan f 0 s (take t xs)).1 → v ≡ (f t u (get_or xs t d)).1 → v ≡ (scan f 0 s (take (t + 1) xs)).1
  state_next t d u v h e q = rw add-one (q ∙ ap (λ (u : S). (f t u (get_or xs t d)).1) e ∙ sym (ap (λ (r : List B × S). r.1) (scan_next f xs t s d h)))

  pub state_all : (n t : ℕ) (u : S) → length xs ≡ n → t ≡ n → u ≡ (scan f 0 s (take t xs)).1 → u ≡ (scan f 0 s xs).1
  state_all n t u e q h = h ∙ ap (λ (z : List A). (scan f 0 s z).1) (take_all t xs (omega arith))

  -- a count over what the periods leave
  pub count_next : (c : B → ℕ) (total : List B → ℕ) → ((l : List B) (b : B) → total (l ++ (b ∷ [])) ≡ total l + c b) → (t : ℕ) (d : A) (k j : ℕ) → t < length xs → k ≡ total (scan f 0 s (take t xs)).0 → j ≡ k + c (f t (scan f 0 s (take t xs)).1 (get_or xs t d)).0 → j ≡ total (scan f 0 s (take (t + 1) xs)).0
  count_next c total law t d k j h e q =
      rw add-one (q ∙ ap (λ (i : ℕ). i + c (f t (scan f 0 s (take t xs)).1 (get_or xs t d)).0) e ∙ sym (law _ _) ∙ sym (ap (λ (r : List B × S). total r.0) (scan_next f xs t s d h)))

module _ {A : Type 0} where
  -- part t of n
  pub chunk_at : (n p : ℕ) (l : List A) (t : ℕ) → t < n → get_or (chunks n p l) t [] ≡ take p (drop (t * p) l)
  unfolding chunks
  chunk_at zero p l t h = absurd (not-suc-le-zero h)
  chunk_at (suc n) p l zero h = rw zero-mul
  chunk_at (suc n) p l (suc t) h = let e : p + t * p ≡ suc t * p = omega (arith, suc-mul t p) in chunk_at n p (drop p l) t (le_of_suc-le-suc h) ∙ ap (take p) (drop-drop (t * p) p l ∙ ap (λ (i : ℕ). drop i l) e)

  pub count-le : (q : A → Bool) (l : List A) → count q l ≤ length l
  unfolding count
  count-le q [] = omega arith
  count-le q (x ∷ l) = let ih = count-le q l in one_le (q x) _ _ ih
    where
      one_le : (b : Bool) (i j : ℕ) → i ≤ j → cond b 1 0 + i ≤ suc j
      one_le true i j h = omega arith
      one_le false i j h = omega arith

-- one block more, after the n that stand there
pub lay_last : {X : Type 0} (n k : ℕ) (w b old o : List X) → Laid (n * k) w old o → length b ≡ k → Laid (n * k + k) (w ++ b) old (over n k o b)
lay_last {X} n k w b old o e lb =
    let whole : length (w ++ b) ≡ n * k + k = length-append w b ∙ ap₂ ◌+◌ e.long lb in
    record {
      long = whole;
      is = ap (λ (l : List X). over n k l b) (e.is ∙ ap (λ (i : ℕ). w ++ drop i old) e.long) ∙ lay_next (n * k) k w b old e.long lb ∙ ap (λ (i : ℕ). (w ++ b) ++ drop i old) (sym whole);
    }

-- laid over what was laid over old, and as long: laid over old
pub lay_again : {X : Type 0} (k : ℕ) (w v old o o' : List X) → Laid k w old o → length v ≡ k → o' ≡ lay v o → o' ≡ lay v old
lay_again {X} k w v old o o' l e q =
    q ∙ ap (λ (z : List X). v ++ drop (length v) z) l.is ∙ ap (λ (z : List X). v ++ z) (drop_at w (drop (length w) old) (length v) (l.long ∙ sym e) ∙ ap (λ (i : ℕ). drop i old) (l.long ∙ sym e))
