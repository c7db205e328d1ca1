-- Places in a matrix, and lists that loops store into, for every size; and from these to the definition's tables.
use Prim.Native.Nat.{ℕ, zero, suc, ◌+◌, ◌*◌, ◌/◌, ◌%◌, ◌≤◌, ◌<◌}
use mathlib.Core.Path.{◌≡◌, refl, sym, ap, ◌∙◌, subst}
use mathlib.Core.List.{List, ◌∷◌}
use mathlib.Core.Logic.{◌⊎◌, inl, inr, ⊎_elim}
use mathlib.Core.Bool.{Bool, true, false, cond}
use lib.Dec.{ltb, eqb}
use borrow.Author.Tests.{ltb-true, ltb-false, eqb-true, eqb-false}
use native.Mathlib.Omega.{arith}
use native.Mathlib.Numerals.{add-one}
use native.Mathlib.Nat.{mul-le-mul, suc-mul, div-add-mod', mod-lt, div-lt_iff_lt-mul, not-suc-le-zero, le_of_suc-le-suc}
use lib.ListN.{length, get_or, set, take, replicate, length-set}
use lib.Seq.{get_or-set_same, get_or-set_other, ext_get_or, get_or-take, length-take-le}
use lib.Ieee.{Float, nan}
use Rattle.definition.specs.Num.{tabulate, matrix, at, ent, zeros, sum_to, sum_but, sum_from, ◌⊕◌, 0ᶠ}
use Rattle.laws.specs.Lists.{some_column, vector_at, matrix_at, length_tab, tab_cong}
use Rattle.laws.specs.Passes.{block_in}
use Rattle.dense.specs.Views.{vec, rect}
use Rattle.dense.specs.Places.{Saved}

-- old with entry a + j replaced by g j, for each j below n
unfoldable pub row : {A : Type 0} → (ℕ → A) → ℕ → ℕ → List A → List A
row g a zero old = old
row g a (suc j) old = set (row g a j old) (a + j) (g j)

-- old with entry i * c + j replaced by f i j, for each i below r and each j below c
unfoldable pub grid : {A : Type 0} → (ℕ → ℕ → A) → ℕ → ℕ → List A → List A
grid f c zero old = old
grid f c (suc i) old = row (f i) (i * c) c (grid f c i old)

pub lt_or_le : (a b : ℕ) → (a < b) ⊎ (b ≤ a)
lt_or_le a b = by_test (ltb a b) refl
  where
    by_test : (t : Bool) → ltb a b ≡ t → (a < b) ⊎ (b ≤ a)
    by_test true e = inl (ltb-true a b e)
    by_test false e = inr (ltb-false a b e)

-- a place of a matrix with at most 8 rows and 8 columns is below 64
pub cell : {r c i j : ℕ} → r ≤ 8 → c ≤ 8 → i < r → j < c → i * c + j < 64
cell {r} {c} {i} {j} hr hc hi hj = omega (arith, block_in i r c hi, mul-le-mul {n₁ = r} {m₁ = c} {n₂ = 8} {m₂ = 8} hr hc)

-- such a matrix has at most 64 places
pub area : {r c : ℕ} → r ≤ 8 → c ≤ 8 → r * c ≤ 64
area h g = mul-le-mul h g

module _ {A : Type 0} where
  pub row_none : (g : ℕ → A) (a : ℕ) (l out : List A) → out ≡ l → out ≡ row g a 0 l
  unfolding row
  row_none g a l out e = e

  pub row_end : (g : ℕ → A) (a : ℕ) (l : List A) {n r : ℕ} {out : List A} → out ≡ row g a n l → n ≤ r → r ≤ n → out ≡ row g a r l
  row_end g a l {n} {r} {out} h p q = let e : n ≡ r = omega arith in cc

  pub grid_none : (f : ℕ → ℕ → A) (c : ℕ) (l out : List A) → out ≡ l → out ≡ grid f c 0 l
  unfolding grid
  grid_none f c l out e = e

  pub grid_end : (f : ℕ → ℕ → A) (c : ℕ) (l : List A) {n r : ℕ} {out : List A} → out ≡ grid f c n l → n ≤ r → r ≤ n → out ≡ grid f c r l
  grid_end f c l {n} {r} {out} h a b = let e : n ≡ r = omega arith in cc

  pub length-row : (g : ℕ → A) (a n : ℕ) (l : List A) → length (row g a n l) ≡ length l
  unfolding row
  length-row g a zero l = refl
  length-row g a (suc n) l = length-set (row g a n l) (a + n) (g n) ∙ length-row g a n l

  pub length-grid : (f : ℕ → ℕ → A) (c n : ℕ) (l : List A) → length (grid f c n l) ≡ length l
  unfolding grid
  length-grid f c zero l = refl
  length-grid f c (suc n) l = length-row (f n) (n * c) c (grid f c n l) ∙ length-grid f c n l

  -- one store more, as the code counts; k is the place as the code has it
  pub row_next : (g : ℕ → A) (a n : ℕ) (l out : List A) (v : A) (k : ℕ) → k ≡ a + n → out ≡ row g a n l → v ≡ g n → set out k v ≡ row g a (n + 1) l
  unfolding row
  row_next g a n l out v k q h e = rw add-one (cc)

  -- the same in a list that is filled from its start
  pub vec_next : (g : ℕ → A) (n : ℕ) (l out : List A) (v : A) → out ≡ row g 0 n l → v ≡ g n → set out n v ≡ row g 0 (n + 1) l
  vec_next g n l out v h e = row_next g 0 n l out v n (omega arith) h e

  -- one row more
  pub grid_next : (f : ℕ → ℕ → A) (c n k : ℕ) (l mid out : List A) → out ≡ row (f n) (n * c) k mid → mid ≡ grid f c n l → k ≤ c → c ≤ k → out ≡ grid f c (n + 1) l
  unfolding grid
  grid_next f c n k l mid out h e a b = let q : k ≡ c = omega arith in rw add-one (cc)

  -- a place that no store reached
  pub row_after : (g : ℕ → A) (a n : ℕ) (l : List A) (k : ℕ) (d : A) → a + n ≤ k → get_or (row g a n l) k d ≡ get_or l k d
  unfolding row
  row_after g a zero l k d h = refl
  row_after g a (suc n) l k d h =
      get_or-set_other (row g a n l) (a + n) k (g n) d (λ e. omega arith) ∙ row_after g a n l k d (omega arith)

  pub row_before : (g : ℕ → A) (a n : ℕ) (l : List A) (k : ℕ) (d : A) → k < a → get_or (row g a n l) k d ≡ get_or l k d
  unfolding row
  row_before g a zero l k d h = refl
  row_before g a (suc n) l k d h =
      get_or-set_other (row g a n l) (a + n) k (g n) d (λ e. omega arith) ∙ row_before g a n l k d h

  pub grid_after : (f : ℕ → ℕ → A) (c n : ℕ) (l : List A) (k : ℕ) (d : A) → n * c ≤ k → get_or (grid f c n l) k d ≡ get_or l k d
  unfolding grid
  grid_after f c zero l k d h = refl
  grid_after f c (suc n) l k d h =
      row_after (f n) (n * c) c (grid f c n l) k d (omega (arith, suc-mul n c))
      ∙ grid_after f c n l k d (omega (arith, suc-mul n c))

  -- a place that a store reached; k is the place as the code has it
  pub row-at : (g : ℕ → A) (a n : ℕ) (l : List A) (j : ℕ) (d : A) (k : ℕ) → k ≡ a + j → j < n → a + n ≤ length l → get_or (row g a n l) k d ≡ g j
  unfolding row
  row-at g a zero l j d k p h b = absurd (omega arith)
  row-at g a (suc n) l j d k p h b =
      ⊎_elim
      (λ (e : j < n). get_or-set_other (row g a n l) (a + n) k (g n) d (λ q. omega arith) ∙ row-at g a n l j d k p e (omega arith))
      (λ (e : n ≤ j).
      let q : j ≡ n = omega arith in
      let r : k ≡ a + n = omega arith in
      ap (λ (i : ℕ). get_or (set (row g a n l) (a + n) (g n)) i d) r
      ∙ get_or-set_same (row g a n l) (a + n) (g n) d (omega (arith, length-row g a n l))
      ∙ sym (ap g q))
      (lt_or_le j n)

  pub grid_at : (f : ℕ → ℕ → A) (c n : ℕ) (l : List A) (i j : ℕ) (d : A) → i < n → j < c → n * c ≤ length l → get_or (grid f c n l) (i * c + j) d ≡ f i j
  unfolding grid
  grid_at f c zero l i j d hi hj b = absurd (omega arith)
  grid_at f c (suc n) l i j d hi hj b =
      ⊎_elim
      (λ (e : i < n).
      row_before (f n) (n * c) c (grid f c n l) (i * c + j) d (omega (arith, block_in i n c e))
      ∙ grid_at f c n l i j d e hj (omega (arith, suc-mul n c)))
      (λ (e : n ≤ i).
      let q : i ≡ n = omega arith in
      ap (λ (k : ℕ). get_or (row (f n) (n * c) c (grid f c n l)) (k * c + j) d) q
      ∙ row-at (f n) (n * c) c (grid f c n l) j d (n * c + j) refl hj (omega (arith, suc-mul n c, length-grid f c n l))
      ∙ sym (ap (λ (k : ℕ). f k j) q))
      (lt_or_le i n)

-- ---- the places in use

pub vec-at : (k i : ℕ) (a : List Float) → i < k → at (vec k a) i ≡ at a i
unfolding vec
vec-at k i a h = get_or-take k a i nan h

pub rect_at : (r c i j : ℕ) (a : List Float) → i < r → j < c → ent c (rect r c a) i j ≡ ent c a i j
unfolding rect
rect_at r c i j a hi hj = get_or-take (r * c) a (i * c + j) nan (omega (arith, block_in i r c hi))

-- a vector that was filled, and a matrix
pub vec-row : (g : ℕ → Float) (m : ℕ) (l out : List Float) → m ≤ length l → out ≡ row g 0 m l → vec m out ≡ tabulate m g
unfolding vec
vec-row g m l out h e =
    let n : length out ≡ length l = ap length e ∙ length-row g 0 m l in
    let k : length (take m out) ≡ m = length-take-le m out (omega arith) in
    ext_get_or nan (take m out) (tabulate m g) (k ∙ sym (length_tab m 0 g))
    (λ i b.
    let q : i < m = omega arith in
    get_or-take m out i nan q ∙ ap (λ (x : List Float). get_or x i nan) e ∙ row-at g 0 m l i nan i (omega arith) q (omega arith) ∙ sym (vector_at m i g q))

-- a matrix is known by its entries
pub rect_by : (f : ℕ → ℕ → Float) (r c : ℕ) (out : List Float) → r * c ≤ length out → ((i j : ℕ) → i < r → j < c → ent c out i j ≡ f i j) → rect r c out ≡ matrix r c f
unfolding rect
rect_by f r c out h e =
    let k : length (take (r * c) out) ≡ r * c = length-take-le (r * c) out h in
    ext_get_or nan (take (r * c) out) (matrix r c f) (k ∙ sym (length_tab (r * c) 0 (λ k. f (k / c) (k % c))))
    (λ x b.
    let q : x < r * c = omega arith in
    let z : 0 < c = some_column r c x q in
    let hi : x / c < r = (div-lt_iff_lt-mul z).1 q in
    let hj : x % c < c = mod-lt x z in
    get_or-take (r * c) out x nan q
    ∙ subst (λ (y : ℕ). get_or out y nan ≡ at (matrix r c f) y) (div-add-mod' x c)
    (e (x / c) (x % c) hi hj ∙ sym (matrix_at r c (x / c) (x % c) f hi hj)))

pub rect-grid : (f : ℕ → ℕ → Float) (r c : ℕ) (l out : List Float) → r * c ≤ length l → out ≡ grid f c r l → rect r c out ≡ matrix r c f
rect-grid f r c l out h e =
    rect_by f r c out (omega (arith, ap length e, length-grid f c r l)) (λ i j hi hj. ap (λ (y : List Float). ent c y i j) e ∙ grid_at f c r l i j nan hi hj h)

pub rect_self : (r c : ℕ) (l : List Float) → r * c ≤ length l → rect r c l ≡ matrix r c (λ i j. ent c (rect r c l) i j)
rect_self r c l h = rect_by (λ i j. ent c (rect r c l) i j) r c l h (λ i j hi hj. sym (rect_at r c i j l hi hj))

pub vec_self : (k : ℕ) (l : List Float) → k ≤ length l → vec k l ≡ tabulate k (λ i. at (vec k l) i)
unfolding vec
vec_self k l h =
    let n = length-take-le k l h in
    ext_get_or nan (take k l) (tabulate k (λ i. at (take k l) i)) (n ∙ sym (length_tab k 0 (λ i. at (take k l) i)))
    (λ i b. sym (vector_at k i (λ i. at (take k l) i) (omega arith)))

pub vec_fresh : (g : ℕ → Float) (m i : ℕ) (l out : List Float) → i < m → out ≡ row g 0 i l → at out i ≡ at (vec m l) i
vec_fresh g m i l out h e = ap (λ (y : List Float). at y i) e ∙ row_after g 0 i l i nan (omega arith) ∙ sym (vec-at m i l h)

-- ---- a matrix that is changed in place, row by row: what a row reads of itself is still the old

pub row_fresh : (g : ℕ → Float) (r c i j : ℕ) (mid out : List Float) → i < r → j < c → out ≡ row g (i * c) j mid → ent c (rect r c out) i j ≡ ent c (rect r c mid) i j
row_fresh g r c i j mid out hi hj e =
    rect_at r c i j out hi hj
    ∙ ap (λ (x : List Float). get_or x (i * c + j) nan) e
    ∙ row_after g (i * c) j mid (i * c + j) nan (omega arith)
    ∙ sym (rect_at r c i j mid hi hj)

pub grid_fresh : (f : ℕ → ℕ → Float) (r c i j : ℕ) (l mid : List Float) → i < r → j < c → mid ≡ grid f c i l → ent c (rect r c mid) i j ≡ ent c (rect r c l) i j
grid_fresh f r c i j l mid hi hj e =
    rect_at r c i j mid hi hj
    ∙ ap (λ (x : List Float). get_or x (i * c + j) nan) e
    ∙ grid_after f c i l (i * c + j) nan (omega arith)
    ∙ sym (rect_at r c i j l hi hj)

pub row_cong : (g h : ℕ → Float) (a n : ℕ) (l : List Float) → ((j : ℕ) → j < n → g j ≡ h j) → row g a n l ≡ row h a n l
unfolding row
row_cong g h a zero l e = refl
row_cong g h a (suc n) l e = rw (row_cong g h a n l (λ j b. e j (omega arith)), e n (omega arith)) refl

-- one row more; f is an entry, made of the matrix as it is
pub in_place_next : (f : List Float → ℕ → ℕ → Float) (r c n k : ℕ) (l mid out : List Float) → n < r
    → ((j : ℕ) → j < c → ent c (rect r c mid) n j ≡ ent c (rect r c l) n j → f (rect r c mid) n j ≡ f (rect r c l) n j)
    → out ≡ row (f (rect r c mid) n) (n * c) k mid → mid ≡ grid (f (rect r c l)) c n l → k ≤ c → c ≤ k → out ≡ grid (f (rect r c l)) c (n + 1) l
in_place_next f r c n k l mid out hn same h e a b =
    let q : k ≡ c = omega arith in
    grid_next (f (rect r c l)) c n c l mid out
    (h ∙ rw q (row_cong (f (rect r c mid) n) (f (rect r c l) n) (n * c) c mid (λ j hj. same j hj (grid_fresh (f (rect r c l)) r c n j l mid hn hj e))))
    e (omega arith) (omega arith)

-- ---- one column: old with entry i * c + j replaced by g i, for each i below n

unfoldable pub column : {A : Type 0} → (ℕ → A) → ℕ → ℕ → ℕ → List A → List A
column g c j zero old = old
column g c j (suc i) old = set (column g c j i old) (i * c + j) (g i)

module _ (g : ℕ → Float) (c j : ℕ) (l : List Float) where
  pub column_none : (out : List Float) → out ≡ l → out ≡ column g c j 0 l
  unfolding column
  column_none out e = e

  pub column_next : (n : ℕ) (out : List Float) (v : Float) → out ≡ column g c j n l → v ≡ g n → set out (n * c + j) v ≡ column g c j (n + 1) l
  unfolding column
  column_next n out v e h = rw add-one (cc)

  pub length-column : (n : ℕ) → length (column g c j n l) ≡ length l
  unfolding column
  length-column zero = refl
  length-column (suc n) = length-set (column g c j n l) (n * c + j) (g n) ∙ length-column n

  -- an entry that no store reached: below in the column, or in another column
  pub column_after : (n i : ℕ) → j < c → n ≤ i → get_or (column g c j n l) (i * c + j) nan ≡ get_or l (i * c + j) nan
  unfolding column
  column_after zero i hj h = refl
  column_after (suc n) i hj h =
      get_or-set_other (column g c j n l) (n * c + j) (i * c + j) (g n) nan (λ e. omega (arith, block_in n i c h)) ∙ column_after n i hj (omega arith)

  pub column_beside : (n i k : ℕ) → j < c → k < c → (k ≡ j → ⊥) → get_or (column g c j n l) (i * c + k) nan ≡ get_or l (i * c + k) nan
  unfolding column
  column_beside zero i k hj hk d = refl
  column_beside (suc n) i k hj hk d = get_or-set_other (column g c j n l) (n * c + j) (i * c + k) (g n) nan apart ∙ column_beside n i k hj hk d
    where
      apart : i * c + k ≡ n * c + j → ⊥
      apart e =
          ⊎_elim (λ (a : n < i). omega (arith, block_in n i c a))
          (λ (a : i ≤ n). ⊎_elim (λ (b : i < n). omega (arith, block_in i n c b)) (λ (b : n ≤ i). let q : n ≡ i = omega arith in d (omega (arith, ap (λ (x : ℕ). x * c) q))) (lt_or_le i n))
          (lt_or_le n i)

  pub column_at_lem : (n i r : ℕ) → j < c → i < n → n ≤ r → r * c ≤ length l → get_or (column g c j n l) (i * c + j) nan ≡ g i
  unfolding column
  column_at_lem zero i r hj h s b = absurd (omega arith)
  column_at_lem (suc n) i r hj h s b =
      ⊎_elim
      (λ (a : i < n).
      get_or-set_other (column g c j n l) (n * c + j) (i * c + j) (g n) nan (λ e. omega (arith, block_in i n c a))
      ∙ column_at_lem n i r hj a (omega arith) b)
      (λ (a : n ≤ i).
      let q : i ≡ n = omega arith in
      ap (λ (x : ℕ). get_or (set (column g c j n l) (n * c + j) (g n)) (x * c + j) nan) q
      ∙ get_or-set_same (column g c j n l) (n * c + j) (g n) nan (omega (arith, length-column n, block_in n r c s))
      ∙ sym (ap g q))
      (lt_or_le i n)

pub column_end : (g : ℕ → Float) (c j : ℕ) (l : List Float) {n r : ℕ} {out : List Float} → out ≡ column g c j n l → n ≤ r → r ≤ n → out ≡ column g c j r l
column_end g c j l {n} {r} {out} h a b = let e : n ≡ r = omega arith in cc

-- in the midst of it, the entry that is next is still the old one
pub column_fresh : (g : ℕ → Float) (r c j i : ℕ) (l out : List Float) → i < r → j < c → out ≡ column g c j i l → ent c (rect r c out) i j ≡ ent c (rect r c l) i j
column_fresh g r c j i l out hi hj e =
    rect_at r c i j out hi hj
    ∙ ap (λ (y : List Float). ent c y i j) e
    ∙ column_after g c j l i i hj (omega arith)
    ∙ sym (rect_at r c i j l hi hj)

-- the matrix with that column new
pub rect-column : (g : ℕ → Float) (r c j : ℕ) (l out : List Float) → j < c → r * c ≤ length l → out ≡ column g c j r l → rect r c out ≡ matrix r c (λ i k. cond (eqb k j) (g i) (ent c (rect r c l) i k))
rect-column g r c j l out hj h e =
    rect_by (λ i k. cond (eqb k j) (g i) (ent c (rect r c l) i k)) r c out (omega (arith, ap length e, length-column g c j l r))
    (λ i k hi hk. ap (λ (y : List Float). ent c y i k) e ∙ by_test i k hi hk (eqb k j) refl)
  where
    by_test : (i k : ℕ) → i < r → k < c → (t : Bool) → eqb k j ≡ t → ent c (column g c j r l) i k ≡ cond t (g i) (ent c (rect r c l) i k)
    by_test i k hi hk true q =
        let s : k ≡ j = eqb-true k j q in
        ap (λ (x : ℕ). ent c (column g c j r l) i x) s ∙ column_at_lem g c j l r i r hj hi (omega arith) h
    by_test i k hi hk false q = column_beside g c j l r i k hj hk (eqb-false k j q) ∙ sym (rect_at r c i k l hi hk)

-- ---- two lists place by place: the left one is changed in place

unfoldable pub both : (Float → Float → Float) → List Float → List Float → ℕ → Float
both op p q k = op (at p k) (at q k)

pub both_next : (op : Float → Float → Float) (p q out : List Float) (k : ℕ) → out ≡ row (both op p q) 0 k p → set out k (op (at out k) (at q k)) ≡ row (both op p q) 0 (k + 1) p
unfolding both
both_next op p q out k e =
    let old : at out k ≡ at p k = ap (λ (x : List Float). at x k) e ∙ row_after (both op p q) 0 k p k nan (omega arith) in
    vec_next (both op p q) k p out (op (at out k) (at q k)) e (ap (λ (x : Float). op x (at q k)) old)

pub both-vec : (op : Float → Float → Float) (m : ℕ) (p q out : List Float) → m ≤ length p → out ≡ row (both op p q) 0 m p → vec m out ≡ tabulate m (both op (vec m p) (vec m q))
unfolding both
both-vec op m p q out h e =
    vec-row (both op p q) m p out h e
    ∙ tab_cong m 0 (both op p q) (both op (vec m p) (vec m q)) (λ i a b.
    let g : i < m = omega arith in
    let l = vec-at m i p g in
    let r = vec-at m i q g in
    cc)

-- entry k of all, by its row and its column
pub flat-at : (c k : ℕ) (a : List Float) → ent c a (k / c) (k % c) ≡ at a k
flat-at c k a = ap (λ (x : ℕ). at a x) (div-add-mod' k c)

-- a square one, place by place
pub flat_both : (op : Float → Float → Float) (m : ℕ) (p q out : List Float) → out ≡ tabulate (m * m) (λ k. op (at (vec (m * m) p) k) (at (vec (m * m) q) k))
    → out ≡ matrix m m (λ i j. op (ent m (rect m m p) i j) (ent m (rect m m q) i j))
unfolding vec rect
flat_both op m p q out e =
    e
    ∙ tab_cong (m * m) 0 (λ k. op (at (vec (m * m) p) k) (at (vec (m * m) q) k)) (λ k. op (ent m (rect m m p) (k / m) (k % m)) (ent m (rect m m q) (k / m) (k % m))) (λ k a b.
    let l = flat-at m k (rect m m p) in
    let g = flat-at m k (rect m m q) in
    cc)

-- ---- moves: a part that was loaded, or that was saved to, for a caller that knows its length
pub loaded_rect : (r c n : ℕ) (a : List Float) {s : List Float} → n ≡ r * c → vec n a ≡ s → rect r c a ≡ s
unfolding vec rect
loaded_rect r c n a h e = ap (λ (k : ℕ). take k a) (sym h) ∙ e

pub loaded_vec : (k : ℕ) {n : ℕ} (a : List Float) {s : List Float} → n ≡ k → vec n a ≡ s → vec k a ≡ s
loaded_vec k a h e = ap (λ (i : ℕ). vec i a) (sym h) ∙ e

pub saved_vec : (k : ℕ) {n : ℕ} {a out : List Float} → n ≡ k → Saved n a out → out ≡ vec k a
unfolding vec
saved_vec k {n} {a} h s = s.holds ∙ ap (λ (x : ℕ). take x a) h

pub saved_rect : (r c : ℕ) {n : ℕ} {a out : List Float} → n ≡ r * c → Saved n a out → out ≡ rect r c a
unfolding vec rect
saved_rect r c h s = saved_vec (r * c) h s

-- an array that is all +0.0
pub vec-zeros : (k n : ℕ) → k ≤ n → vec k (replicate n 0ᶠ) ≡ zeros k
unfolding vec
vec-zeros zero n h = refl
vec-zeros (suc k) zero h = absurd (not-suc-le-zero h)
vec-zeros (suc k) (suc n) h = ap (λ (l : List Float). 0ᶠ ∷ l) (vec-zeros k n (le_of_suc-le-suc h))

-- ---- sums that leave terms out, and sums from a first value

pub but_none : (o : ℕ → Bool) (f : ℕ → Float) → 0ᶠ ≡ sum_but 0 o f
unfolding sum_but
but_none o f = refl

pub but_next : (o : ℕ → Bool) (f : ℕ → Float) (k : ℕ) (s r x : Float) (t : Bool) → s ≡ sum_but k o f → t ≡ o k → x ≡ f k → r ≡ cond t s (s ⊕ x) → r ≡ sum_but (k + 1) o f
unfolding sum_but
but_next o f k s r x t h p e q = rw add-one (cc)

pub but_end : (o : ℕ → Bool) (f : ℕ → Float) {k n : ℕ} {s : Float} → s ≡ sum_but k o f → k ≤ n → n ≤ k → s ≡ sum_but n o f
but_end o f {k} {n} {s} h a b = let e : k ≡ n = omega arith in cc

pub from_none : (f : ℕ → Float) (s : Float) → s ≡ sum_from s 0 f
unfolding sum_from
from_none f s = refl

pub from_next : (f : ℕ → Float) (k : ℕ) (r s x : Float) → s ≡ sum_from r k f → x ≡ f k → s ⊕ x ≡ sum_from r (k + 1) f
unfolding sum_from
from_next f k r s x h e = rw add-one (cc)

pub from_end : (f : ℕ → Float) (r : Float) {k n : ℕ} {s : Float} → s ≡ sum_from r k f → k ≤ n → n ≤ k → s ≡ sum_from r n f
from_end f r {k} {n} {s} h a b = let e : k ≡ n = omega arith in cc

pub from_zero : (n : ℕ) (f : ℕ → Float) → sum_from 0ᶠ n f ≡ sum_to n f
unfolding sum_from sum_to
from_zero zero f = refl
from_zero (suc n) f = ap (λ (s : Float). s ⊕ f n) (from_zero n f)
