-- A matrix becomes its root in its own place: a column more in the workspace, and the rows put into order.
use Prim.Native.Nat.{ℕ, zero, suc, ◌+◌, ◌*◌, ◌/◌, ◌%◌, ◌≤◌, ◌<◌}
use mathlib.Core.Path.{◌≡◌, refl, sym, ap, ◌∙◌, subst}
use mathlib.Core.Bool.{Bool, true, false, cond, true≢false}
use mathlib.Core.List.{List, ◌∷◌, ◌++◌}
use mathlib.Core.Logic.{⊎_elim}
use native.Mathlib.Nat.{zero-mul, le_of_suc-le-suc, not-suc-le-zero, mul-le-mul_right}
use native.Mathlib.Omega.{arith}
use native.Mathlib.Numerals.{add-one}
use borrow.Author.Tests.{eqb-true, eqb-false, ne_eqb, eq-eqb}
use lib.Dec.{eqb}
use lib.ListN.{take, drop, get_or, set, replicate, length, length-append, length-set, take-append-drop, get_or-append}
use lib.Seq.{get_or-take, get_or-set_same, get_or-set_other, get_or-append-add, take-append-le, take-set-lt, take_all, length-take-le}
use lib.Ieee.{Float, nan}
use Rattle.definition.specs.Num.{ent, at, matrix, tab_from, ◌⊖◌, ◌⊗◌}
use Rattle.definition.specs.Dense as Dense
use Rattle.definition.specs.Root.{sqrt_of}
use Rattle.definition.specs.Star.{Pivot, Growing, pivot_to, column, left_at, left_of, grown, grow, grow_to, seed, pivoted_root}
use Rattle.laws.specs.Lists.{length_tab, matrix_at, vector_at, matrix_cong}
use Rattle.laws.specs.Passes.{block_in}
use Rattle.laws.specs.Unread.{Alike, alike_refl, alike_trans, pivot_free, still_free}
use Rattle.laws.proofs.Unread.{unread}
use Rattle.dense.specs.Views.{vec, mat, rect}
use Rattle.dense.proofs.Laws.{lt_or_le, rect_by, rect_at, row-at, row_before, row_after, length-row}
use Rattle.dense.proofs.Laws as dense
use Rattle.star.specs.Views.{factor}
use Rattle.star.specs.Workspace.{picked, held_in, Rows, Placed, Grew, left_by, left_free, with_row, flip, exchanged, Renumbered}

-- ---- entries that a column leaves, and a row that is replaced

module _ (k : ℕ) (u : List Bool) (col : List Float) (i j : ℕ) (h : i < k) (x : Float) where
  pub left_used : get_or u i false ≡ true → x ≡ left_by (take k u) col x i j
  unfolding left_by
  left_used t = rw (get_or-take k u i false h, t)

  pub left_over : {y z : Float} → get_or u i false ≡ false → y ≡ at col i → z ≡ at col j → x ⊖ y ⊗ z ≡ left_by (take k u) col x i j
  unfolding left_by
  left_over t e1 e2 = rw (get_or-take k u i false h, t, sym e1, sym e2)

pub row_set : (k i : ℕ) (x l out : List Float) → i < k → k * k ≤ length l → out ≡ dense.row (λ j. at (vec k x) j) (i * k) k l
    → mat k out ≡ matrix k k (with_row k i (vec k x) (mat k l))
unfolding with_row
row_set k i x l out hi h e =
    rect_by (with_row k i (vec k x) (mat k l)) k k out (omega (arith, ap length e, length-row (λ j. at (vec k x) j) (i * k) k l))
    (λ r c hr hc. ap (λ (y : List Float). ent k y r c) e ∙ by_test r c hr hc (eqb r i) refl)
  where
    g : ℕ → Float
    g j = at (vec k x) j

    by_test : (r c : ℕ) → r < k → c < k → (t : Bool) → eqb r i ≡ t → get_or (dense.row g (i * k) k l) (r * k + c) nan ≡ cond t (at (vec k x) c) (ent k (mat k l) r c)
    by_test r c hr hc true t = let q = eqb-true r i t in row-at g (i * k) k l c nan (r * k + c) (ap (λ (y : ℕ). y * k + c) q) hc (omega (arith, block_in i k k hi))
    by_test r c hr hc false t =
        ⊎_elim
        (λ (s : r < i). row_before g (i * k) k l (r * k + c) nan (omega (arith, block_in r i k s)) ∙ sym (rect_at k k r c l hr hc))
        (λ (s : i ≤ r).
        let b : i < r = omega (arith, eqb-false r i t) in
        row_after g (i * k) k l (r * k + c) nan (omega (arith, block_in i r k b)) ∙ sym (rect_at k k r c l hr hc))
        (lt_or_le r i)

-- ---- two places that change names

module _ (i j x : ℕ) where
  pub flip_first : x ≡ i → j ≡ flip i j x
  unfolding flip
  flip_first e = rw (eq-eqb x i e)

  pub flip_second : (x ≡ i → ⊥) → x ≡ j → i ≡ flip i j x
  unfolding flip
  flip_second n e = rw (ne_eqb x i n, eq-eqb x j e)

  pub flip_third : (x ≡ i → ⊥) → (x ≡ j → ⊥) → x ≡ flip i j x
  unfolding flip
  flip_third n o = rw (ne_eqb x i n, ne_eqb x j o)

abbrev pub renamed : ℕ → ℕ → List ℕ → ℕ → ℕ
renamed i j o x = flip i j (get_or o x 0)

pub renumber_next : (i j : ℕ) (o out : List ℕ) (l : ℕ) {v : ℕ} → out ≡ dense.row (renamed i j o) 0 l o → v ≡ flip i j (get_or out l 0) → set out l v ≡ dense.row (renamed i j o) 0 (l + 1) o
renumber_next i j o out l {v} e h =
    dense.vec_next (renamed i j o) l o out v e (h ∙ ap (flip i j) (ap (λ (y : List ℕ). get_or y l 0) e ∙ row_after (renamed i j o) 0 l o l 0 (omega arith)))

pub renumber_end : (i j n : ℕ) (o out : List ℕ) → n ≤ length o → out ≡ dense.row (renamed i j (take n o)) 0 n (take n o) → Renumbered n i j o (out ++ drop n o)
renumber_end i j n o out h e =
    let k = length-take-le n o h in
    let m : length out ≡ length (take n o) = ap length e ∙ length-row (renamed i j (take n o)) 0 n (take n o) in
    record {
      room = length-append out (drop n o) ∙ omega (arith, m, length-append (take n o) (drop n o), ap length (take-append-drop n o));
      flipped = λ l b.
          get_or-append out (drop n o) 0 l (omega (arith, m, k)) ∙ ap (λ (y : List ℕ). get_or y l 0) e
          ∙ row-at (renamed i j (take n o)) 0 n (take n o) l 0 l (omega arith) b (omega (arith, k)) ∙ ap (flip i j) (get_or-take n o l 0 b);
    }

-- ---- one column more

-- a matrix with one row more
matrix_next : (k r : ℕ) (f g : ℕ → ℕ → Float) (x : List Float) → length x ≡ k → ((i a : ℕ) → i < r → a < k → g i a ≡ f i a) → ((a : ℕ) → a < k → g r a ≡ at x a)
    → matrix r k f ++ x ≡ matrix (r + 1) k g
unfolding rect
matrix_next k r f g x n h e =
    let l : length (matrix r k f) ≡ r * k = length_tab (r * k) 0 (λ y. f (y / k) (y % k)) in
    let s : (r + 1) * k ≡ r * k + k = omega arith in
    let w : length (matrix r k f ++ x) ≡ (r + 1) * k = length-append (matrix r k f) x ∙ omega (arith, l, n, s) in
    sym (take_all ((r + 1) * k) (matrix r k f ++ x) (omega (arith, w)))
    ∙ rect_by g (r + 1) k (matrix r k f ++ x) (omega (arith, w))
    (λ i j hi hj.
    ⊎_elim
    (λ (b : i < r). get_or-append (matrix r k f) x nan (i * k + j) (omega (arith, l, block_in i r k b)) ∙ matrix_at r k i j f b hj ∙ sym (h i j b hj))
    (λ (b : r ≤ i).
    let q : i ≡ r = omega arith in
    let o : i * k + j ≡ length (matrix r k f) + j = ap (λ (y : ℕ). y * k + j) q ∙ ap (λ (y : ℕ). y + j) (sym l) in
    ap (λ (y : ℕ). get_or (matrix r k f ++ x) y nan) o ∙ get_or-append-add (matrix r k f) x j nan ∙ sym (e j hj) ∙ ap (λ (y : ℕ). g y j) (sym q))
    (lt_or_le i r))

module _ (k rank : ℕ) (used : List Bool) (order : List ℕ) (w : List Float) (b : Pivot) (e : b ≡ pivot_to k w (take k used) k) (p : Placed k rank (take k used) order) where
  abbrev U : List Bool
  U = take k used

  pub grew_none : b.place ≡ k → Grew k rank U order w rank U order w
  unfolding grow
  grew_none h = record { few = omega arith; placed = p; grows = rw (sym e, eq-eqb b.place k h) (alike_refl k (held_in k U order rank w)) }

  -- the pivot is a row that is free
  pub at_free : (b.place ≡ k → ⊥) → (b.place < k) × (get_or U b.place false ≡ false)
  at_free h = subst (λ (x : Pivot). (x.place < k) × (get_or U x.place false ≡ false)) (sym e) (pivot_free k w U k (omega arith) (λ q. h (ap (λ (x : Pivot). x.place) e ∙ q)))

  module _ {sd : Float} {col w₁ w₂ : List Float} (h : b.place ≡ k → ⊥) (h8 : rank < 8) (e1 : sd ≡ sqrt_of b.best) (e2 : col ≡ column k w U b.place sd)
      (e3 : w₁ ≡ matrix k k (left_free k U col w)) (e4 : w₂ ≡ matrix k k (with_row k b.place col w₁)) where
    abbrev J : ℕ
    J = b.place

    abbrev order' : List ℕ
    order' = set order rank J

    in_pivot : (c : ℕ) → c < k → ent k w₂ J c ≡ at col c
    unfolding with_row
    in_pivot c hc = ap (λ (x : List Float). ent k x J c) e4 ∙ matrix_at k k J c (with_row k J col w₁) (at_free h).0 hc ∙ rw (eq-eqb J J refl)

    beside : (r c : ℕ) → r < k → c < k → (r ≡ J → ⊥) → ent k w₂ r c ≡ left_free k U col w r c
    unfolding with_row
    beside r c hr hc o =
        ap (λ (x : List Float). ent k x r c) e4 ∙ matrix_at k k r c (with_row k J col w₁) hr hc
        ∙ rw (ne_eqb r J o) (ap (λ (x : List Float). ent k x r c) e3 ∙ matrix_at k k r c (left_free k U col w) hr hc)

    in_used : (r c : ℕ) → r < k → c < k → (r ≡ J → ⊥) → get_or U r false ≡ true → ent k w₂ r c ≡ ent k w r c
    unfolding left_free
    in_used r c hr hc o t = beside r c hr hc o ∙ rw t

    in_free : (r c : ℕ) → r < k → c < k → (r ≡ J → ⊥) → get_or U r false ≡ false → ent k w₂ r c ≡ left_at k w col r c
    unfolding left_free
    in_free r c hr hc o t = beside r c hr hc o ∙ rw t

    not_before : (l : ℕ) → l < rank → get_or order l 0 ≡ J → ⊥
    not_before l q s = true≢false (sym (p.spent l q) ∙ ap (λ (x : ℕ). get_or U x false) s ∙ (at_free h).1)

    as_before : (l : ℕ) → l < rank → get_or order' l 0 ≡ get_or order l 0
    as_before l q = get_or-set_other order rank l J 0 (λ s. omega arith)

    at_last : get_or order' rank 0 ≡ J
    at_last = get_or-set_same order rank J 0 (omega (arith, p.rows.room))

    marked : take k (set used J true) ≡ set U J true
    marked = take-set-lt k used J true (at_free h).0

    mark_here : get_or (set U J true) J false ≡ true
    mark_here = get_or-set_same U J true false (omega (arith, p.marks, (at_free h).0))

    -- each row that holds a column, by whether it is the new one
    each : (P : ℕ → ℕ → Type 0) → ((l : ℕ) → l < rank → P l (get_or order l 0)) → P rank J → (l : ℕ) → l < rank + 1 → P l (get_or order' l 0)
    each P old new l q =
        ⊎_elim (λ (s : l < rank). subst (P l) (sym (as_before l s)) (old l s))
        (λ (s : rank ≤ l). let o : rank ≡ l = omega arith in subst (λ (x : ℕ). P x (get_or order' x 0)) o (subst (P rank) (sym at_last) new))
        (lt_or_le l rank)

    placed' : Placed k (rank + 1) (set U J true) order'
    placed' = record {
      rows = record {
        room = length-set order rank J ∙ p.rows.room;
        below = each (λ l r. r < k) (λ l q. p.rows.below l q) (at_free h).0;
        apart = λ l x hl hx.
            each (λ l r. r ≡ get_or order' x 0 → l ≡ x)
            (λ l q. each (λ x s. get_or order l 0 ≡ s → l ≡ x) (λ x u s. p.rows.apart l x q u s) (λ s. absurd (not_before l q s)) x hx)
            (each (λ x s. J ≡ s → rank ≡ x) (λ x u s. absurd (not_before x u (sym s))) (λ s. refl) x hx)
            l hl;
      };
      marks = length-set U J true ∙ p.marks;
      spent = each (λ l r. get_or (set U J true) r false ≡ true)
          (λ l q. get_or-set_other U J (get_or order l 0) true false (not_before l q) ∙ p.spent l q)
          mark_here;
    }

    left_same : (i c : ℕ) → i < k → c < k → get_or (set U J true) i false ≡ false → get_or (set U J true) c false ≡ false → ent k (left_of k w col) i c ≡ ent k w₂ i c
    unfolding left_of
    left_same i c hi hc u v =
        matrix_at k k i c (left_at k w col) hi hc
        ∙ sym (in_free i c hi hc (λ s. true≢false (sym mark_here ∙ ap (λ (x : ℕ). get_or (set U J true) x false) (sym s) ∙ u)) (still_free U J i u))

    col_long : length col ≡ k
    unfolding column
    col_long = ap length e2 ∙ length_tab k 0 _

    cols_next : matrix rank k (picked k order w) ++ col ≡ matrix (rank + 1) k (picked k order' w₂)
    unfolding picked
    cols_next = matrix_next k rank (picked k order w) (picked k order' w₂) col col_long
        (λ l a hl ha. ap (λ (x : ℕ). ent k w₂ x a) (as_before l hl) ∙ in_used (get_or order l 0) a (p.rows.below l hl) ha (not_before l hl) (p.spent l hl))
        (λ a ha. ap (λ (x : ℕ). ent k w₂ x a) at_last ∙ in_pivot a ha)

    pub grew_more : Grew k rank U order w (rank + 1) (take k (set used J true)) order' w₂
    unfolding grow grown
    grew_more = rw marked (record {
      few = omega arith;
      placed = placed';
      grows = rw (sym e, ne_eqb J k h, sym e1, sym e2) (record { used = refl; rank = refl; cols = cols_next; left = left_same });
    })

take-replicate : {A : Type 0} (k n : ℕ) (x : A) → k ≤ n → take k (replicate n x) ≡ replicate k x
take-replicate zero n x h = refl
take-replicate (suc k) zero x h = absurd (not-suc-le-zero h)
take-replicate (suc k) (suc n) x h = ap (λ (l : List _). x ∷ l) (take-replicate k n x (le_of_suc-le-suc h))

pub held_seed : (k : ℕ) (w : List Float) (order : List ℕ) → k ≤ 8 → Alike k (grow_to k (seed k w) 0) (held_in k (take k (replicate 8 false)) order 0 w)
unfolding grow_to seed tab_from
held_seed k w order h = rw (take-replicate k 8 false h, zero-mul k) (alike_refl k (seed k w))

pub placed_none : (k : ℕ) → k ≤ 8 → Placed k 0 (take k (replicate 8 false)) (replicate 8 0)
placed_none k h = record {
  rows = record { room = refl; below = λ l b. absurd (omega arith); apart = λ l x b c e. absurd (omega arith) };
  marks = length-take-le k (replicate 8 false) h;
  spent = λ l b. absurd (omega arith);
}

pub held_next : (k : ℕ) (g : Growing) (i : ℕ) (used : List Bool) (order : List ℕ) (rank : ℕ) (w : List Float) (used' : List Bool) (order' : List ℕ) (rank' : ℕ) (w' : List Float)
    → Alike k (grow_to k g i) (held_in k used order rank w) → Grew k rank used order w rank' used' order' w' → Alike k (grow_to k g (i + 1)) (held_in k used' order' rank' w')
unfolding grow_to
held_next k g i used order rank w used' order' rank' w' a n =
    rw add-one (alike_trans k (grow k (grow_to k g i)) (grow k (held_in k used order rank w)) (held_in k used' order' rank' w') (unread k (grow_to k g i) (held_in k used order rank w) a) n.grows)

pub held_root : (k i : ℕ) (a : List Float) (used : List Bool) (order : List ℕ) (rank : ℕ) (w out : List Float) → Alike k (grow_to k (seed k a) i) (held_in k used order rank w)
    → i ≤ k → k ≤ i → rect rank k out ≡ matrix rank k (picked k order w) → factor k rank out ≡ pivoted_root k a
unfolding pivoted_root
held_root k i a used order rank w out h p q e =
    let n : i ≡ k = omega arith in
    let g : Alike k (grow_to k (seed k a) k) (held_in k used order rank w) = subst (λ (x : ℕ). Alike k (grow_to k (seed k a) x) (held_in k used order rank w)) n h in
    rw (g.rank, g.cols, e)

-- ---- the rows put into order

module _ (i j : ℕ) where
  pub flip-flip : (x : ℕ) → flip i j (flip i j x) ≡ x
  unfolding flip
  flip-flip x = by_test (eqb x i) refl (eqb x j) refl
    where
      by_test : (s : Bool) → eqb x i ≡ s → (t : Bool) → eqb x j ≡ t → flip i j (cond s j (cond t i x)) ≡ x
      by_test true e t f = last (eqb j i) refl ∙ sym (eqb-true x i e)
        where
          last : (u : Bool) → eqb j i ≡ u → cond u j (cond (eqb j j) i j) ≡ i
          last true g = eqb-true j i g
          last false g = rw (eq-eqb j j refl)
      by_test false e true f = rw (eq-eqb i i refl) (sym (eqb-true x j f))
      by_test false e false f = rw (e, f)

  flip_at : flip i j i ≡ j
  unfolding flip
  flip_at = rw (eq-eqb i i refl)

  flip_below : (k x : ℕ) → i < k → j < k → x < k → flip i j x < k
  unfolding flip
  flip_below k x hi hj hx = by_test (eqb x i) (eqb x j)
    where
      by_test : (s t : Bool) → cond s j (cond t i x) < k
      by_test true t = hj
      by_test false true = hi
      by_test false false = hx

  flip_apart : (x y : ℕ) → flip i j x ≡ flip i j y → x ≡ y
  flip_apart x y e = sym (flip-flip x) ∙ ap (flip i j) e ∙ flip-flip y

module _ (k i j : ℕ) (w x y w₁ w₂ : List Float) (hi : i < k) (hj : j < k) (ex : x ≡ Dense.row k w i) (ey : y ≡ Dense.row k w j)
    (e1 : w₁ ≡ matrix k k (with_row k i y w)) (e2 : w₂ ≡ matrix k k (with_row k j x w₁)) where
  row_entry : (v : List Float) (r c : ℕ) → v ≡ Dense.row k w r → c < k → at v c ≡ ent k w r c
  unfolding Dense.row Dense.row_at
  row_entry v r c e hc = ap (λ (l : List Float). at l c) e ∙ vector_at k c (Dense.row_at k w r) hc

  pub exchange_rows : w₂ ≡ matrix k k (exchanged k i j w)
  unfolding with_row exchanged flip
  exchange_rows = e2 ∙ matrix_cong k k (with_row k j x w₁) (exchanged k i j w) (λ r c hr hc. by_test r c hr hc (eqb r i) refl (eqb r j) refl)
    where
      by_test : (r c : ℕ) → r < k → c < k → (s : Bool) → eqb r i ≡ s → (t : Bool) → eqb r j ≡ t → cond t (at x c) (ent k w₁ r c) ≡ ent k w (cond s j (cond t i r)) c
      by_test r c hr hc true e true f = row_entry x i c ex hc ∙ ap (λ (l : ℕ). ent k w l c) (sym (eqb-true r i e) ∙ eqb-true r j f)
      by_test r c hr hc false e true f = row_entry x i c ex hc
      by_test r c hr hc true e false f = ap (λ (l : List Float). ent k l r c) e1 ∙ matrix_at k k r c (with_row k i y w) hr hc ∙ rw e (row_entry y j c ey hc)
      by_test r c hr hc false e false f = ap (λ (l : List Float). ent k l r c) e1 ∙ matrix_at k k r c (with_row k i y w) hr hc ∙ rw e

-- the first l columns are in place; the others are where the list says
module _ (k n : ℕ) (order₀ : List ℕ) (w₀ : List Float) where
  pub record Arranged (l : ℕ) (order : List ℕ) (w : List Float) : Type 0 where
    pub long : length w ≡ k * k
    pub rows : Rows k n order
    pub done : (x : ℕ) → x < l → x < n → get_or order x 0 ≡ x
    pub same : (x a : ℕ) → x < n → a < k → ent k w (get_or order x 0) a ≡ ent k w₀ (get_or order₀ x 0) a

  pub arranged_none : length w₀ ≡ k * k → Rows k n order₀ → Arranged 0 order₀ w₀
  arranged_none z r = record { long = z; rows = r; done = λ x b c. absurd (omega arith); same = λ x a b c. refl }

  pub arranged_next : (l : ℕ) (order order' : List ℕ) (w w' : List Float) → Arranged l order w → l < n → n ≤ k → w' ≡ matrix k k (exchanged k l (get_or order l 0) w)
      → Renumbered n l (get_or order l 0) order order' → Arranged (l + 1) order' w'
  unfolding exchanged
  arranged_next l order order' w w' a hl hk ew r = record {
    long = ap length ew ∙ length_tab (k * k) 0 _;
    rows = record {
      room = r.room ∙ a.rows.room;
      below = λ x b. subst (λ (y : ℕ). y < k) (sym (r.flipped x b)) (low x b);
      apart = λ x y b c e. a.rows.apart x y b c (flip_apart l j (get_or order x 0) (get_or order y 0) (sym (r.flipped x b) ∙ e ∙ r.flipped y c));
    };
    done = λ x b c. r.flipped x c ∙ ⊎_elim (λ (s : x < l). before x s c) (λ (s : l ≤ x). let o : x ≡ l = omega arith in at_l x o) (lt_or_le x l);
    same = λ x c b d.
        ap (λ (y : ℕ). ent k w' y c) (r.flipped x b) ∙ ap (λ (v : List Float). ent k v (flip l j (get_or order x 0)) c) ew
        ∙ matrix_at k k (flip l j (get_or order x 0)) c (exchanged k l j w) (low x b) d
        ∙ ap (λ (y : ℕ). ent k w y c) (flip-flip l j (get_or order x 0))
        ∙ a.same x c b d;
  }
    where
      j : ℕ
      j = get_or order l 0

      low : (x : ℕ) → x < n → flip l j (get_or order x 0) < k
      low x b = flip_below l j k (get_or order x 0) (omega arith) (a.rows.below l hl) (a.rows.below x b)

      before : (x : ℕ) → x < l → x < n → flip l j (get_or order x 0) ≡ x
      before x s c =
          let d = a.done x s c in
          ap (flip l j) d ∙ sym (flip_third l j x (λ q. omega arith) (λ q. let o : x ≡ l = a.rows.apart x l c hl (d ∙ q) in omega arith))

      at_l : (x : ℕ) → x ≡ l → flip l j (get_or order x 0) ≡ x
      at_l x o = ap (λ (y : ℕ). flip l j (get_or order y 0)) o ∙ here ∙ sym o
        where
          here : flip l j j ≡ l
          here = ap (flip l j) (sym (flip_at l j)) ∙ flip-flip l j l

  pub arranged_end : (l : ℕ) (order : List ℕ) (out : List Float) → Arranged l order (mat k out) → n ≤ l → n ≤ k → rect n k out ≡ matrix n k (picked k order₀ w₀)
  unfolding picked rect
  arranged_end l order out a h hk =
      let few : n * k ≤ length (mat k out) = omega (arith, a.long, mul-le-mul_right k hk) in
      ap (take (n * k)) (sym (take-append-drop (k * k) out)) ∙ take-append-le (n * k) (mat k out) (drop (k * k) out) few
      ∙ rect_by (picked k order₀ w₀) n k (mat k out) few
      (λ x c hx hc. ap (λ (y : ℕ). ent k (mat k out) y c) (sym (a.done x (omega arith) hx)) ∙ a.same x c hx hc)
