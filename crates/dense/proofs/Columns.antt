-- M x and P - a b' column by column: from what one column does to the first j, and to all.
use Prim.Native.Nat.{ℕ, ◌+◌, ◌*◌, ◌≤◌, ◌<◌}
use mathlib.Core.Path.{◌≡◌, refl, ap, ◌∙◌}
use mathlib.Core.Bool.{Bool, true, false, cond}
use mathlib.Core.List.{List}
use mathlib.Core.Logic.{⊎_elim}
use native.Mathlib.Omega.{arith}
use native.Mathlib.Numerals.{add-one}
use lib.Dec.{eqb}
use lib.Ieee.{Float}
use lib.ListN.{length, replicate}
use borrow.Author.Tests.{eqb-true, eq-eqb, ne_eqb, lt-ltb, le-ltb}
use Rattle.definition.specs.Num.{0ᶠ, is_zero, tabulate, matrix, at, ent, sum_but}
use Rattle.definition.specs.Dense.{zero_at, mat_vec_at, mat_vec, less_of, outer_sub_at, outer_sub}
use Rattle.laws.specs.Lists.{replicate_tab, vector_at, matrix_at, tab_cong, matrix_cong}
use Rattle.dense.specs.Views.{vec, mat}
use Rattle.dense.specs.Columns.{more_at, more_kept_at, mat_vec_to, less_at, column_less, column_kept, outer_sub_to}
use Rattle.dense.proofs.Laws.{lt_or_le, vec_self, vec-zeros, rect_self}

-- ---- M x

module _ (m : ℕ) (a x : List Float) (j : ℕ) where
  pub more_none : (l : List Float) → m ≤ length l → zero_at x j ≡ true → vec m l ≡ tabulate m (more_kept_at m a x j (vec m l))
  unfolding more_kept_at
  more_none l h z = vec_self m l h ∙ tab_cong m 0 (λ i. at (vec m l) i) (more_kept_at m a x j (vec m l)) (λ i p q. rw z)

  pub more_kept : (o out : List Float) → zero_at x j ≡ false → out ≡ tabulate m (more_at m a x j o) → out ≡ tabulate m (more_kept_at m a x j o)
  unfolding more_kept_at
  more_kept o out z e = e ∙ tab_cong m 0 (more_at m a x j o) (more_kept_at m a x j o) (λ i p q. rw z)

  pub more_next : (o out : List Float) → o ≡ tabulate m (mat_vec_to m a x j) → out ≡ tabulate m (more_kept_at m a x j o) → out ≡ tabulate m (mat_vec_to m a x (j + 1))
  unfolding more_kept_at more_at mat_vec_to sum_but
  more_next o out e h =
      h ∙ tab_cong m 0 (more_kept_at m a x j o) (mat_vec_to m a x (j + 1)) (λ i p q.
      let s : at o i ≡ mat_vec_to m a x j i = ap (λ (l : List Float). at l i) e ∙ vector_at m i (mat_vec_to m a x j) (omega arith) in
      rw (add-one, s))

pub more_start : (m n : ℕ) (a x : List Float) → m ≤ n → vec m (replicate n 0ᶠ) ≡ tabulate m (mat_vec_to m a x 0)
unfolding mat_vec_to sum_but
more_start m n a x h = vec-zeros m n h ∙ replicate_tab m 0 0ᶠ

pub more_all : (m : ℕ) (a x : List Float) {j : ℕ} (out : List Float) → out ≡ tabulate m (mat_vec_to m a x j) → j ≤ m → m ≤ j → out ≡ mat_vec m a x
unfolding mat_vec_to mat_vec mat_vec_at
more_all m a x {j} out e p q = let s : j ≡ m = omega arith in e ∙ ap (λ (k : ℕ). tabulate m (mat_vec_to m a x k)) s

-- ---- P - a b'

zero_less : (x a b : Float) → is_zero b ≡ true → x ≡ less_of x a b
unfolding less_of
zero_less x a b z = rw z

module _ (m : ℕ) (a b : List Float) (j : ℕ) (hj : j < m) where
  pub less_none : (l : List Float) → m * m ≤ length l → zero_at b j ≡ true → mat m l ≡ matrix m m (column_kept m (mat m l) a b j)
  unfolding column_kept outer_sub_at zero_at
  less_none l h z =
      rect_self m m l h
      ∙ matrix_cong m m (λ i k. ent m (mat m l) i k) (column_kept m (mat m l) a b j) (λ i k hi hk. by_test i k (eqb k j) refl)
    where
      by_test : (i k : ℕ) (t : Bool) → eqb k j ≡ t → ent m (mat m l) i k ≡ cond t (less_of (ent m (mat m l) i k) (at a i) (at b k)) (ent m (mat m l) i k)
      by_test i k true e = zero_less (ent m (mat m l) i k) (at a i) (at b k) (ap (λ (n : ℕ). is_zero (at b n)) (eqb-true k j e) ∙ z)
      by_test i k false e = refl

  pub less_kept : (p out : List Float) → zero_at b j ≡ false → out ≡ matrix m m (column_less m p a b j) → out ≡ matrix m m (column_kept m p a b j)
  unfolding column_kept column_less outer_sub_at less_of less_at zero_at
  less_kept p out z e = e ∙ matrix_cong m m (column_less m p a b j) (column_kept m p a b j) (λ i k hi hk. by_test i k (eqb k j) refl)
    where
      by_test : (i k : ℕ) (t : Bool) → eqb k j ≡ t → cond t (less_at m p a b j i) (ent m p i k) ≡ cond t (outer_sub_at m p a b i k) (ent m p i k)
      by_test i k true e = let s = eqb-true k j e in rw (s, z)
      by_test i k false e = refl

  pub less_next : (p q out : List Float) → q ≡ matrix m m (outer_sub_to m p a b j) → out ≡ matrix m m (column_kept m q a b j) → out ≡ matrix m m (outer_sub_to m p a b (j + 1))
  unfolding column_kept outer_sub_to outer_sub_at
  less_next p q out e h =
      h
      ∙ matrix_cong m m (column_kept m q a b j) (outer_sub_to m p a b (j + 1))
      (λ i k hi hk.
      let s : ent m q i k ≡ outer_sub_to m p a b j i k = ap (λ (l : List Float). ent m l i k) e ∙ matrix_at m m i k (outer_sub_to m p a b j) hi hk in
      ⊎_elim
      (λ (u : k < j). rw (ne_eqb k j (λ n. omega arith), s, lt-ltb k j u, lt-ltb k (j + 1) (omega arith)))
      (λ (u : j ≤ k).
      ⊎_elim
      (λ (v : j < k). rw (ne_eqb k j (λ n. omega arith), s, le-ltb k j u, le-ltb k (j + 1) (omega arith)))
      (λ (v : k ≤ j). rw (eq-eqb k j (omega arith), s, le-ltb k j u, lt-ltb k (j + 1) (omega arith)))
      (lt_or_le j k))
      (lt_or_le k j))

pub less_start : (m : ℕ) (l a b : List Float) → m * m ≤ length l → mat m l ≡ matrix m m (outer_sub_to m (mat m l) a b 0)
unfolding outer_sub_to
less_start m l a b h =
    rect_self m m l h
    ∙ matrix_cong m m (λ i k. ent m (mat m l) i k) (outer_sub_to m (mat m l) a b 0) (λ i k hi hk. rw (le-ltb k 0 (omega arith)))

pub less_all : (m : ℕ) (p a b : List Float) {j : ℕ} (out : List Float) → out ≡ matrix m m (outer_sub_to m p a b j) → j ≤ m → m ≤ j → out ≡ outer_sub m p a b
unfolding outer_sub_to outer_sub
less_all m p a b {j} out e u v = e ∙ matrix_cong m m (outer_sub_to m p a b j) (outer_sub_at m p a b) (λ i k hi hk. rw (lt-ltb k j (omega arith)))
