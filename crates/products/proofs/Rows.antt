-- A B row by row: from what one row of B adds to the first l, to all, and to the matrix.
use Prim.Native.Nat.{ℕ, ◌+◌, ◌≤◌, ◌<◌}
use mathlib.Core.Path.{◌≡◌, ap, ◌∙◌}
use mathlib.Core.List.{List}
use native.Mathlib.Omega.{arith}
use native.Mathlib.Numerals.{add-one}
use lib.Ieee.{Float}
use lib.ListN.{replicate}
use Rattle.definition.specs.Num.{0ᶠ, tabulate, at, ent, sum_to}
use Rattle.definition.specs.Dense.{product_term, product_at}
use Rattle.laws.specs.Lists.{replicate_tab, vector_at, tab_cong}
use Rattle.dense.specs.Views.{vec}
use Rattle.products.specs.Rows.{row_more_at, row_to}
use Rattle.dense.proofs.Laws.{vec-zeros}

module _ (m : ℕ) (a b : List Float) (i : ℕ) where
  pub rows_start : (n : ℕ) → m ≤ n → vec m (replicate n 0ᶠ) ≡ tabulate m (row_to m a b i 0)
  unfolding row_to sum_to
  rows_start n h = vec-zeros m n h ∙ replicate_tab m 0 0ᶠ

  pub rows_next : (l : ℕ) (x : Float) (o out : List Float) → o ≡ tabulate m (row_to m a b i l) → x ≡ ent m a i l → out ≡ tabulate m (row_more_at m x b l o) → out ≡ tabulate m (row_to m a b i (l + 1))
  unfolding row_more_at row_to sum_to product_term
  rows_next l x o out e ex h =
      h ∙ tab_cong m 0 (row_more_at m x b l o) (row_to m a b i (l + 1)) (λ j p q.
      let s : at o j ≡ row_to m a b i l j = ap (λ (y : List Float). at y j) e ∙ vector_at m j (row_to m a b i l) (omega arith) in
      rw (add-one, s, ex))

  pub rows_all : {l : ℕ} (out : List Float) → out ≡ tabulate m (row_to m a b i l) → l ≤ m → m ≤ l → out ≡ tabulate m (product_at m m a b i)
  unfolding row_to product_at
  rows_all {l} out e p q = let s : l ≡ m = omega arith in e ∙ ap (λ (k : ℕ). tabulate m (row_to m a b i k)) s

  -- an entry of the row
  pub row_entry : (j : ℕ) (r : List Float) {v : Float} → j < m → vec m r ≡ tabulate m (product_at m m a b i) → v ≡ at (vec m r) j → v ≡ product_at m m a b i j
  row_entry j r h e q = q ∙ ap (λ (y : List Float). at y j) e ∙ vector_at m j (product_at m m a b i) h
