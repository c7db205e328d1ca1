-- Where the kernels may read and write, and what the moves leave.
use Rattle.std.specs.Prelude.{ℕ, ◌≤◌, ◌<◌, ◌≡◌, List, length, take}
use Rattle.std.proofs.Common.{ap, ◌∙◌}

-- i and j are a row and a column of a matrix of m by m, at most 8 by 8
pub record Within (m i j : ℕ) : Type 0 where
  pub size : m ≤ 8
  pub row : i < m
  pub col : j < m

-- i and j are a row and a column of a matrix of r rows and c columns, at most 8 by 8
pub record Cell (r c i j : ℕ) : Type 0 where
  pub rows : r ≤ 8
  pub columns : c ≤ 8
  pub row : i < r
  pub column : j < c

-- a product of r rows, k inner places and c columns: each at most 8
pub record Sizes (r k c : ℕ) : Type 0 where
  pub rows : r ≤ 8
  pub inner : k ≤ 8
  pub columns : c ≤ 8

-- and one entry of it
pub record Entry (r k c i j : ℕ) : Type 0 where
  pub sizes : Sizes r k c
  pub row : i < r
  pub column : j < c

-- a part of n places holds the first n of an array, and is as long as it was
pub record Saved {A : Type 0} (n : ℕ) (a out : List A) : Type 0 where
  pub holds : out ≡ take n a
  pub kept : length out ≡ n

-- such a part, of k places
pub saved : {A : Type 0} {n k : ℕ} {a out : List A} → n ≡ k → Saved n a out → out ≡ take k a
saved {a = a} e h = h.holds ∙ ap (λ (i : ℕ). take i a) e
