-- The workspace of `pivoted_root`: one matrix that holds what is left and the columns so far. Entries in used rows and columns are never read again
-- (laws Unread), so a column is kept in its pivot's row.
use Rattle.std.specs.Prelude.{ℕ, ◌+◌, ◌≤◌, ◌<◌, ◌≡◌, Bool, true, false, cond, List, eqb, get_or, length, Float}
use Rattle.definition.specs.Num.{ent, at, matrix, ◌⊖◌, ◌⊗◌}
use Rattle.definition.specs.Star.{Growing, left_at, grow}
use Rattle.laws.specs.Unread.{Alike}

-- entry a of column l, in the row of its pivot
unfoldable pub picked : ℕ → List ℕ → List Float → ℕ → ℕ → Float
picked k order w l a = ent k w (get_or order l 0) a

-- what the workspace w holds
abbrev pub held_in : ℕ → List Bool → List ℕ → ℕ → List Float → Growing
held_in k used order rank w = record { left = w; used = used; rank = rank; cols = matrix rank k (picked k order w) }

-- n different rows
pub record Rows (k n : ℕ) (order : List ℕ) : Type 0 where
  pub room : length order ≡ 8
  pub below : (l : ℕ) → l < n → get_or order l 0 < k
  pub apart : (l x : ℕ) → l < n → x < n → get_or order l 0 ≡ get_or order x 0 → l ≡ x

-- the columns are in rows of their own, which are used up
pub record Placed (k rank : ℕ) (used : List Bool) (order : List ℕ) : Type 0 where
  pub rows : Rows k rank order
  pub marks : length used ≡ k
  pub spent : (l : ℕ) → l < rank → get_or used (get_or order l 0) false ≡ true

-- one column more, where there is one: the definition's growth, but for entries that are never read
pub record Grew (k rank : ℕ) (used : List Bool) (order : List ℕ) (w : List Float) (rank' : ℕ) (used' : List Bool) (order' : List ℕ) (w' : List Float)
    : Type 0 where
  pub few : rank' ≤ rank + 1
  pub placed : Placed k rank' used' order'
  pub grows : Alike k (grow k (held_in k used order rank w)) (held_in k used' order' rank' w')

-- what a column leaves of x at (i, j), and of a matrix: a row that is used up stays, since it holds a column
unfoldable pub left_by : List Bool → List Float → Float → ℕ → ℕ → Float
left_by used col x i j = cond (get_or used i false) x (x ⊖ at col i ⊗ at col j)

unfoldable pub left_free : ℕ → List Bool → List Float → List Float → ℕ → ℕ → Float
left_free k used col a i j = cond (get_or used i false) (ent k a i j) (left_at k a col i j)

-- row i becomes x
unfoldable pub with_row : ℕ → ℕ → List Float → List Float → ℕ → ℕ → Float
with_row k i x a r c = cond (eqb r i) (at x c) (ent k a r c)

-- the other of i and j, and any third as it is
unfoldable pub flip : ℕ → ℕ → ℕ → ℕ
flip i j x = cond (eqb x i) j (cond (eqb x j) i x)

-- rows i and j change places
unfoldable pub exchanged : ℕ → ℕ → ℕ → List Float → ℕ → ℕ → Float
exchanged k i j a r c = ent k a (flip i j r) c

-- and their numbers, the first n, go with them
pub record Renumbered (n i j : ℕ) (order order' : List ℕ) : Type 0 where
  pub room : length order' ≡ length order
  pub flipped : (l : ℕ) → l < n → get_or order' l 0 ≡ flip i j (get_or order l 0)
