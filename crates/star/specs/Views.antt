-- The star root's values as the definition's, and what is kept of it.
use Rattle.std.specs.Prelude.{ℕ, ◌≤◌, ◌<◌, ◌+◌, ◌≡◌, List, [], ◌∷◌, ◌++◌, take, get_or, length, Float}
use Rattle.definition.specs.Star as def
use Rattle.definition.specs.Num.{matrix}
use Rattle.dense.specs.Views.{rect}
use Rattle.star.specs.declared.Pivot.{Pivot}
use Rattle.star.specs.declared.Support.{Support}
use Rattle.star.specs.declared.StarRoot.{StarRoot}

abbrev pub pivot_of : Pivot → def.Pivot
pivot_of b = record { place = b.place; best = b.best }

-- a factor in an array: r columns of k entries, one after the other
abbrev pub factor : ℕ → ℕ → List Float → def.Root
factor k r cols = record { rank = r; cols = rect r k cols }

-- of the first j states, those on which the design loads
pub record Found (p m j : ℕ) (z : List Float) (s : Support) : Type 0 where
  pub few : s.count ≤ j
  pub count : s.count ≡ length (def.support_to p m z j)
  pub places : take s.count s.places ≡ def.support_to p m z j

-- state j joins the others
pub record Joined (s : Support) (j : ℕ) (t : Support) : Type 0 where
  pub count : t.count ≡ s.count + 1
  pub places : take t.count t.places ≡ take s.count s.places ++ (j ∷ [])

-- the first k places of s are states
pub record States (m k : ℕ) (s : List ℕ) : Type 0 where
  pub states : m ≤ 8
  pub few : k ≤ m
  pub below : (a : ℕ) → a < k → get_or s a 0 < m

-- a root's factor, of k entries a column, and its support
abbrev pub root_on : ℕ → StarRoot → def.Root
root_on k r = factor k r.rank r.cols

abbrev pub places_of : StarRoot → List ℕ
places_of r = take r.support.count r.support.places

abbrev pub cols_of : StarRoot → List Float
cols_of r = rect r.rank r.support.count r.cols

-- S - g w u' in the place of S
pub record Shrunk (g : Float) (u w : List Float) (r s : StarRoot) : Type 0 where
  pub support : s.support ≡ r.support
  pub rank : s.rank ≡ r.rank
  pub cols : rect r.rank r.support.count s.cols ≡ matrix r.rank r.support.count (def.shrunk_at r.support.count g u w (cols_of r))

-- the support are states, and the rank is at most their number
pub record Sound (m : ℕ) (r : StarRoot) : Type 0 where
  pub support : States m r.support.count r.support.places
  pub low : r.rank ≤ r.support.count

-- F at the element (z, h), by the root
unfoldable pub projected_at : StarRoot → List Float → Float → Float
projected_at r z h = def.projected r.support.count (root_on r.support.count r) (def.on r.support.count (places_of r) z) h

-- what Potter's update for the element (z, h) makes of a root
pub record Downdated (z : List Float) (h : Float) (r s : StarRoot) : Type 0 where
  pub support : s.support ≡ r.support
  pub rank : s.rank ≡ r.rank
  pub root : root_on r.support.count s
      ≡ def.downdate r.support.count (root_on r.support.count r) (def.on r.support.count (places_of r) z) h

-- The root is that of the predicted P*, replayed over the elements taken. This is what is kept through a period.
pub record Replayed (p m : ℕ) (z h pre : List Float) (taken : List ℕ) (r : StarRoot) : Type 0 where
  pub sound : Sound m r
  pub count : r.support.count ≡ length (def.support p m z)
  pub places : places_of r ≡ def.support p m z
  pub root : root_on r.support.count r
      ≡ def.replay p m z h (places_of r) r.support.count
      (def.pivoted_root r.support.count (def.sub m r.support.count (places_of r) pre)) taken
