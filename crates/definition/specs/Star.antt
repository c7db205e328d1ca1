-- filter.rs, `pivoted_root` and `StarRoot`: the square-root companion of a period's P*, for the decision on a suspect element alone.
-- A root S, S S' = P*, on the states that the period's design loads on, followed through the period's updates in Potter's form.
-- The Rust builds it at the period's first suspect element and keeps it; here it is built anew and replayed over the elements taken. The bits are
-- the same: each accepted element downdates a kept root just as a replay would, in the same order, and a skipped element touches neither.
-- (The Rust replays the period's usual updates alone; a period in which the root is asked has no others, since a suspect of a diffuse period is
-- accepted without it.)
use Rattle.std.specs.Prelude.{ℕ, zero, suc, ◌+◌, Bool, true, false, not, ◌&&◌, ◌||◌, cond, List, [], ◌∷◌, ◌++◌, length, get_or, set, replicate, eqb, Float}
use Rattle.definition.specs.Num.{◌⊕◌, ◌⊖◌, ◌⊗◌, ◌⊘◌, ◌>ᶠ◌, 0ᶠ, 1ᶠ, is_zero, tabulate, matrix, at, ent, sum_to}
use Rattle.definition.specs.Dense.{dot, row}
use Rattle.definition.specs.Root.{sqrt_of}

-- ---- pivoted_root of a k by k matrix: column after column, each by the largest diagonal entry above 0 that is left, the lowest index on a tie

-- where the largest is, or k for none, and how large
pub record Pivot : Type 0 where
  pub place : ℕ
  pub best : Float

unfoldable pub better : ℕ → List Float → List Bool → ℕ → Pivot → Pivot
better k a used j b = cond (not (get_or used j false) && (ent k a j j >ᶠ b.best)) (record { place = j; best = ent k a j j }) b

unfoldable pub pivot_to : ℕ → List Float → List Bool → ℕ → Pivot
pivot_to k a used zero = record { place = k; best = 0ᶠ }
pivot_to k a used (suc j) = better k a used j (pivot_to k a used j)

-- what is left of the matrix, the places used up, and the columns so far, each of k entries
pub record Growing : Type 0 where
  pub left : List Float
  pub used : List Bool
  pub rank : ℕ
  pub cols : List Float

unfoldable pub column_at : ℕ → List Float → List Bool → ℕ → Float → ℕ → Float
column_at k a used j sd i = cond (get_or used i false) 0ᶠ (ent k a i j ⊘ sd)

unfoldable pub column : ℕ → List Float → List Bool → ℕ → Float → List Float
column k a used j sd = tabulate k (column_at k a used j sd)

unfoldable pub left_at : ℕ → List Float → List Float → ℕ → ℕ → Float
left_at k a col r c = ent k a r c ⊖ at col r ⊗ at col c

unfoldable pub left_of : ℕ → List Float → List Float → List Float
left_of k a col = matrix k k (left_at k a col)

unfoldable pub grown : ℕ → Growing → ℕ → List Float → Growing
grown k g j col = record { left = left_of k g.left col; used = set g.used j true; rank = g.rank + 1; cols = g.cols ++ col }

unfoldable pub grow : ℕ → Growing → Growing
grow k g = let b = pivot_to k g.left g.used k in cond (eqb b.place k) g (grown k g b.place (column k g.left g.used b.place (sqrt_of b.best)))

unfoldable pub grow_to : ℕ → Growing → ℕ → Growing
grow_to k g zero = g
grow_to k g (suc n) = grow k (grow_to k g n)

unfoldable pub seed : ℕ → List Float → Growing
seed k a = record { left = a; used = replicate k false; rank = 0; cols = [] }

-- a root: rank columns of k entries
pub record Root : Type 0 where
  pub rank : ℕ
  pub cols : List Float

unfoldable pub pivoted_root : ℕ → List Float → Root
pivoted_root k a = let g = grow_to k (seed k a) k in record { rank = g.rank; cols = g.cols }

-- ---- the support: the states at which some row of the design is not 0, rows of gaps and of skipped elements included

unfoldable pub loads : ℕ → List Float → ℕ → ℕ → Bool
loads m z j zero = false
loads m z j (suc i) = loads m z j i || not (is_zero (ent m z i j))

unfoldable pub support_to : ℕ → ℕ → List Float → ℕ → List ℕ
support_to p m z zero = []
support_to p m z (suc j) = let rest = support_to p m z j in cond (loads m z j p) (rest ++ (j ∷ [])) rest

abbrev pub support : ℕ → ℕ → List Float → List ℕ
support p m z = support_to p m z m

-- a vector and a matrix on places s, k of them
unfoldable pub on_at : List ℕ → List Float → ℕ → Float
on_at s x a = at x (get_or s a 0)

unfoldable pub on : ℕ → List ℕ → List Float → List Float
on k s x = tabulate k (on_at s x)

unfoldable pub sub_at : ℕ → List ℕ → List Float → ℕ → ℕ → Float
sub_at m s p a b = ent m p (get_or s a 0) (get_or s b 0)

unfoldable pub sub : ℕ → ℕ → List ℕ → List Float → List Float
sub m k s p = matrix k k (sub_at m s p)

-- ---- project: u = S' z and F = u' u + h. downdate: S (I - g u u') with g = 1 / (F + √(h F)), and S itself where F is NaN or not above 0

unfoldable pub u_term : ℕ → List Float → List Float → ℕ → ℕ → Float
u_term k cols z l a = ent k cols l a ⊗ at z a

unfoldable pub u_at : ℕ → List Float → List Float → ℕ → Float
u_at k cols z l = sum_to k (u_term k cols z l)

unfoldable pub u_of : ℕ → Root → List Float → List Float
u_of k s z = tabulate s.rank (u_at k s.cols z)

unfoldable pub f_of : ℕ → List Float → Float → Float
f_of rank u h = dot rank u u ⊕ h

unfoldable pub projected : ℕ → Root → List Float → Float → Float
projected k s z h = f_of s.rank (u_of k s z) h

unfoldable pub w_term : ℕ → List Float → List Float → ℕ → ℕ → Float
w_term k cols u a l = ent k cols l a ⊗ at u l

unfoldable pub w_at : ℕ → ℕ → List Float → List Float → ℕ → Float
w_at k rank cols u a = sum_to rank (w_term k cols u a)

unfoldable pub w_of : ℕ → Root → List Float → List Float
w_of k s u = tabulate k (w_at k s.rank s.cols u)

unfoldable pub shrunk_at : ℕ → Float → List Float → List Float → List Float → ℕ → ℕ → Float
shrunk_at k g u w cols l a = ent k cols l a ⊖ g ⊗ at w a ⊗ at u l

unfoldable pub shrunk : ℕ → Float → List Float → List Float → Root → Root
shrunk k g u w s = record { rank = s.rank; cols = matrix s.rank k (shrunk_at k g u w s.cols) }

unfoldable pub downdate : ℕ → Root → List Float → Float → Root
downdate k s z h =
    let u = u_of k s z in
    let f = f_of s.rank u h in
    let made = shrunk k (1ᶠ ⊘ (f ⊕ sqrt_of (h ⊗ f))) u (w_of k s u) s in
    cond (f >ᶠ 0ᶠ) made s

-- the root of the predicted P* on the support, replayed over the elements taken
module _ (p m : ℕ) (z h : List Float) (s : List ℕ) (k : ℕ) where
  unfoldable pub replay : Root → List ℕ → Root
  replay r [] = r
  replay r (i ∷ is) = replay (downdate k r (on k s (row m z i)) (ent p h i i)) is

unfoldable pub again_on : ℕ → ℕ → List Float → List Float → List Float → ℕ → List ℕ → List ℕ → ℕ → Float
again_on p m z h pre i taken s k = projected k (replay p m z h s k (pivoted_root k (sub m k s pre)) taken) (on k s (row m z i)) (ent p h i i)

-- the root's F at element i, after the elements taken
unfoldable pub again_of : ℕ → ℕ → List Float → List Float → List Float → ℕ → List ℕ → Float
again_of p m z h pre i taken = let s = support p m z in again_on p m z h pre i taken s (length s)
