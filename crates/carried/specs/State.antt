-- The state that a run carries from one stretch of periods to the next, lent as one list: the mean, P*, P∞, its root, P∞ with nothing resolved. What lies
-- behind them stays. An empty list: the run begins at the start, and its state is not kept.
use Rattle.std.specs.Prelude.{◌≡◌, ℕ, ◌+◌, ◌-◌, ◌*◌, ◌≤◌, Bool, cond, List, ◌++◌, length, take, drop, eqb, Float}
use borrow.Rule.Slice.PartMut.{put_mid}
use Rattle.definition.specs.Cov.{Cov}
use Rattle.definition.specs.Inputs.{start_from}

pub record StateFits (m size : ℕ) : Type 0 where
  pub m8 : m ≤ 8
  pub whole : (size ≡ 0 → ⊥) → m + m * m + m * m + m * m + m * m ≤ size

-- ---- the covariance track's part of it

abbrev pub cov_in : ℕ → List Float → Bool → Cov
cov_in m s live =
    record {
      star = take (m * m) (drop m s);
      pinf = take (m * m) (drop (m + m * m) s);
      root = take (m * m) (drop (m + m * m + m * m) s);
      unres = take (m * m) (drop (m + m * m + m * m + m * m) s);
      live = live;
    }

-- where a pass begins, and what it leaves of the lent state s
unfoldable pub cov_from : ℕ → List Float → Bool → List Float → List ℕ → Cov
cov_from m s live p_star flags = cond (eqb (length s) 0) (start_from m p_star flags) (cov_in m s live)

unfoldable pub cov_laid : ℕ → List Float → List Float → List Float → List Float → List Float → List Float
cov_laid m s star pinf root unres = cond (eqb (length s) 0) s (((((take m s ++ star) ++ pinf) ++ root) ++ unres) ++ drop (m + m * m + m * m + m * m + m * m) s)

abbrev pub cov_kept : ℕ → List Float → Cov → List Float
cov_kept m s c = cov_laid m s c.star c.pinf c.root c.unres

-- ---- the mean track's part of it

unfoldable pub mean_from : ℕ → List Float → List Float → List Float
mean_from m s a1 = cond (eqb (length s) 0) a1 (take m s)

unfoldable pub mean_kept : ℕ → List Float → List Float → List Float
mean_kept m s a = cond (eqb (length s) 0) s (a ++ drop m s)

-- ---- k numbers of an array, written from a place on

pub record Written (from k : ℕ) (a old new : List Float) : Type 0 where
  pub is : new ≡ put_mid from (from + k - from) old (take k a)
  pub long : length (take k a) ≡ k
