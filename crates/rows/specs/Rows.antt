-- What is shown of a period: eight numbers. (What became of its checks is shown by their kinds, as the library leaves them.) docs/PANEL.md, "What it
-- prints", and docs/DECISIONS.md 62. The library's parts are flat: of a period two kinds, three means (offset, rate, radio), and a covariance of 3 by 3,
-- so nine places, of which 0 is the offset's and 4 the rate's.
use Rattle.std.specs.Prelude.{ℕ, ◌+◌, ◌*◌, Bool, false, cond, not, ◌&&◌, List, [], ◌∷◌, ◌++◌, pos, ◌==◌, is_nan, slice_index, slice_index_or, Float}
use Rattle.std.specs.Float.{inf, binary64}
use Rattle.std.specs.Float.Ieee.{of_int}
use Rattle.definition.specs.Num.{◌⊗◌, ◌>ᶠ◌, 0ᶠ, rank_tol, is_zero, max0, sum_to}
use Rattle.definition.specs.Root.{sqrt_of}
use Rattle.rows.specs.declared.Estimate.{Estimate}
use Rattle.rows.specs.declared.Estimate.TheVariants.{Filtered, Smoothed}

-- ---- a place of a list, 0 past its end
abbrev pub byte_at : List ℕ → ℕ → ℕ
byte_at s i = slice_index s i

abbrev pub num_at : List Float → ℕ → Float
num_at s i = slice_index_or s i 0ᶠ

-- seconds from the first period to period t, rounded
abbrev pub time_of : (t period : ℕ) → Float
time_of t period = of_int binary64 (pos t) ⊗ of_int binary64 (pos period)

-- ---- what has no bound

-- P∞ at the start of period k is diffuse, by the library's test: its squares sum to more than 1e-10
abbrev pub square_at : (pinf : List Float) (k i : ℕ) → Float
square_at pinf k i = num_at pinf (9 * k + i) ⊗ num_at pinf (9 * k + i)

unfoldable pub open_of : (pinf : List Float) (k : ℕ) → Bool
open_of pinf k = sum_to 9 (square_at pinf k) >ᶠ rank_tol

-- the offset after period t: none of its checks was first news, and P∞ at its start is diffuse with an entry for the offset
unfoldable pub offset_open_of : (pinf : List Float) (kinds : List ℕ) (t : ℕ) → Bool
offset_open_of pinf kinds t = not (byte_at kinds (2 * t) == 2) && (not (byte_at kinds (2 * t + 1) == 2) && (open_of pinf t && not (is_zero (num_at pinf (9 * t)))))

-- the rate at the start of period k, and with it the rate after period k - 1, of which the step keeps some: P∞ is diffuse with an entry for the rate
unfoldable pub rate_open_of : (pinf : List Float) (k : ℕ) → Bool
rate_open_of pinf k = open_of pinf k && not (is_zero (num_at pinf (9 * k + 4)))

-- ---- a standard deviation: infinite where there is no bound; none of a variance that is no number; a variance below 0 counts as 0
unfoldable pub deviation_of : (variance : Float) (unbounded : Bool) → Float
deviation_of variance unbounded = cond unbounded (inf false) (cond (is_nan variance) variance (sqrt_of (max0 variance)))

-- ---- the numbers of a period

-- the offset, its deviation, the rate, its deviation
unfoldable pub half_of : (means covs : List Float) (t : ℕ) (offset-open rate-open : Bool) → List Float
half_of means covs t offset-open rate-open =
    num_at means (3 * t) ∷ deviation_of (num_at covs (9 * t)) offset-open ∷ num_at means (3 * t + 1) ∷ deviation_of (num_at covs (9 * t + 4)) rate-open ∷ []

-- the filtered four and the smoothed four, of a run of n periods. With hindsight the offset stays open where the run's end is diffuse too, and the rate
-- where the end leaves it open.
unfoldable pub numbers_of : (n : ℕ) (pinf : List Float) (kinds : List ℕ) (filt_mean filt_cov sm_mean sm_cov : List Float) (t : ℕ) → List Float
numbers_of n pinf kinds filt_mean filt_cov sm_mean sm_cov t =
    half_of filt_mean filt_cov t (offset_open_of pinf kinds t) (rate_open_of pinf (t + 1)) ++ half_of sm_mean sm_cov t (offset_open_of pinf kinds t && open_of pinf n) (rate_open_of pinf n)

-- the first number of an estimate
abbrev pub first_of : Estimate → ℕ
first_of Filtered = 0
first_of Smoothed = 4

-- number c of period t
abbrev pub number_of : (n : ℕ) (pinf : List Float) (kinds : List ℕ) (filt_mean filt_cov sm_mean sm_cov : List Float) (t c : ℕ) → Float
number_of n pinf kinds filt_mean filt_cov sm_mean sm_cov t c = num_at (numbers_of n pinf kinds filt_mean filt_cov sm_mean sm_cov t) c
