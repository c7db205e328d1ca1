-- The mean track: what the readings do, once the covariance track has decided. Durbin and Koopman, 5.2 and 6.4; filter_univariate's v, a and loglik.
-- v = y - d - z a;  a + K v with K = M* / F* (usual) or K0 = M∞ / F∞ (diffuse);  the likelihood's term;  a by T and c.
use Rattle.std.specs.Prelude.{ℕ, List, Float}
use Rattle.definition.specs.Num.{◌⊕◌, ◌⊖◌, ◌⊗◌, ◌⊘◌, 0ᶠ, 1ᶠ, half, at}
use Rattle.definition.specs.Dense.{dot, axpy, over, mat_vec, row}
use Rattle.definition.specs.Log.{ln_of, ln_two_pi}
use Rattle.definition.specs.Run.{scan, pairs}
use Rattle.definition.specs.Cov.{Decision, skipped, usual, diffuse}

-- what the means go by of the system
pub record Frame : Type 0 where
  pub m : ℕ
  pub design_at : ℕ → List Float
  pub transition_at : ℕ → List Float

-- the intercepts: c of the states, d of the elements
pub record Shift : Type 0 where
  pub c : List Float
  pub d : List Float

-- the state between periods, and between elements
pub record Mean : Type 0 where
  pub a : List Float
  pub loglik : Float

-- what a period leaves
pub record MeanPeriod : Type 0 where
  pub pred : List Float
  pub vs : List Float
  pub filt : List Float

-- ---- one element, by its row z of the design and its intercept d

-- v, as (reading - d) - z a
unfoldable pub innovation : ℕ → List Float → Float → List Float → Float → Float
innovation m z d a reading = reading ⊖ d ⊖ dot m z a

-- a skipped element's v is +0.0
unfoldable pub v_of : ℕ → List Float → Float → List Float → Float → Decision → Float
v_of m z d a reading (skipped c) = 0ᶠ
v_of m z d a reading (usual f m*) = innovation m z d a reading
v_of m z d a reading (diffuse f f∞ m* m∞) = innovation m z d a reading

-- the likelihood less a half of ln 2π + ln F* + v² / F*, or of ln 2π + ln F∞
unfoldable pub usual_term : Float → Float → Float → Float
usual_term l f v = l ⊖ half ⊗ (ln_two_pi ⊕ ln_of f ⊕ v ⊗ v ⊘ f)

unfoldable pub diffuse_term : Float → Float → Float
diffuse_term l f∞ = l ⊖ half ⊗ (ln_two_pi ⊕ ln_of f∞)

unfoldable pub heed : ℕ → Mean → Float → Decision → Mean
heed m s v (skipped c) = s
heed m s v (usual f m*) = record { a = axpy m s.a v (over m m* f); loglik = usual_term s.loglik f v }
heed m s v (diffuse f f∞ m* m∞) = record { a = axpy m s.a v (over m m∞ f∞); loglik = diffuse_term s.loglik f∞ }

-- element i, by the period's design and all intercepts: its v, and the state after it
unfoldable pub hear : ℕ → List Float → List Float → ℕ → Mean → Decision × Float → Float × Mean
hear m design ds i s e = let v = v_of m (row m design i) (at ds i) s.a e.1 e.0 in (v, heed m s v e.0)

-- ---- one period: its decisions and its readings, then the step by T, and c added

unfoldable pub mean_step : ℕ → List Float → List Float → List Float → List Float
mean_step m tr c a = axpy m (mat_vec m tr a) 1ᶠ c

unfoldable pub mean_ended : ℕ → List Float → List Float → Mean → List Float × Mean → MeanPeriod × Mean
mean_ended m tr c s h =
    (record { pred = s.a; vs = h.0; filt = h.1.a }, record { a = mean_step m tr c h.1.a; loglik = h.1.loglik })

unfoldable pub mean_period_of : ℕ → List Float → List Float → List Float → List Float → Mean → List Decision × List Float → MeanPeriod × Mean
mean_period_of m tr c ds design s e = mean_ended m tr c s (scan (hear m design ds) 0 s (pairs e.0 e.1))

abbrev pub mean_period : Frame → Shift → ℕ → Mean → List Decision × List Float → MeanPeriod × Mean
mean_period y x t s e = mean_period_of y.m (y.transition_at t) x.c x.d (y.design_at t) s e

-- the run over the periods from t on
unfoldable pub mean_run : Frame → Shift → ℕ → Mean → List (List Decision × List Float) → List MeanPeriod × Mean
mean_run y x t s es = scan (mean_period y x) t s es
