-- Numbers that ran off (document 02, request h): the first period with a non-finite predicted, diffuse or filtered covariance, and separately the
-- first with a non-finite predicted or filtered mean. A report is that period plus 1, or 0 for none. It goes by what is stored; place n is no period.
use Rattle.std.specs.Prelude.{ℕ, zero, suc, Bool, true, false, ◌||◌, List, [], ◌∷◌, map}
use Rattle.definition.specs.Cov.{CovPeriod}
use Rattle.definition.specs.Mean.{MeanPeriod}
use Rattle.definition.specs.Refusals.{not_finite}

-- the first that is true, plus 1, where place k of the list is place t + k; 0 where none is
unfoldable pub first_from : ℕ → List Bool → ℕ
first_from t [] = 0
first_from t (true ∷ l) = suc t
first_from t (false ∷ l) = first_from (suc t) l

unfoldable pub cov_is_off : CovPeriod → Bool
cov_is_off c = not_finite c.pred || not_finite c.pred_inf || not_finite c.filt

unfoldable pub mean_is_off : MeanPeriod → Bool
mean_is_off s = not_finite s.pred || not_finite s.filt

-- of the periods from t on
unfoldable pub cov_report : ℕ → List CovPeriod → ℕ
cov_report t cs = first_from t (map cov_is_off cs)

unfoldable pub mean_report : ℕ → List MeanPeriod → ℕ
mean_report t ss = first_from t (map mean_is_off ss)

-- of a run that goes on: what was told before stays
unfoldable pub told_before : ℕ → ℕ → ℕ
told_before zero new = new
told_before (suc k) new = suc k
