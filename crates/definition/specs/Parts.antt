-- The lent outputs by name, and what a period leaves in its block of each. Records are flat: kind, v, F*, F∞, M*, M∞ per element
-- (document 01, "Sizes and lent parts": kind 1 usual, 2 diffuse; unused numbers and gain vectors are +0.0). A skip is told by its cause (document 02,
-- request a): 0 at a gap, 3 too small against its scale, 4 below the dust line, 5 failed on replay.
use Rattle.std.specs.Prelude.{ℕ, Bool, true, false, List, map, Float}
use Rattle.definition.specs.Num.{0ᶠ, zeros}
use Rattle.definition.specs.Run.{join}
use Rattle.definition.specs.Cov.{Cause, atGap, tooSmall, belowDust, failedReplay, Decision, skipped, usual, diffuse, CovPeriod}
use Rattle.definition.specs.Mean.{MeanPeriod}

-- the parts that only the covariances reach (besides the kinds), and those that the means reach
pub data CovPart : Type 0 where
  predCov pred_inf filtCov fStar fInf mStar mInf : CovPart

pub data MeanPart : Type 0 where
  predMean filtMean innovations : MeanPart

abbrev pub cause_no : Cause → ℕ
cause_no atGap = 0
cause_no tooSmall = 3
cause_no belowDust = 4
cause_no failedReplay = 5

abbrev pub kind_no : Decision → ℕ
kind_no (skipped c) = cause_no c
kind_no (usual f m*) = 1
kind_no (diffuse f f∞ m* m∞) = 2

-- news: a record that is not skipped
abbrev pub is_news : Decision → Bool
is_news (skipped c) = false
is_news (usual f m*) = true
is_news (diffuse f f∞ m* m∞) = true

abbrev pub f_star_of : Decision → Float
f_star_of (skipped c) = 0ᶠ
f_star_of (usual f m*) = f
f_star_of (diffuse f f∞ m* m∞) = f

abbrev pub f_inf_of : Decision → Float
f_inf_of (skipped c) = 0ᶠ
f_inf_of (usual f m*) = 0ᶠ
f_inf_of (diffuse f f∞ m* m∞) = f∞

abbrev pub m_star_of : ℕ → Decision → List Float
m_star_of m (skipped c) = zeros m
m_star_of m (usual f m*) = m*
m_star_of m (diffuse f f∞ m* m∞) = m*

abbrev pub m_inf_of : ℕ → Decision → List Float
m_inf_of m (skipped c) = zeros m
m_inf_of m (usual f m*) = zeros m
m_inf_of m (diffuse f f∞ m* m∞) = m∞

unfoldable pub kind_block : CovPeriod → List ℕ
kind_block c = map kind_no c.decisions

unfoldable pub cov_block : ℕ → CovPart → CovPeriod → List Float
cov_block m predCov c = c.pred
cov_block m pred_inf c = c.pred_inf
cov_block m filtCov c = c.filt
cov_block m fStar c = map f_star_of c.decisions
cov_block m fInf c = map f_inf_of c.decisions
cov_block m mStar c = join (map (m_star_of m) c.decisions)
cov_block m mInf c = join (map (m_inf_of m) c.decisions)

unfoldable pub mean_block : MeanPart → MeanPeriod → List Float
mean_block predMean s = s.pred
mean_block filtMean s = s.filt
mean_block innovations s = s.vs
