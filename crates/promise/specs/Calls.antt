-- What the filter's call, the smoother's and a stretch's promise: the answer and every lent part afterwards, tails included, by the definition's outcome.
use Rattle.std.specs.Prelude.{◌≡◌, ℕ, List, Float, Result, Ok, Err, IfOk}
use Rattle.definition.specs.Parts.{CovPart, MeanPart}
use Rattle.definition.specs.Outcome.{CovParts, MeanParts, Counts, CovOutcome, MeanOutcome, SmoothedCov, SmoothedMean, outcome, smooth_outcome}
use Rattle.definition.specs.Stretch.{StretchOutcome, stretch_outcome}
use Rattle.promise.specs.Lent.{Given, Lent, LentSmooth, GivenStretch, LentStretch}
use Rattle.promise.specs.declared.Answer.{Answer}
use Rattle.promise.specs.declared.Refusal.{Refusal}
use Rattle.promise.specs.Refusals.{number}

-- from the counts, the report on the covariances, the log-likelihood and the report on the means
abbrev pub answer_in : Counts → ℕ → Float → ℕ → Answer
answer_in k t l u = record { loglik = l; d_diffuse = k.d_diffuse; heard = k.heard; news = k.news; cov_off = t; mean_off = u }

-- what a call comes back with
abbrev pub Outcome : Type 0
Outcome = Result Answer Refusal

-- the refusal's number, 0 for an answer; and of checks, 0 where none refuses
abbrev pub refusal_of : {A : Type 0} → Result A Refusal → ℕ
refusal_of (Ok a) = 0
refusal_of (Err e) = number e

-- u is the definition's outcome; r the call's answer, b and b' the parts afterwards
pub record Promise (u : CovOutcome × MeanOutcome) (r : Outcome) (b : CovParts) (b' : MeanParts) : Type 0 where
  pub refusal : refusal_of r ≡ u.0.refused
  pub answer : IfOk r (λ a. a ≡ answer_in u.0.counts u.0.cov_off u.1.loglik u.1.mean_off)
  pub kinds : b.kinds ≡ u.0.parts.kinds
  pub cov : (q : CovPart) → b.part q ≡ u.0.parts.part q
  pub mean : (q : MeanPart) → b' q ≡ u.1.parts q

-- the same, and the two smoothed parts
pub record PromiseSmooth (u : SmoothedCov × SmoothedMean) (r : Outcome) (b : CovParts) (b' : MeanParts) (sm sc : List Float) : Type 0 where
  pub filter : Promise (u.0.filter, u.1.filter) r b b'
  pub mean : sm ≡ u.1.smoothed
  pub cov : sc ≡ u.0.smoothed

-- the same, and the part to save in
pub record PromiseStretch (u : StretchOutcome) (r : Outcome) (b : CovParts) (b' : MeanParts) (kept : List ℕ) : Type 0 where
  pub filter : Promise (u.cov, u.mean) r b b'
  pub save : kept ≡ u.save

-- ---- the calls' promises: x is what the call is given, w what it is lent, r its answer, b what is lent afterwards

abbrev pub Filtered : Given → Lent → Outcome → Lent → Type 0
Filtered x w r b = Promise (outcome x.model x.offsets x.readings w.cov w.mean) r b.cov b.mean

abbrev pub Smoothed : Given → LentSmooth → Outcome → LentSmooth → Type 0
Smoothed x w r b =
    PromiseSmooth (smooth_outcome x.model x.offsets x.readings w.filter.cov w.filter.mean w.mean w.cov) r
    b.filter.cov b.filter.mean b.mean b.cov

abbrev pub Stretched : GivenStretch → LentStretch → Outcome → LentStretch → Type 0
Stretched x w r b =
    PromiseStretch
    (stretch_outcome x.filter.model x.filter.offsets x.from x.last x.filter.readings w.filter.cov w.filter.mean w.save) r
    b.filter.cov b.filter.mean b.save
