-- A call's whole outcome: the answer, and every lent part afterwards, tails included. It has two halves; the covariance half is worked out from
-- the readings' classes alone. The smoother's call is the filter's with two outputs more.
use Rattle.std.specs.Prelude.{ℕ, zero, suc, ◌+◌, ◌*◌, Bool, true, false, not, ◌&&◌, List, ◌++◌, map, length, replicate, leb, ltb, eqb, Float}
use Rattle.definition.specs.Num.{0ᶠ, zeros}
use Rattle.definition.specs.Run.{any_of, count, chunks, join, pairs, lay}
use Rattle.definition.specs.Cov.{Cov, atGap, Decision, CovPeriod, cov_run}
use Rattle.definition.specs.Mean.{Mean, MeanPeriod, mean_run}
use Rattle.definition.specs.Smooth.{smooth_cov, smooth_mean}
use Rattle.definition.specs.Parts.{CovPart, predCov, pred_inf, filtCov, fStar, fInf, mStar, mInf, MeanPart, predMean, filtMean, innovations, kind_block, cov_block, mean_block, cause_no, is_news}
use Rattle.definition.specs.Inputs.{Model, Offsets, Class, class_of, is_gap, is_infinity, system_of, frame_of, start_of, gap_rows}
use Rattle.definition.specs.Refusals.{refusal}
use Rattle.definition.specs.Reports.{cov_report, mean_report}

-- ---- the lent outputs

pub record CovParts : Type 0 where
  pub kinds : List ℕ
  pub part : CovPart → List Float

abbrev pub MeanParts : Type 0
MeanParts = MeanPart → List Float

-- how long each has to be: n + 1 periods for the predicted moments, n for the rest
module _ (x : Model) where
  unfoldable pub kinds_need : ℕ
  kinds_need = x.n * x.p

  unfoldable pub cov_need : CovPart → ℕ
  cov_need predCov = x.n * (x.m * x.m) + x.m * x.m
  cov_need pred_inf = x.n * (x.m * x.m) + x.m * x.m
  cov_need filtCov = x.n * (x.m * x.m)
  cov_need fStar = x.n * x.p
  cov_need fInf = x.n * x.p
  cov_need mStar = x.n * (x.p * x.m)
  cov_need mInf = x.n * (x.p * x.m)

  unfoldable pub mean_need : MeanPart → ℕ
  mean_need predMean = x.n * x.m + x.m
  mean_need filtMean = x.n * x.m
  mean_need innovations = x.n * x.p

  unfoldable pub smoothed_cov_need : ℕ
  smoothed_cov_need = x.n * (x.m * x.m)

  unfoldable pub smoothed_mean_need : ℕ
  smoothed_mean_need = x.n * x.m

  unfoldable pub roomy : CovParts → MeanParts → Bool
  roomy b b' =
      let c : CovPart → Bool = λ q. leb (cov_need q) (length (b.part q)) in
      let s : MeanPart → Bool = λ q. leb (mean_need q) (length (b' q)) in
      leb kinds_need (length b.kinds) && c predCov && c pred_inf && c filtCov && c fStar && c fInf && c mStar && c mInf
      && s predMean && s filtMean && s innovations

  unfoldable pub roomy_smoothed : CovParts → MeanParts → List Float → List Float → Bool
  roomy_smoothed b b' sm sc = roomy b b' && leb smoothed_cov_need (length sc) && leb smoothed_mean_need (length sm)

-- ---- what a run writes, by part: the periods' blocks, and for the predicted moments place n

unfoldable pub kinds_written : List CovPeriod × Cov → List ℕ
kinds_written r = join (map kind_block r.0)

unfoldable pub cov_written : ℕ → List CovPeriod × Cov → CovPart → List Float
cov_written m r predCov = join (map (cov_block m predCov) r.0) ++ r.1.star
cov_written m r pred_inf = join (map (cov_block m pred_inf) r.0) ++ r.1.pinf
cov_written m r filtCov = join (map (cov_block m filtCov) r.0)
cov_written m r fStar = join (map (cov_block m fStar) r.0)
cov_written m r fInf = join (map (cov_block m fInf) r.0)
cov_written m r mStar = join (map (cov_block m mStar) r.0)
cov_written m r mInf = join (map (cov_block m mInf) r.0)

unfoldable pub mean_written : List MeanPeriod × Mean → MeanPart → List Float
mean_written r predMean = join (map (mean_block predMean) r.0) ++ r.1.a
mean_written r filtMean = join (map (mean_block filtMean) r.0)
mean_written r innovations = join (map (mean_block innovations) r.0)

-- ---- the run

abbrev pub decisions_of : List CovPeriod → List (List Decision)
decisions_of cs = map (λ c. c.decisions) cs

unfoldable pub cov_of : Model → List Class → List CovPeriod × Cov
cov_of x ks = cov_run (system_of x) 0 (start_of x) (gap_rows x.n x.p ks)

unfoldable pub mean_of : Model → Offsets → List CovPeriod → List Float → List MeanPeriod × Mean
mean_of x o cs y =
    mean_run (frame_of x) (record { c = o.c; d = o.d }) 0 (record { a = o.a1; loglik = 0ᶠ }) (pairs (decisions_of cs) (chunks x.n x.p y))

-- ---- the counts: diffuse periods; readings that are not NaN; records that are usual or diffuse

pub record Counts : Type 0 where
  pub d_diffuse : ℕ
  pub heard : ℕ
  pub news : ℕ

unfoldable pub counts_of : List CovPeriod → List Class → Counts
counts_of cs ks =
    record { d_diffuse = count (λ c. c.diffuse) cs; heard = count not (map is_gap ks); news = count is_news (join (decisions_of cs)) }

-- 12 NoInformation
unfoldable pub no_information : Counts → Bool
no_information l = ltb 0 l.heard && eqb l.news 0

-- ---- what becomes of a call: turned away by a refusal before the run, silent by refusal 12, or answered

pub data Ending : Type 0 where
  turned : ℕ → Ending
  silent answered : Ending

unfoldable pub ending_of : ℕ → Bool → Ending
ending_of zero true = silent
ending_of zero false = answered
ending_of (suc k) b = turned (suc k)

-- the refusal's number; 0 for an answer
unfoldable pub number_of : Ending → ℕ
number_of (turned k) = k
number_of silent = 12
number_of answered = 0

-- a lent part afterwards: w is what the run writes, blank what refusal 12 writes, old what was lent
unfoldable pub after : {A : Type 0} → Ending → List A → List A → List A → List A
after (turned k) w blank old = old
after silent w blank old = lay blank old
after answered w blank old = lay w old

-- a refusal carries its number alone
unfoldable pub counts_in : Ending → Counts → Counts
counts_in (turned k) l = record { d_diffuse = 0; heard = 0; news = 0 }
counts_in silent l = record { d_diffuse = 0; heard = 0; news = 0 }
counts_in answered l = l

unfoldable pub loglik_in : Ending → Float → Float
loglik_in (turned k) l = 0ᶠ
loglik_in silent l = 0ᶠ
loglik_in answered l = l

unfoldable pub report_in : Ending → ℕ → ℕ
report_in (turned k) t = 0
report_in silent t = 0
report_in answered t = t

-- ---- the outcome, in its halves

pub record CovOutcome : Type 0 where
  pub refused : ℕ
  pub counts : Counts
  pub cov_off : ℕ
  pub parts : CovParts

pub record MeanOutcome : Type 0 where
  pub loglik : Float
  pub mean_off : ℕ
  pub parts : MeanParts

module _ (x : Model) where
  unfoldable pub ending : Offsets → List Class → Bool → Ending
  ending o ks room =
      ending_of (refusal x o (length ks) (any_of is_infinity ks) room) (no_information (counts_of (cov_of x ks).0 ks))

  -- of a run r, of the counts l and of the report t
  abbrev pub cov_ended : Ending → List CovPeriod × Cov → Counts → ℕ → CovParts → CovOutcome
  cov_ended f r l t b =
      record {
        refused = number_of f;
        counts = counts_in f l;
        cov_off = report_in f t;
        parts =
            record {
              kinds = after f (kinds_written r) (replicate (kinds_need x) (cause_no atGap)) b.kinds;
              part = λ q. after f (cov_written x.m r q) (zeros (cov_need x q)) (b.part q);
            };
      }

  abbrev pub mean_ended : Ending → List MeanPeriod × Mean → ℕ → MeanParts → MeanOutcome
  mean_ended f r t b =
      record {
        loglik = loglik_in f r.1.loglik;
        mean_off = report_in f t;
        parts = λ q. after f (mean_written r q) (zeros (mean_need x q)) (b q);
      }

  unfoldable pub cov_outcome : Ending → List Class → CovParts → CovOutcome
  cov_outcome f ks b = let r = cov_of x ks in cov_ended f r (counts_of r.0 ks) (cov_report 0 r.0) b

  unfoldable pub mean_outcome : Ending → Offsets → List Class → List Float → MeanParts → MeanOutcome
  mean_outcome f o ks y b = let r = mean_of x o (cov_of x ks).0 y in mean_ended f r (mean_report 0 r.0) b

  -- the filter's call
  unfoldable pub outcome_at : Offsets → List Class → List Float → CovParts → MeanParts → CovOutcome × MeanOutcome
  outcome_at o ks y b b' = let f = ending o ks (roomy x b b') in (cov_outcome f ks b, mean_outcome f o ks y b')

  unfoldable pub outcome : Offsets → List Float → CovParts → MeanParts → CovOutcome × MeanOutcome
  outcome o y b b' = outcome_at o (map class_of y) y b b'

-- ---- the smoother's call: the same, with the smoothed covariances and means

pub record SmoothedCov : Type 0 where
  pub filter : CovOutcome
  pub smoothed : List Float

pub record SmoothedMean : Type 0 where
  pub filter : MeanOutcome
  pub smoothed : List Float

module _ (x : Model) where
  unfoldable pub smoothed_cov : Ending → List Class → List Float → List Float
  smoothed_cov f ks sc = after f (join (smooth_cov (frame_of x) (cov_of x ks).0)) (zeros (smoothed_cov_need x)) sc

  unfoldable pub smoothed_mean : Ending → Offsets → List Class → List Float → List Float → List Float
  smoothed_mean f o ks y sm =
      let cs = (cov_of x ks).0 in
      after f (join (smooth_mean (frame_of x) cs (mean_of x o cs y).0)) (zeros (smoothed_mean_need x)) sm

  unfoldable pub smooth_outcome_at : Offsets → List Class → List Float → CovParts → MeanParts → List Float → List Float → SmoothedCov × SmoothedMean
  smooth_outcome_at o ks y b b' sm sc =
      let f = ending x o ks (roomy_smoothed x b b' sm sc) in (
        record { filter = cov_outcome x f ks b; smoothed = smoothed_cov f ks sc },
        record { filter = mean_outcome x f o ks y b'; smoothed = smoothed_mean f o ks y sm },
      )

  unfoldable pub smooth_outcome : Offsets → List Float → CovParts → MeanParts → List Float → List Float → SmoothedCov × SmoothedMean
  smooth_outcome o y b b' sm sc = smooth_outcome_at o (map class_of y) y b b' sm sc
