-- Demand 3 of document 00, for the filter's call and the smoother's: a finite reading's value reaches no refusal, covariance, decision, variance, gain
-- or count, nor the report on the covariances (`values`, `values_smooth`); and a finite reading that a run with news elsewhere judged no news reaches
-- nothing, but that it was heard, and why its record was skipped: `Unmoved`, `UnmovedSmooth`, and the theorems of proofs/Values.antt.
use Rattle.std.specs.Prelude.{◌≡◌, refl, ◌⊎◌, T, set, Float}
use Rattle.std.proofs.Math.Path.{sym, ap}
use Rattle.std.proofs.Common.{◌∙◌, ⊎_elim, ext_get_or}
use Prim.Native.Nat.{ℕ, suc, ◌+◌, ◌*◌, ◌<◌}
use mathlib.Core.List.{List, map}
use Rattle.std.proofs.Math.ListN.{length, get_or, get_or-map}
use Rattle.std.proofs.lemmas.List.{length-map}
use Rattle.std.specs.Float.{nan}
use Rattle.definition.specs.Num.{is_finite, at}
use Rattle.definition.specs.Run.{lay}
use Rattle.definition.specs.Cov.{Cov, CovPeriod, atGap}
use Rattle.definition.specs.Inputs.{Model, Offsets, gap, class_of}
use Rattle.definition.specs.Parts.{CovPart, predCov, pred_inf, filtCov, fStar, fInf, mStar, mInf, cause_no}
use Rattle.definition.specs.Outcome.{CovParts, MeanParts, CovOutcome, SmoothedCov, Counts, Ending, answered, after, counts_in, report_in, number_of, kinds_written, cov_ended, outcome, smooth_outcome}
use Rattle.definition.specs.Tracks.{finite_class, by_classes, smooth_by_classes}
use Rattle.laws.specs.Lists.{lay-set}
use Rattle.laws.specs.Unseen.{OtherCause}

-- ---- the first half

-- the readings of two calls that differ only in the values of finite readings
pub record Alike (y y' : List Float) : Type 0 where
  pub many : length y ≡ length y'
  pub each : (k : ℕ) → k < length y → (at y k ≡ at y' k) ⊎ (T (is_finite (at y k)) × T (is_finite (at y' k)))

-- the refusal, the counts, the report on the covariances, each accept or skip, all covariances, each variance in the records, the gain vectors
pub record Same (c c' : CovOutcome) : Type 0 where
  pub refusals : c.refused ≡ c'.refused
  pub counts : c.counts ≡ c'.counts
  pub cov_off : c.cov_off ≡ c'.cov_off
  pub kinds : c.parts.kinds ≡ c'.parts.kinds
  pub predicted : c.parts.part predCov ≡ c'.parts.part predCov
  pub predicted_diffuse : c.parts.part pred_inf ≡ c'.parts.part pred_inf
  pub filtered : c.parts.part filtCov ≡ c'.parts.part filtCov
  pub f_stars : c.parts.part fStar ≡ c'.parts.part fStar
  pub f_infs : c.parts.part fInf ≡ c'.parts.part fInf
  pub m_stars : c.parts.part mStar ≡ c'.parts.part mStar
  pub m_infs : c.parts.part mInf ≡ c'.parts.part mInf

all_same : (c c' : CovOutcome) → c ≡ c' → Same c c'
all_same c c' e =
    record {
      refusals = ap (λ (c : CovOutcome). c.refused) e;
      counts = ap (λ (c : CovOutcome). c.counts) e;
      cov_off = ap (λ (c : CovOutcome). c.cov_off) e;
      kinds = ap (λ (c : CovOutcome). c.parts.kinds) e;
      predicted = ap (λ (c : CovOutcome). c.parts.part predCov) e;
      predicted_diffuse = ap (λ (c : CovOutcome). c.parts.part pred_inf) e;
      filtered = ap (λ (c : CovOutcome). c.parts.part filtCov) e;
      f_stars = ap (λ (c : CovOutcome). c.parts.part fStar) e;
      f_infs = ap (λ (c : CovOutcome). c.parts.part fInf) e;
      m_stars = ap (λ (c : CovOutcome). c.parts.part mStar) e;
      m_infs = ap (λ (c : CovOutcome). c.parts.part mInf) e;
    }

pub alike_classes : (y y' : List Float) → Alike y y' → map class_of y ≡ map class_of y'
unfolding class_of
alike_classes y y' l =
    ext_get_or
    gap
    (map class_of y)
    (map class_of y')
    (length-map y class_of ∙ l.many ∙ sym (length-map y' class_of))
    (λ k h.
    get_or-map class_of y k nan
    ∙ ⊎_elim (λ e. ap class_of e) (λ e. finite_class (at y k) e.0 ∙ sym (finite_class (at y' k) e.1)) (l.each k (rw length-map at h))
    ∙ sym (get_or-map class_of y' k nan))

module _ (x : Model) (o : Offsets) (y y' : List Float) (alike : Alike y y') (b : CovParts) (b' : MeanParts) where
  pub values : Same (outcome x o y b b').0 (outcome x o y' b b').0
  values = all_same _ _ (by_classes x o y y' (alike_classes y y' alike) b b')

  -- and with them the smoothed covariances
  pub values_smooth : (sm sc : List Float)
      → Same (smooth_outcome x o y b b' sm sc).0.filter (smooth_outcome x o y' b b' sm sc).0.filter
      × ((smooth_outcome x o y b b' sm sc).0.smoothed ≡ (smooth_outcome x o y' b b' sm sc).0.smoothed)
  values_smooth sm sc =
      let e = smooth_by_classes x o y y' (alike_classes y y' alike) b b' sm sc in (all_same _ _ (ap (λ (c : SmoothedCov). c.filter) e), ap (λ (c : SmoothedCov). c.smoothed) e)

-- ---- the second half

-- a run that found news somewhere judged the finite reading at place k of y no news: its record, in the lent kinds, is 3, 4 or 5
pub record NoNews (y : List Float) (c : CovOutcome) (k : ℕ) : Type 0 where
  pub read : T (is_finite (at y k))
  pub news : 0 < c.counts.news
  pub skip : 2 < get_or c.parts.kinds k 0

-- the second is the first but for the count of readings heard, which is one less, and the cause in the record at place k, which is gap
pub record OneLess (c c' : CovOutcome) (k : ℕ) : Type 0 where
  pub heard : suc c'.counts.heard ≡ c.counts.heard
  pub news : c'.counts.news ≡ c.counts.news
  pub d_diffuse : c'.counts.d_diffuse ≡ c.counts.d_diffuse
  pub cov_off : c'.cov_off ≡ c.cov_off
  pub refusals : c'.refused ≡ c.refused
  pub kinds : c'.parts.kinds ≡ set c.parts.kinds k (cause_no atGap)
  pub covs : (q : CovPart) → c'.parts.part q ≡ c.parts.part q

-- of two answered runs, r and r': the counts l and l', the reports u and u'
pub one_less_in : (x : Model) (b : CovParts) {t i u u' : ℕ} {f f' : Ending} {r r' : List CovPeriod × Cov} {l l' : Counts} → f ≡ answered → f' ≡ answered
    → OtherCause x.p x.m t i atGap r r' → t * x.p + i < length (kinds_written r) → suc l'.heard ≡ l.heard → l'.news ≡ l.news → l'.d_diffuse ≡ l.d_diffuse → u' ≡ u
    → OneLess (cov_ended x f r l u b) (cov_ended x f' r' l' u' b) (t * x.p + i)
unfolding number_of counts_in report_in after
one_less_in x b {t} {i} {r = r} e e' g long heard news d_diffuse cov_off =
    rw (e, e') (record {
      heard = heard;
      news = news;
      d_diffuse = d_diffuse;
      cov_off = cov_off;
      refusals = refl;
      kinds = ap (λ (w : List ℕ). lay w b.kinds) g.kinds ∙ lay-set (kinds_written r) b.kinds (t * x.p + i) (cause_no atGap) long;
      covs = λ q. ap (λ (w : List Float). lay w (b.part q)) (g.parts q);
    })

-- ---- the filter's call

pub record Unmoved (x : Model) (o : Offsets) (y : List Float) (b : CovParts) (b' : MeanParts) (k : ℕ) : Type 0 where
  pub place : k < x.n * x.p
  -- another finite number at place k changes nothing
  pub number : (v : Float) → T (is_finite v) → outcome x o (set y k v) b b' ≡ outcome x o y b b'
  -- a gap there changes only the count of readings heard and the cause in its record
  pub gap_cov : OneLess (outcome x o y b b').0 (outcome x o (set y k nan) b b').0 k
  pub gap_mean : (outcome x o (set y k nan) b b').1 ≡ (outcome x o y b b').1

-- ---- the smoother's call

pub record UnmovedSmooth (x : Model) (o : Offsets) (y : List Float) (b : CovParts) (b' : MeanParts) (sm sc : List Float) (k : ℕ) : Type 0 where
  pub place : k < x.n * x.p
  pub number : (v : Float) → T (is_finite v) → smooth_outcome x o (set y k v) b b' sm sc ≡ smooth_outcome x o y b b' sm sc
  pub gap_cov : OneLess (smooth_outcome x o y b b' sm sc).0.filter (smooth_outcome x o (set y k nan) b b' sm sc).0.filter k
  pub gap_smoothed : (smooth_outcome x o (set y k nan) b b' sm sc).0.smoothed ≡ (smooth_outcome x o y b b' sm sc).0.smoothed
  pub gap_mean : (smooth_outcome x o (set y k nan) b b' sm sc).1 ≡ (smooth_outcome x o y b b' sm sc).1
