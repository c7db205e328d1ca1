-- The second half of demand 3, for the filter's call and the smoother's: a finite reading that a run with news elsewhere judged no news reaches
-- nothing, but that it was heard, and why its record was skipped (`no_news`, `no_news_smooth`).
use Rattle.std.specs.Prelude.{◌≡◌, refl, Bool, T, ltb, replicate, set, Float}
use Rattle.std.proofs.Math.Path.{sym, ap, ap₂, subst}
use Rattle.std.proofs.Common.{◌∙◌, div-add-mod', arith}
use Prim.Native.Nat.{ℕ, suc, ◌+◌, ◌*◌, ◌/◌, ◌%◌, ◌<◌}
use mathlib.Core.List.{List, map}
use Rattle.std.proofs.Math.Bool.{not}
use Rattle.std.proofs.Math.ListN.{length, get_or}
use Rattle.std.proofs.lemmas.List.{length-map}
use Rattle.std.specs.Float.{nan}
use Rattle.definition.specs.Num.{zeros, is_finite}
use Rattle.definition.specs.Run.{join, count, any_of, lay}
use Rattle.definition.specs.Cov.{CovPeriod, atGap}
use Rattle.definition.specs.Mean.{Mean, MeanPeriod}
use Rattle.definition.specs.Smooth.{smooth_mean}
use Rattle.definition.specs.Inputs.{Model, Offsets, Class, gap, class_of, is_gap, is_infinity, frame_of}
use Rattle.definition.specs.Parts.{cause_no}
use Rattle.definition.specs.Outcome.{CovParts, MeanParts, MeanOutcome, SmoothedMean, Counts, Ending, turned, silent, answered, ending_of, ending, no_information, after, counts_in, roomy, roomy_smoothed, kinds_written, kinds_need, mean_ended, smoothed_cov_need, smoothed_mean_need, cov_of, mean_of, counts_of, cov_outcome, mean_outcome, outcome, outcome_at, smoothed_cov, smoothed_mean, smooth_outcome, smooth_outcome_at}
use Rattle.definition.specs.Refusals.{refusal}
use Rattle.definition.specs.Reports.{mean_report}
use Rattle.definition.specs.Carried.{begun_past, begun_mean, cov_from, mean_from}
use Rattle.laws.specs.Lists.{place_lt}
use Rattle.laws.specs.Unseen.{OtherCause}
use Rattle.laws.specs.Kept.{begun}
use Rattle.demands.specs.Unheard.{deaf, same_classes, kinds_long, run_with_gap, gap_deaf, one_less, same_many, same_infinity, informed, within, readings_fit, answered_by, place}
use Rattle.demands.specs.Unheard as unheard
use Rattle.demands.specs.Values.{NoNews, OneLess, one_less_in, Unmoved, UnmovedSmooth}

-- news tells of an answer
news_answers : (f : Ending) (l : Counts) → 0 < (counts_in f l).news → f ≡ answered
unfolding counts_in
news_answers (turned k) l h = absurd (omega arith)
news_answers silent l h = absurd (omega arith)
news_answers answered l h = refl

-- period t, element i, in a call with this much room: what becomes of the outcome's halves, f being the call's ending
module _ (x : Model) (o : Offsets) (y : List Float) (b : CovParts) (room : Bool) (t i : ℕ) (inT : t < x.n) (inI : i < x.p) (h : NoNews y (cov_outcome x (ending x o (map class_of y) room) (map class_of y) b) (t * x.p + i)) where
  ok : ending x o (map class_of y) room ≡ answered
  unfolding cov_outcome
  ok = news_answers (ending x o (map class_of y) room) (counts_of (cov_of x (map class_of y)).0 (map class_of y)) h.news

  real_skip : 2 < get_or (lay (kinds_written (cov_of x (map class_of y))) b.kinds) (t * x.p + i) 0
  unfolding cov_outcome after
  real_skip =
      subst
      (λ (f : Ending). 2 < get_or (after f (kinds_written (cov_of x (map class_of y))) (replicate (kinds_need x) (cause_no atGap)) b.kinds) (t * x.p + i) 0)
      ok
      h.skip

  real_news : 0 < (counts_of (cov_of x (map class_of y)).0 (map class_of y)).news
  unfolding cov_outcome counts_in
  real_news = subst (λ (f : Ending). 0 < (counts_in f (counts_of (cov_of x (map class_of y)).0 (map class_of y))).news) ok h.news

  passed : refusal x o (length (map class_of y)) (any_of is_infinity (map class_of y)) room ≡ 0
  unfolding ending
  passed = (answered_by _ _ ok).0

  fit : length (map class_of y) ≡ x.n * x.p
  fit = readings_fit x o _ _ _ passed

  -- another finite number, or whatever, leaves the mean run; a gap leaves the ending, and the covariance run but for the cause
  means : (v : Float) → mean_of x o (cov_of x (map class_of y)).0 (set y (t * x.p + i) v) ≡ mean_of x o (cov_of x (map class_of y)).0 y
  unfolding cov_of mean_of cov_from mean_from begun_past begun_mean
  means = deaf x o (begun x o) y b.kinds t i inT inI fit h.read real_skip

  classes : (v : Float) → T (is_finite v) → map class_of (set y (t * x.p + i) v) ≡ map class_of y
  unfolding cov_of cov_from begun_past
  classes = same_classes x o (begun x o) y b.kinds t i inT inI fit h.read real_skip

  abbrev muted : List Class
  muted = set (map class_of y) (t * x.p + i) gap

  gap_classes : map class_of (set y (t * x.p + i) nan) ≡ muted
  unfolding cov_of cov_from begun_past
  gap_classes = unheard.gap_classes x o (begun x o) y b.kinds t i inT inI fit h.read real_skip

  muted_run : OtherCause x.p x.m t i atGap (cov_of x (map class_of y)) (cov_of x muted)
  unfolding cov_of cov_from begun_past
  muted_run = run_with_gap x o (begun x o) y b.kinds t i inT inI fit h.read real_skip

  muted_means : (v : Float) → mean_of x o (cov_of x muted).0 (set y (t * x.p + i) v) ≡ mean_of x o (cov_of x (map class_of y)).0 y
  unfolding cov_of mean_of cov_from mean_from begun_past begun_mean
  muted_means = gap_deaf x o (begun x o) y b.kinds t i inT inI fit h.read real_skip

  long : t * x.p + i < length (kinds_written (cov_of x (map class_of y)))
  unfolding cov_of cov_from begun_past
  long = kinds_long x o (begun x o) y b.kinds t i inT inI fit h.read real_skip

  less : suc (count not (map is_gap muted)) ≡ count not (map is_gap (map class_of y))
  unfolding cov_of cov_from begun_past
  less = one_less x o (begun x o) y b.kinds t i inT inI fit h.read real_skip

  -- answered still, as there is news
  still : ending x o muted room ≡ answered
  unfolding ending ending_of no_information counts_of cov_of cov_from begun_past
  still =
      let ks = map class_of y in
      let many = same_many x o (begun x o) y b.kinds t i inT inI fit h.read real_skip in
      let infinity = same_infinity x o (begun x o) y b.kinds t i inT inI fit h.read real_skip in
      let r : refusal x o (length muted) (any_of is_infinity muted) room ≡ 0 = ap₂ (λ (l : ℕ) (q : Bool). refusal x o l q room) many infinity ∙ passed in
      let n : 0 < (counts_of (cov_of x muted).0 muted).news = rw muted_run.news real_news in
      ap₂ ending_of r (informed (ltb 0 (counts_of (cov_of x muted).0 muted).heard) (counts_of (cov_of x muted).0 muted).news n)

  gap_ending : ending x o (map class_of (set y (t * x.p + i) nan)) room ≡ ending x o (map class_of y) room
  gap_ending = ap (λ (ks : List Class). ending x o ks room) gap_classes ∙ still ∙ sym ok

  gap_run : OtherCause x.p x.m t i atGap (cov_of x (map class_of y)) (cov_of x (map class_of (set y (t * x.p + i) nan)))
  gap_run = rw gap_classes muted_run

  gap_means : mean_of x o (cov_of x (map class_of (set y (t * x.p + i) nan))).0 (set y (t * x.p + i) nan) ≡ mean_of x o (cov_of x (map class_of y)).0 y
  gap_means = rw gap_classes (muted_means nan)

  gap_covs : OneLess (cov_outcome x (ending x o (map class_of y) room) (map class_of y) b) (cov_outcome x (ending x o (map class_of (set y (t * x.p + i) nan)) room) (map class_of (set y (t * x.p + i) nan)) b) (t * x.p + i)
  unfolding cov_outcome counts_of
  gap_covs =
      one_less_in x b ok (gap_ending ∙ ok) gap_run long (ap (λ (ks : List Class). suc (count not (map is_gap ks))) gap_classes ∙ less) gap_run.news gap_run.d_diffuse (gap_run.cov_off 0)

-- a place is some element of some period
module _ (x : Model) (o : Offsets) (y : List Float) (b : CovParts) (room : Bool) (k : ℕ) (h : NoNews y (cov_outcome x (ending x o (map class_of y) room) (map class_of y) b) k) where
  in_range : k < x.n * x.p
  unfolding cov_outcome ending
  in_range =
      let e = answered_by _ _ (news_answers (ending x o (map class_of y) room) (counts_of (cov_of x (map class_of y)).0 (map class_of y)) h.news) in
      let n = readings_fit x o (length (map class_of y)) (any_of is_infinity (map class_of y)) room e.0 in
      let l : length y ≡ x.n * x.p = sym (length-map y class_of) ∙ n in
      omega (arith, within y k h.read)

-- ---- the filter's call

module _ (x : Model) (o : Offsets) (y : List Float) (b : CovParts) (b' : MeanParts) where
  at_element : (t i : ℕ) → t < x.n → i < x.p → NoNews y (outcome x o y b b').0 (t * x.p + i) → Unmoved x o y b b' (t * x.p + i)
  unfolding outcome outcome_at mean_outcome
  at_element t i inT inI h =
      let room = roomy x b b' in
      let f = ending x o (map class_of y) room in
      let made : Ending → List MeanPeriod × Mean → MeanOutcome = λ f r. mean_ended x f r (mean_report 0 r.0) b' in
      record {
        place = place_lt x.n x.p t i inT inI;
        number = λ v fv.
            ap (λ (ks : List Class). outcome_at x o ks (set y (t * x.p + i) v) b b') (classes x o y b room t i inT inI h v fv)
            ∙ ap (λ (r : List MeanPeriod × Mean). (cov_outcome x f (map class_of y) b, made f r)) (means x o y b room t i inT inI h v);
        gap_cov = gap_covs x o y b room t i inT inI h;
        gap_mean = ap₂ made (gap_ending x o y b room t i inT inI h) (gap_means x o y b room t i inT inI h);
      }

  pub no_news : (k : ℕ) → NoNews y (outcome x o y b b').0 k → Unmoved x o y b b' k
  unfolding outcome outcome_at
  no_news k h =
      let at-k = place x.n x.p k (in_range x o y b (roomy x b b') k h) in
      subst
      (λ (j : ℕ). NoNews y (outcome x o y b b').0 j → Unmoved x o y b b' j)
      (div-add-mod' k x.p)
      (at_element (k / x.p) (k % x.p) at-k.0 at-k.1)
      h

-- ---- the smoother's call

module _ (x : Model) (o : Offsets) (y : List Float) (b : CovParts) (b' : MeanParts) (sm sc : List Float) where
  at_element_smooth : (t i : ℕ) → t < x.n → i < x.p → NoNews y (smooth_outcome x o y b b' sm sc).0.filter (t * x.p + i) → UnmovedSmooth x o y b b' sm sc (t * x.p + i)
  unfolding smooth_outcome smooth_outcome_at mean_outcome smoothed_cov smoothed_mean
  at_element_smooth t i inT inI h =
      let room = roomy_smoothed x b b' sm sc in
      let f = ending x o (map class_of y) room in
      let with-smoothed : Ending → List MeanPeriod × Mean → List (List Float) → SmoothedMean =
      λ f r l. record { filter = mean_ended x f r (mean_report 0 r.0) b'; smoothed = after f (join l) (zeros (smoothed_mean_need x)) sm } in
      let made : Ending → List CovPeriod → List MeanPeriod × Mean → SmoothedMean = λ f cs r. with-smoothed f r (smooth_mean (frame_of x) cs r.0) in
      let cs = (cov_of x (map class_of y)).0 in
      record {
        place = place_lt x.n x.p t i inT inI;
        number = λ v fv.
            ap (λ (ks : List Class). smooth_outcome_at x o ks (set y (t * x.p + i) v) b b' sm sc) (classes x o y b room t i inT inI h v fv)
            ∙ ap (λ (r : List MeanPeriod × Mean). (record { filter = cov_outcome x f (map class_of y) b; smoothed = smoothed_cov x f (map class_of y) sc }, made f cs r)) (means x o y b room t i inT inI h v);
        gap_cov = gap_covs x o y b room t i inT inI h;
        gap_smoothed =
            ap₂
            (λ (f : Ending) (l : List (List Float)). after f (join l) (zeros (smoothed_cov_need x)) sc)
            (gap_ending x o y b room t i inT inI h)
            ((gap_run x o y b room t i inT inI h).smoothed_cov (frame_of x));
        gap_mean =
            ap₂ (λ (f : Ending) (r : List MeanPeriod × Mean). made f (cov_of x (map class_of (set y (t * x.p + i) nan))).0 r) (gap_ending x o y b room t i inT inI h) (gap_means x o y b room t i inT inI h)
            ∙ ap (λ (l : List (List Float)). with-smoothed f (mean_of x o cs y) l) ((gap_run x o y b room t i inT inI h).smoothed_mean (frame_of x) (mean_of x o cs y).0);
      }

  pub no_news_smooth : (k : ℕ) → NoNews y (smooth_outcome x o y b b' sm sc).0.filter k → UnmovedSmooth x o y b b' sm sc k
  unfolding smooth_outcome smooth_outcome_at
  no_news_smooth k h =
      let at-k = place x.n x.p k (in_range x o y b (roomy_smoothed x b b' sm sc) k h) in
      subst
      (λ (j : ℕ). NoNews y (smooth_outcome x o y b b' sm sc).0.filter j → UnmovedSmooth x o y b b' sm sc j)
      (div-add-mod' k x.p)
      (at_element_smooth (k / x.p) (k % x.p) at-k.0 at-k.1)
      h
