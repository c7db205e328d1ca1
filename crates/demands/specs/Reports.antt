-- The reports of an answered call, by the lent parts as they stand afterwards: a caller who looks through the predicted, diffuse and filtered covariances
-- of the periods, or through their predicted and filtered means, finds what the report says. In a stretch what was told before stays. A refused call's
-- are 0 (`no_reports`).
use Rattle.std.specs.Prelude.{◌≡◌, ℕ, ◌*◌, Bool, cond, List, map, Float}
use Rattle.std.proofs.Math.Path.{refl, ap, subst}
use Rattle.std.proofs.Common.{sym}
use Rattle.std.proofs.Math.Bool.{true, false}
use Rattle.std.proofs.Math.ListN.{length}
use Rattle.definition.specs.Num.{tabulate}
use Rattle.definition.specs.Run.{chunks, pairs, lay}
use Rattle.definition.specs.Cov.{Cov, CovPeriod}
use Rattle.definition.specs.Mean.{Mean, MeanPeriod}
use Rattle.definition.specs.Inputs.{Model, Offsets, class_of, system_of, system_from, frame_of, frame_from, gap_rows, start_of, start_from, start_inf}
use Rattle.definition.specs.Parts.{predCov, pred_inf, filtCov, predMean, filtMean}
use Rattle.definition.specs.Reports.{first_from, cov_report, mean_report, told_before}
use Rattle.definition.specs.Outcome.{CovParts, MeanParts, CovOutcome, MeanOutcome, Ending, turned, silent, answered, number_of, ending, after, report_in, decisions_of, cov_written, mean_written, cov_of, mean_of, cov_outcome, mean_outcome, roomy, roomy_smoothed, outcome, outcome_at, smooth_outcome, smooth_outcome_at}
use Rattle.definition.specs.Carried.{Carried, begun_past, begun_mean, cov_from, mean_from, past_on, mean_on, mean_off_on}
use Rattle.definition.specs.Stretch.{From, past_in, mean_in, mean_told_in, carried_in, stretch_ending, cov_stretch, mean_stretch, stretch_outcome}
use Rattle.laws.specs.Lists.{length_tab}
use Rattle.laws.specs.Accepted.{InputsFit, inputs_fit_lem, accepted, lengths_pass}
use Rattle.laws.specs.Shapes.{Sized, run_length}
use Rattle.laws.specs.Kept.{begun, means_length}
use Rattle.laws.specs.SavedBack.{loaded, loaded_kept}
use Rattle.laws.specs.AcceptedStretch.{passes}
use Rattle.laws.specs.Told.{off_at, cov_names, mean_names}
use Rattle.demands.specs.Unheard.{answered_by, zero_answers}

-- of each period: a number in its covariances, or in its means, is not finite
abbrev pub cov_seen : Model → CovParts → List Bool
cov_seen x b = tabulate x.n (off_at (x.m * x.m) (b.part predCov) (b.part pred_inf) (b.part filtCov))

abbrev pub mean_seen : Model → MeanParts → List Bool
mean_seen x b = tabulate x.n (off_at x.m (b predMean) (b filtMean) (b filtMean))

-- after t periods, of which k and l were told
pub record Reports (x : Model) (t k l : ℕ) (c : CovOutcome) (s : MeanOutcome) : Type 0 where
  pub cov : c.cov_off ≡ told_before k (first_from t (cov_seen x c.parts))
  pub mean : s.mean_off ≡ told_before l (first_from t (mean_seen x s.parts))

-- ---- a run from a state of the right sizes, written over the parts that were lent

module _ (x : Model) (o : Offsets) (s : Carried) (sized : Sized x.m s.past.cov) (long : length s.mean.a ≡ x.m) (y : List Float) (b : CovParts) (b' : MeanParts) where
  abbrev cov_r : List CovPeriod × Cov
  cov_r = cov_from x s.past (map class_of y)

  abbrev mean_r : List MeanPeriod × Mean
  mean_r = mean_on x o s y

  covs_named : (t : ℕ) → cov_report t cov_r.0 ≡ first_from t (cov_seen x (record { kinds = b.kinds; part = λ q. lay (cov_written x.m cov_r q) (b.part q) }))
  unfolding cov_from system_of system_from
  covs_named t =
      cov_names (system_of x) s.past.done s.past.cov (gap_rows x.n x.p (map class_of y)) sized x.n (run_length (system_of x) s.past.done s.past.cov (map class_of y) x.n x.p)
      (b.part predCov) _ (b.part pred_inf) _ (b.part filtCov) _ refl refl refl t

  means_named : (t : ℕ) → mean_report t mean_r.0 ≡ first_from t (mean_seen x (λ q. lay (mean_written mean_r q) (b' q)))
  unfolding mean_on mean_from frame_of frame_from
  means_named t =
      mean_names (frame_of x) (record { c = o.c; d = o.d }) s.past.done s.mean (pairs (decisions_of cov_r.0) (chunks x.n x.p y)) long x.n (means_length x o s y)
      (b' predMean) _ (b' filtMean) _ refl refl t

-- ---- the filter's call and the smoother's, which end the same ways

start_sized : (x : Model) (o : Offsets) → InputsFit x o → Sized x.m (begun_past x).cov
unfolding begun_past start_of start_from start_inf
start_sized x o f = record { star = f.p_star; pinf = length_tab (x.m * x.m) 0 _ }

module _ (x : Model) (o : Offsets) (y : List Float) (b : CovParts) (b' : MeanParts) (room : Bool) where
  abbrev f : Ending
  f = ending x o (map class_of y) room

  from_start : InputsFit x o → Reports x 0 0 0 (cov_outcome x answered (map class_of y) b) (mean_outcome x answered o (map class_of y) y b')
  unfolding cov_outcome mean_outcome report_in after told_before cov_of cov_from mean_of mean_from mean_on begun_past begun_mean
  from_start fit = record { cov = covs_named x o (begun x o) (start_sized x o fit) fit.a1 y b b' 0; mean = means_named x o (begun x o) (start_sized x o fit) fit.a1 y b b' 0 }

  reported : number_of f ≡ 0 → Reports x 0 0 0 (cov_outcome x f (map class_of y) b) (mean_outcome x f o (map class_of y) y b')
  unfolding ending
  reported e =
      let ok = zero_answers _ _ e in
      let fit = (accepted x o _ _ _ (answered_by _ _ ok).0).inputs in
      subst (λ (f : Ending). Reports x 0 0 0 (cov_outcome x f (map class_of y) b) (mean_outcome x f o (map class_of y) y b')) (sym ok) (from_start fit)

pub reports : (x : Model) (o : Offsets) (y : List Float) (b : CovParts) (b' : MeanParts) → (outcome x o y b b').0.refused ≡ 0 → Reports x 0 0 0 (outcome x o y b b').0 (outcome x o y b b').1
unfolding outcome outcome_at cov_outcome
reports x o y b b' e = reported x o y b b' (roomy x b b') e

pub reports_smooth : (x : Model) (o : Offsets) (y : List Float) (b : CovParts) (b' : MeanParts) (sm sc : List Float) → (smooth_outcome x o y b b' sm sc).0.filter.refused ≡ 0
    → Reports x 0 0 0 (smooth_outcome x o y b b' sm sc).0.filter (smooth_outcome x o y b b' sm sc).1.filter
unfolding smooth_outcome smooth_outcome_at cov_outcome
reports_smooth x o y b b' sm sc e = reported x o y b b' (roomy_smoothed x b b' sm sc) e

-- ---- a stretch's

module _ (x : Model) (o : Offsets) (w : From) (last : Bool) (y : List Float) (b : CovParts) (b' : MeanParts) (save : List ℕ) where
  in_sized : InputsFit x o → Sized x.m (past_in x w).cov
  unfolding past_in
  in_sized fit = by w.begins
    where
      by : (t : Bool) → Sized x.m (cond t (begun_past x) (loaded x.m w.saved).past).cov
      by true = start_sized x o fit
      by false = let k = (loaded_kept x.m w.saved).cov in record { star = k.star.long; pinf = k.pinf.long }

  in_long : InputsFit x o → length (mean_in x o w).a ≡ x.m
  unfolding mean_in begun_mean
  in_long fit = by w.begins
    where
      by : (t : Bool) → length (cond t (begun_mean o) (loaded x.m w.saved).mean).a ≡ x.m
      by true = fit.a1
      by false = (loaded_kept x.m w.saved).mean.a.long

  from_there : InputsFit x o → Reports x (past_in x w).done (past_in x w).cov_off (mean_told_in x w) (cov_stretch x answered (past_in x w) (map class_of y) b) (mean_stretch x answered o (carried_in x o w) y b')
  unfolding cov_stretch mean_stretch report_in after past_on mean_off_on
  from_there fit =
      let s = carried_in x o w in
      record {
        cov = ap (told_before s.past.cov_off) (covs_named x o s (in_sized fit) (in_long fit) y b b' s.past.done);
        mean = ap (told_before s.mean_off) (means_named x o s (in_sized fit) (in_long fit) y b b' s.past.done);
      }

  pub reports_stretch : (stretch_outcome x o w last y b b' save).cov.refused ≡ 0 → Reports x (past_in x w).done (past_in x w).cov_off (mean_told_in x w) (stretch_outcome x o w last y b b' save).cov (stretch_outcome x o w last y b b' save).mean
  unfolding stretch_outcome stretch_ending cov_stretch
  reports_stretch e =
      let ok = zero_answers _ _ e in
      let fit = inputs_fit_lem x o (lengths_pass x o _ _ (passes x o _ _ _ _ _ (answered_by _ _ ok).0).lengths).0 in
      let s = carried_in x o w in
      subst (λ (f : Ending). Reports x s.past.done s.past.cov_off s.mean_off (cov_stretch x f s.past (map class_of y) b) (mean_stretch x f o s y b')) (sym ok) (from_there fit)

-- ---- a refused call's

pub no_reports : (f : Ending) (t : ℕ) → (f ≡ answered → ⊥) → report_in f t ≡ 0
unfolding report_in
no_reports (turned k) t h = refl
no_reports silent t h = refl
no_reports answered t h = absurd (h refl)
