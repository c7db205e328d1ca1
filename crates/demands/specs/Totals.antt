-- The counts of an answered call, the filter's or the smoother's: heard is the number of readings that are not NaN, news the number of records that are
-- usual or diffuse, and d_diffuse the number of diffuse periods, which are the first ones. And the kinds in its records.
use Rattle.std.specs.Prelude.{◌≡◌, refl, ℕ, zero, suc, ◌+◌, ◌*◌, ◌≤◌, ◌<◌, Bool, true, false, not, ◌&&◌, length, get_or, replicate, Float}
use Rattle.std.proofs.Math.Path.{sym, ap, subst}
use Rattle.std.proofs.Common.{ap₂, ◌∙◌, le_refl, arith}
use mathlib.Core.List.{List, [], ◌∷◌, map}
use Rattle.std.proofs.Math.Dec.{ltb}
use Rattle.std.proofs.lemmas.List.{get_or-replicate}
use Rattle.std.specs.Float.{nan}
use Rattle.std.specs.Float.Ieee.{is_nan}
use Rattle.definition.specs.Num.{◌⊕◌, ◌⊗◌, ◌>ᶠ◌, 0ᶠ, rank_tol, zeros, sum_from}
use Rattle.definition.specs.Dense.{sq_term, sq_to, frob_sq}
use Rattle.definition.specs.Run.{scan, count, lay}
use Rattle.definition.specs.Cov.{System, Cov, CovPeriod, atGap, is_live, entered, ended, period_of, period, cov_run}
use Rattle.definition.specs.Inputs.{Model, Offsets, class_of, system_of, start_of, gap_rows, system_from}
use Rattle.definition.specs.Parts.{cause_no}
use Rattle.definition.specs.Outcome.{CovParts, MeanParts, CovOutcome, Counts, Ending, answered, ending, after, counts_in, kinds_need, kinds_written, cov_of, counts_of, roomy, roomy_smoothed, cov_outcome, outcome, outcome_at, smooth_outcome, smooth_outcome_at}
use Rattle.definition.specs.Computed.{opened}
use Rattle.definition.proofs.Tracks.{heard_is}
use Rattle.definition.specs.Carried.{begun_past, cov_from}
use Rattle.laws.specs.Lists.{length-chunks, place_lt}
use Rattle.laws.specs.All.{AllOf}
use Rattle.laws.specs.Shapes.{first_ones, period_first}
use Rattle.laws.specs.Kinds.{of_kind}
use Rattle.demands.specs.Unheard.{answered_by, zero_answers, readings_fit, no_period}
use Rattle.demands.specs.Recorded.{records, Recorded, by_run, news_told}

-- the periods of a call's run, as the covariance track leaves them: each says whether it is diffuse
abbrev pub periods_of : Model → List Float → List CovPeriod
periods_of x y = (cov_of x (map class_of y)).0

pub record Totals (x : Model) (y : List Float) (c : CovOutcome) : Type 0 where
  pub heard : c.counts.heard ≡ count (λ (v : Float). not (is_nan v)) y
  pub news : c.counts.news ≡ of_kind 1 (records x c.parts.kinds) + of_kind 2 (records x c.parts.kinds)
  pub recorded : Recorded x y c.parts.kinds
  pub d_diffuse : c.counts.d_diffuse ≡ count (λ (c : CovPeriod). c.diffuse) (periods_of x y)
  -- period t is diffuse exactly when t is below that count
  pub firsts : (t : ℕ) → t < x.n → (get_or (periods_of x y) t no_period).diffuse ≡ ltb t c.counts.d_diffuse
  -- and exactly when the diffuse covariance that is stored for it has a sum of squares above 1e-10
  pub shown : AllOf (λ (c : CovPeriod). c.diffuse ≡ (frob_sq x.m c.pred_inf >ᶠ rank_tol)) (periods_of x y)

-- ---- a period that is not diffuse stores zeros, whose sum of squares is 0

zero_plus : 0ᶠ ⊕ 0ᶠ ≡ 0ᶠ
unfolding opened
zero_plus = refl

zero_times : 0ᶠ ⊗ 0ᶠ ≡ 0ᶠ
unfolding opened
zero_times = refl

zero_low : (0ᶠ >ᶠ rank_tol) ≡ false
unfolding opened
zero_low = refl

zero_sum : (f : ℕ → Float) (k : ℕ) → ((i : ℕ) → i < k → f i ≡ 0ᶠ) → sum_from 0ᶠ k f ≡ 0ᶠ
unfolding sum_from
zero_sum f zero h = refl
zero_sum f (suc k) h = ap₂ ◌⊕◌ (zero_sum f k (λ i l. h i (omega arith))) (h k (omega arith)) ∙ zero_plus

sq_zeros : (m k : ℕ) → k ≤ m → sq_to m (zeros (m * m)) k ≡ 0ᶠ
unfolding sq_to sq_term
sq_zeros m zero l = refl
sq_zeros m (suc k) l =
    ap (λ (s : Float). sum_from s m (sq_term m (zeros (m * m)) k)) (sq_zeros m k (omega arith))
    ∙ zero_sum
    (sq_term m (zeros (m * m)) k)
    m
    (λ i h. let e = get_or-replicate (m * m) (i * m + k) 0ᶠ nan (place_lt m m i k h l) in ap₂ ◌⊗◌ e e ∙ zero_times)

washed : (m : ℕ) → (frob_sq m (zeros (m * m)) >ᶠ rank_tol) ≡ false
unfolding frob_sq
washed m = ap (λ (s : Float). s >ᶠ rank_tol) (sq_zeros m m (le_refl m)) ∙ zero_low

stored : (m : ℕ) (live q : Bool) (pinf : List Float) → (frob_sq m pinf >ᶠ rank_tol) ≡ q → (live && q) ≡ (frob_sq m (entered m (live && q) pinf) >ᶠ rank_tol)
unfolding entered
stored m true true pinf e = sym e
stored m true false pinf e = sym (washed m)
stored m false q pinf e = sym (washed m)

period_shown : (y : System) (t : ℕ) (c : Cov) (gaps : List Bool)
    → (period y t c gaps).0.diffuse ≡ (frob_sq y.m (period y t c gaps).0.pred_inf >ᶠ rank_tol)
unfolding period_of ended is_live
period_shown y t c gaps = stored y.m c.live (frob_sq y.m c.pinf >ᶠ rank_tol) c.pinf refl

all_shown : (y : System) (gs : List (List Bool)) (t : ℕ) (c : Cov)
    → AllOf (λ (c : CovPeriod). c.diffuse ≡ (frob_sq y.m c.pred_inf >ᶠ rank_tol)) (scan (period y) t c gs).0
unfolding scan
all_shown y [] t c = tt
all_shown y (g ∷ gs) t c = (period_shown y t c g, all_shown y gs (suc t) (period y t c g).1)

-- ---- the counts

module _ (x : Model) (o : Offsets) (y : List Float) (b : CovParts) (room : Bool) (ok : ending x o (map class_of y) room ≡ answered) where
  fit : length (map class_of y) ≡ x.n * x.p
  unfolding ending
  fit = readings_fit x o _ _ _ (answered_by _ _ ok).0

  counted : counts_in (ending x o (map class_of y) room) (counts_of (periods_of x y) (map class_of y)) ≡ counts_of (periods_of x y) (map class_of y)
  unfolding counts_in
  counted = ap (λ (f : Ending). counts_in f (counts_of (periods_of x y) (map class_of y))) ok

  run_recorded : Recorded x y (lay (kinds_written (cov_of x (map class_of y))) b.kinds)
  unfolding cov_of cov_from begun_past
  run_recorded = by_run x (begun_past x) y b.kinds fit

  news_is : let ks = lay (kinds_written (cov_of x (map class_of y))) b.kinds in (counts_of (periods_of x y) (map class_of y)).news ≡ of_kind 1 (records x ks) + of_kind 2 (records x ks)
  unfolding counts_of cov_of cov_from begun_past
  news_is = news_told x (begun_past x) y b.kinds fit

  kinds_are : (cov_outcome x (ending x o (map class_of y) room) (map class_of y) b).parts.kinds ≡ lay (kinds_written (cov_of x (map class_of y))) b.kinds
  unfolding cov_outcome after
  kinds_are = ap (λ (f : Ending). after f (kinds_written (cov_of x (map class_of y))) (replicate (kinds_need x) (cause_no atGap)) b.kinds) ok

  rows : length (gap_rows x.n x.p (map class_of y)) ≡ x.n
  unfolding gap_rows
  rows = length-chunks x.n x.p _

  diffuse_first : (t : ℕ) → t < x.n → ltb t (counts_of (periods_of x y) (map class_of y)).d_diffuse ≡ (get_or (periods_of x y) t no_period).diffuse
  unfolding counts_of cov_of cov_run
  diffuse_first t h =
      first_ones (period (system_of x)) (period_first (system_of x)) no_period (gap_rows x.n x.p (map class_of y)) 0 (start_of x) t (rw rows h)

  run_shown : AllOf (λ (c : CovPeriod). c.diffuse ≡ (frob_sq x.m c.pred_inf >ᶠ rank_tol)) (periods_of x y)
  unfolding cov_of cov_run system_of system_from
  run_shown = all_shown (system_of x) (gap_rows x.n x.p (map class_of y)) 0 (start_of x)

  total : Totals x y (cov_outcome x (ending x o (map class_of y) room) (map class_of y) b)
  unfolding cov_outcome counts_of
  total =
      record {
        heard = ap (λ (l : Counts). l.heard) counted ∙ heard_is (periods_of x y) y;
        news = ap (λ (l : Counts). l.news) counted ∙ news_is ∙ ap (λ (ks : List ℕ). of_kind 1 (records x ks) + of_kind 2 (records x ks)) (sym kinds_are);
        recorded = subst (Recorded x y) (sym kinds_are) run_recorded;
        d_diffuse = ap (λ (l : Counts). l.d_diffuse) counted;
        shown = run_shown;
        firsts = λ t h. sym (diffuse_first t h) ∙ ap (λ (l : Counts). ltb t l.d_diffuse) (sym counted);
      }

module _ (x : Model) (o : Offsets) (y : List Float) (b : CovParts) (b' : MeanParts) where
  pub totals : (outcome x o y b b').0.refused ≡ 0 → Totals x y (outcome x o y b b').0
  unfolding outcome outcome_at cov_outcome ending
  totals e = total x o y b (roomy x b b') (zero_answers _ _ e)

  pub totals_smooth : (sm sc : List Float) → (smooth_outcome x o y b b' sm sc).0.filter.refused ≡ 0 → Totals x y (smooth_outcome x o y b b' sm sc).0.filter
  unfolding smooth_outcome smooth_outcome_at cov_outcome ending
  totals_smooth sm sc e = total x o y b (roomy_smoothed x b b' sm sc) (zero_answers _ _ e)
