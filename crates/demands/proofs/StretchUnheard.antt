-- Demand 3 of a stretch, the second half: a finite reading that was judged no news, where there was news elsewhere or the stretch is not the last.
-- Another finite number in its place changes nothing, not the saved bytes either; a gap there changes only the count of readings heard, in the answer
-- and in what is saved, and the cause in its record (`no_news`, `gap_saved`).
use Rattle.std.specs.Prelude.{◌≡◌, refl, ◌⊎◌, ℕ, ◌+◌, ◌*◌, ◌/◌, ◌%◌, ◌<◌, Bool, true, false, ◌&&◌, cond, T, ltb, eqb, length, replicate, take, Float}
use Rattle.std.proofs.Math.Path.{sym, ap, ap₂, subst}
use Rattle.std.proofs.Common.{◌∙◌, add-suc, div-add-mod', arith}
use Rattle.std.proofs.Math.Logic.{inl, inr, ⊎_elim}
use mathlib.Core.List.{List, [], map}
use Rattle.std.proofs.Math.ListN.{get_or, set}
use Rattle.std.proofs.lemmas.List.{length-map}
use Rattle.std.specs.Float.Ieee.{nan}
use Rattle.definition.specs.Num.{is_finite, at}
use Rattle.definition.specs.Run.{any_of, lay}
use Rattle.definition.specs.Cov.{atGap}
use Rattle.definition.specs.Mean.{Mean, MeanPeriod}
use Rattle.definition.specs.Inputs.{Model, Offsets, Class, gap, class_of, is_infinity}
use Rattle.definition.specs.Parts.{cause_no}
use Rattle.definition.specs.Reports.{mean_report, told_before}
use Rattle.definition.specs.Outcome.{CovParts, MeanParts, CovOutcome, MeanOutcome, Ending, answered, ending_of, after, counts_in, counts_of, no_information, kinds_need, kinds_written, mean_ended}
use Rattle.definition.specs.Carried.{Carried, cov_from, mean_from, plus, past_on, mean_on, mean_off_on, went}
use Rattle.definition.specs.Saved.{saved_of, saved_need}
use Rattle.definition.specs.Stretch.{From, StretchOutcome, past_in, mean_told_in, carried_in, bad_from, stretch_refusal, roomy_stretch, stretch_ending, cov_stretch, mean_stretch, save_stretch, stretch_outcome}
use Rattle.laws.specs.AcceptedStretch.{Ready}
use Rattle.laws.specs.AcceptedStretch as stretch
use Rattle.demands.specs.Unheard.{deaf, kinds_long, run_with_gap, gap_deaf, gap_classes, same_classes, one_less, same_many, same_infinity, informed, within, place}
use Rattle.demands.specs.Values.{OneLess, one_less_in}
use Rattle.demands.specs.Recorded as recorded
use Rattle.demands.specs.StretchUnheard.{PastLess, NoNews, Unmoved, SavedLess, less_saved}

-- period t, element i of a stretch of x from the state s, whose record stands in the lent kinds as 3, 4 or 5: a gap there, or another number
module _ (x : Model) (o : Offsets) (s : Carried) (y : List Float) (old : List ℕ) (t i : ℕ) (inT : t < x.n) (inI : i < x.p) (fit : length (map class_of y) ≡ x.n * x.p) (read : T (is_finite (at y (t * x.p + i)))) (skip : 2 < get_or (lay (kinds_written (cov_from x s.past (map class_of y))) old) (t * x.p + i) 0) where
  quiet_past : PastLess (past_on x s.past (map class_of y)) (past_on x s.past (set (map class_of y) (t * x.p + i) gap))
  unfolding past_on plus counts_of
  quiet_past =
      let g = run_with_gap x o s y old t i inT inI fit read skip in
      record {
        done = refl;
        cov = g.state;
        d_diffuse = ap (λ (j : ℕ). s.past.counts.d_diffuse + j) g.d_diffuse;
        heard = sym (add-suc s.past.counts.heard _) ∙ ap (λ (j : ℕ). s.past.counts.heard + j) (one_less x o s y old t i inT inI fit read skip);
        news = ap (λ (j : ℕ). s.past.counts.news + j) g.news;
        cov_off = ap (told_before s.past.cov_off) (g.cov_off s.past.done);
      }

  -- the refusals before the run are the same
  same_refusal : (room bad : Bool) (done : ℕ) → stretch_refusal x o (length (set (map class_of y) (t * x.p + i) gap)) (any_of is_infinity (set (map class_of y) (t * x.p + i) gap)) room bad done ≡ stretch_refusal x o (length (map class_of y)) (any_of is_infinity (map class_of y)) room bad done
  same_refusal room bad done =
      ap₂ (λ (l : ℕ) (q : Bool). stretch_refusal x o l q room bad done) (same_many x o s y old t i inT inI fit read skip) (same_infinity x o s y old t i inT inI fit read skip)

  number_means : (v : Float) → T (is_finite v) → mean_on x o s (set y (t * x.p + i) v) ≡ mean_on x o s y
  unfolding mean_on
  number_means v h =
      ap (λ (ks : List Class). mean_from x o s.past.done s.mean (cov_from x s.past ks).0 (set y (t * x.p + i) v)) (same_classes x o s y old t i inT inI fit read skip v h)
      ∙ deaf x o s y old t i inT inI fit read skip v

  gap_means : mean_on x o s (set y (t * x.p + i) nan) ≡ mean_on x o s y
  unfolding mean_on
  gap_means =
      ap (λ (ks : List Class). mean_from x o s.past.done s.mean (cov_from x s.past ks).0 (set y (t * x.p + i) nan)) (gap_classes x o s y old t i inT inI fit read skip)
      ∙ gap_deaf x o s y old t i inT inI fit read skip nan

-- ---- a call

informs : (last heard : Bool) (news : ℕ) → (0 < news) ⊎ (last ≡ false) → (last && (heard && eqb news 0)) ≡ false
informs false heard n h = refl
informs true heard n h = ⊎_elim (λ (l : 0 < n). informed heard n l) (λ (e : true ≡ false). absurd (let z : ◌≡◌ {A = ℕ} 0 1 = cc in omega arith)) h

module _ (x : Model) (o : Offsets) (w : From) (last : Bool) (y : List Float) (b : CovParts) (b' : MeanParts) (save : List ℕ) where
  abbrev state : Carried
  state = carried_in x o w

  abbrev room : Bool
  room = roomy_stretch x last b b' save

  abbrev ending_at : List Class → Ending
  ending_at ks = stretch_ending x o (past_in x w) (bad_from x w) last ks (roomy_stretch x last b b' save)

  module _ (k : ℕ) (h : NoNews y last (stretch_outcome x o w last y b b' save).cov k) where
    ok : ending_at (map class_of y) ≡ answered
    ok = recorded.answers x o w last y b b' save h.answers

    fit : length (map class_of y) ≡ x.n * x.p
    fit = recorded.readings_fit x o w last y b b' save ok

    inside : k < x.n * x.p
    inside = let l : length y ≡ x.n * x.p = sym (length-map y class_of) ∙ fit in omega (arith, within y k h.read)

    real_skip : 2 < get_or (lay (kinds_written (cov_from x (past_in x w) (map class_of y))) b.kinds) k 0
    unfolding stretch_outcome cov_stretch after
    real_skip = subst (λ (f : Ending). 2 < get_or (after f (kinds_written (cov_from x (past_in x w) (map class_of y))) (replicate (kinds_need x) (cause_no atGap)) b.kinds) k 0) ok h.skip

    real_news : (0 < (past_on x (past_in x w) (map class_of y)).counts.news) ⊎ (last ≡ false)
    unfolding stretch_outcome cov_stretch counts_in
    real_news =
        ⊎_elim
        (λ (l : 0 < (counts_in (ending_at (map class_of y)) (past_on x (past_in x w) (map class_of y)).counts).news). inl (subst (λ (f : Ending). 0 < (counts_in f (past_on x (past_in x w) (map class_of y)).counts).news) ok l))
        (λ (e : last ≡ false). inr e)
        h.news

  module _ (t i : ℕ) (inT : t < x.n) (inI : i < x.p) (h : NoNews y last (stretch_outcome x o w last y b b' save).cov (t * x.p + i)) where
    abbrev muted : List Class
    muted = set (map class_of y) (t * x.p + i) gap

    less_heard : PastLess (past_on x (past_in x w) (map class_of y)) (past_on x (past_in x w) muted)
    less_heard = quiet_past x o (carried_in x o w) y b.kinds t i inT inI (fit (t * x.p + i) h) h.read (real_skip (t * x.p + i) h)

    -- answered still, as long as there is news or another stretch to come
    still_answered : ending_at muted ≡ answered
    unfolding stretch_ending ending_of no_information
    still_answered =
        let e = same_refusal x o (carried_in x o w) y b.kinds t i inT inI (fit (t * x.p + i) h) h.read (real_skip (t * x.p + i) h) room (bad_from x w) (past_in x w).done ∙ recorded.passed x o w last y b b' save (ok (t * x.p + i) h) in
        let n : (0 < (past_on x (past_in x w) muted).counts.news) ⊎ (last ≡ false) = rw less_heard.news (real_news (t * x.p + i) h) in
        ap₂ ending_of e (informs last (ltb 0 (past_on x (past_in x w) muted).counts.heard) (past_on x (past_in x w) muted).counts.news n)

    gap_cov_lem : OneLess (cov_stretch x (ending_at (map class_of y)) (past_in x w) (map class_of y) b) (cov_stretch x (ending_at muted) (past_in x w) muted b) (t * x.p + i)
    unfolding cov_stretch
    gap_cov_lem =
        let g = run_with_gap x o (carried_in x o w) y b.kinds t i inT inI (fit (t * x.p + i) h) h.read (real_skip (t * x.p + i) h) in
        let long = kinds_long x o (carried_in x o w) y b.kinds t i inT inI (fit (t * x.p + i) h) h.read (real_skip (t * x.p + i) h) in
        one_less_in x b (ok (t * x.p + i) h) still_answered g long less_heard.heard less_heard.news less_heard.d_diffuse less_heard.cov_off

  -- the whole outcome, by the kinds and the means
  abbrev half : List Class → CovOutcome
  half ks = cov_stretch x (ending_at ks) (past_in x w) ks b

  abbrev report : List MeanPeriod × Mean → ℕ
  report r = told_before (mean_told_in x w) (mean_report (past_in x w).done r.0)

  abbrev means : Ending → List MeanPeriod × Mean → MeanOutcome
  means f r = mean_ended x f r (report r) b'

  abbrev all : List Class → List MeanPeriod × Mean → StretchOutcome
  all ks r =
      record {
        cov = half ks;
        mean = means (ending_at ks) r;
        save = after (ending_at ks) (cond last [] (saved_of x.p x.m x.r (record { past = past_on x (past_in x w) ks; mean = r.1; mean_off = report r }))) [] save;
      }

  at_element : (t i : ℕ) → t < x.n → i < x.p → NoNews y last (stretch_outcome x o w last y b b' save).cov (t * x.p + i) → Unmoved x o w last y b b' save (t * x.p + i)
  unfolding stretch_outcome mean_stretch save_stretch went mean_off_on
  at_element t i inT inI h =
      let k = t * x.p + i in
      let ks = map class_of y in
      let gs = set ks k gap in
      let s = carried_in x o w in
      let f = fit k h in
      let z = real_skip k h in
      let same = number_means x o s y b.kinds t i inT inI f h.read z in
      let kinds = same_classes x o s y b.kinds t i inT inI f h.read z in
      let gaps : map class_of (set y k nan) ≡ gs = gap_classes x o s y b.kinds t i inT inI f h.read z in
      let still = gap_means x o s y b.kinds t i inT inI f h.read z in
      let less = quiet_past x o s y b.kinds t i inT inI f h.read z in
      let ended : ending_at gs ≡ ending_at ks = still_answered t i inT inI h ∙ sym (ok k h) in
      record {
        number = λ v fv. ap₂ all (kinds v fv) (same v fv);
        gap_cov = subst (λ (gs : List Class). OneLess (half ks) (half gs) k) (sym gaps) (gap_cov_lem t i inT inI h);
        gap_mean = ap₂ means (ap ending_at gaps ∙ ended) still;
        gap_state =
            record {
              past = subst (λ (gs : List Class). PastLess (past_on x (past_in x w) ks) (past_on x (past_in x w) gs)) (sym gaps) less;
              mean = ap (λ (r : List MeanPeriod × Mean). r.1) still;
              mean_off = ap report still;
            };
      }

pub no_news : (x : Model) (o : Offsets) (w : From) (last : Bool) (y : List Float) (b : CovParts) (b' : MeanParts) (save : List ℕ) (k : ℕ) → NoNews y last (stretch_outcome x o w last y b b' save).cov k → Unmoved x o w last y b b' save k
no_news x o w last y b b' save k h =
    let at-k = place x.n x.p k (inside x o w last y b b' save k h) in
    subst
    (λ (j : ℕ). NoNews y last (stretch_outcome x o w last y b b' save).cov j → Unmoved x o w last y b b' save j)
    (div-add-mod' k x.p)
    (at_element x o w last y b b' save (k / x.p) (k % x.p) at-k.0 at-k.1)
    h

-- ---- what is saved then

pub gap_saved : (x : Model) (o : Offsets) (w : From) (last : Bool) (y : List Float) (b : CovParts) (b' : MeanParts) (save : List ℕ) (k : ℕ) → NoNews y last (stretch_outcome x o w last y b b' save).cov k → last ≡ false → Ready x o w
    → SavedLess x.m (take (saved_need x.m) (stretch_outcome x o w last y b b' save).save) (take (saved_need x.m) (stretch_outcome x o w last (set y k nan) b b' save).save)
gap_saved x o w last y b b' save k h q ready =
    let u = no_news x o w last y b b' save k h in
    let ok = stretch.free x o w last y b b' save (inl h.answers) in
    let ok' = stretch.free x o w last (set y k nan) b b' save (inl (u.gap_cov.refusals ∙ h.answers)) in
    let less = less_saved x.p x.m x.r _ _ (stretch.ended x o w last y b b' save ready ok) (stretch.ended x o w last (set y k nan) b b' save ready ok') u.gap_state in
    subst (λ (bs : List ℕ). SavedLess x.m bs (take (saved_need x.m) (stretch_outcome x o w last (set y k nan) b b' save).save)) (sym (stretch.saved_is x o w last y b b' save ready ok q))
    (subst (λ (bs : List ℕ). SavedLess x.m (saved_of x.p x.m x.r (went x o (carried_in x o w) y)) bs) (sym (stretch.saved_is x o w last (set y k nan) b b' save ready ok' q)) less)
