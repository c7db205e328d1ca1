-- The cause of a skip is seen by its record's kind alone: another cause there changes no other part, no count, no report, no mean and nothing that is
-- smoothed; and whatever was read there, it reaches no mean.
use Rattle.std.specs.Prelude.{◌≡◌, ℕ, ◌+◌, ◌*◌, ◌<◌, Bool, false, length, get_or, Float}
use Rattle.std.proofs.Math.Path.{refl, sym, ap}
use Rattle.std.proofs.Common.{◌∙◌, subst}
use Rattle.std.proofs.Math.Bool.{true}
use mathlib.Core.List.{List, [], ◌++◌, map}
use Rattle.std.proofs.Math.ListN.{set}
use Rattle.std.proofs.lemmas.List.{length-map, set-get_or}
use Rattle.std.proofs.Math.Seq.{map-set_same}
use Rattle.std.specs.Float.Ieee.{nan}
use Rattle.definition.specs.Dense.{row}
use Rattle.definition.specs.Run.{pairs, join, count}
use Rattle.definition.specs.Cov.{System, Cov, Fixed, Inner, Cause, atGap, Decision, skipped, CovPeriod, verdict, apply, element_of, is_live, entered, ended, period_of, period, cov_run}
use Rattle.definition.specs.Mean.{Frame, Shift, Mean, MeanPeriod, hear, mean_ended, mean_period_of, mean_period, mean_run}
use Rattle.definition.specs.Smooth.{Ns, Rs, back_n, back_r, back_element, back_mean_element, elements_n, elements_r, back_v, back_a, step_ns, step_rs, back_cov_of, back_mean_of, back_cov, back_mean, back_transition, no_ns, no_rs, smooth_cov, smooth_mean}
use Rattle.definition.specs.Parts.{CovPart, predCov, pred_inf, filtCov, fStar, fInf, mStar, mInf, kind_no, cause_no, is_news, f_star_of, f_inf_of, m_star_of, m_inf_of, cov_block}
use Rattle.definition.specs.Outcome.{kinds_written, cov_written, decisions_of}
use Rattle.definition.specs.Reports.{first_from, cov_is_off, cov_report}
use Rattle.definition.specs.Tracks.{skip_stays, skip_unheard, skip_stays_back, skip_unheard_back}
use Rattle.laws.specs.Lists.{scan_put, scan-pairs, scan_back-set, scan_back-pairs, fold_back-set, fold_back-pairs, map-set, count_same, Each, join_at, join-set}
use Rattle.laws.specs.ReadBack.{get_d_map_in, kinds_join}
use Rattle.laws.specs.Verdicts.{skip_of}

-- Run r' is run r but for the cause in the record of element i of period t, which is w: what the readers of a run see of it. The means may have
-- another reading there too.
pub record OtherCause (p m t i : ℕ) (w : Cause) (r r' : List CovPeriod × Cov) : Type 0 where
  pub kinds : kinds_written r' ≡ set (kinds_written r) (t * p + i) (cause_no w)
  pub parts : (q : CovPart) → cov_written m r' q ≡ cov_written m r q
  pub state : r'.1 ≡ r.1
  pub d_diffuse : count (λ (c : CovPeriod). c.diffuse) r'.0 ≡ count (λ (c : CovPeriod). c.diffuse) r.0
  pub news : count is_news (join (decisions_of r'.0)) ≡ count is_news (join (decisions_of r.0))
  pub cov_off : (u : ℕ) → cov_report u r'.0 ≡ cov_report u r.0
  pub means : (y : Frame) (x : Shift) (u : ℕ) (s : Mean) (rows : List (List Float)) (v : Float)
      → mean_run y x u s (pairs (decisions_of r'.0) (set rows t (set (get_or rows t []) i v))) ≡ mean_run y x u s (pairs (decisions_of r.0) rows)
  pub smoothed_cov : (y : Frame) → smooth_cov y r'.0 ≡ smooth_cov y r.0
  pub smoothed_mean : (y : Frame) (ss : List MeanPeriod) → smooth_mean y r'.0 ss ≡ smooth_mean y r.0 ss

-- what is the same for every skip is the same for one with another cause
unseen : {A : Type 0} (F : Decision → A) (a : A) → ((c : Cause) → F (skipped c) ≡ a) → (d : Decision) → is_news d ≡ false → F d ≡ a
unseen F a same d e = let k = skip_of d e in ap F k.1 ∙ same k.0

-- the period whose element i is passed over for the cause w
abbrev recause : ℕ → Cause → CovPeriod → CovPeriod
recause i w c = record { diffuse = c.diffuse; pred = c.pred; pred_inf = c.pred_inf; decisions = set c.decisions i (skipped w); filt = c.filt }

-- ---- the covariance track: a gap where an element was passed over

quiet_element : (p m : ℕ) (h : List Float) (f : Fixed) (g : Bool) (i : ℕ) (s : Inner)
    → is_news (element_of p m h f i s g).0 ≡ false → element_of p m h f i s true ≡ (skipped atGap, (element_of p m h f i s g).1)
unfolding element_of verdict
quiet_element p m h f g i s e =
    let z = row m f.z i in
    ap (λ (r : Inner). (skipped atGap, r)) (skip_stays atGap m z i s ∙ sym (unseen (apply m z i s) s (λ c. skip_stays c m z i s) (verdict p m h f i s g) e))

module _ (y : System) where
  quiet_period : (gs : List Bool) (i : ℕ) (d : Decision) (t : ℕ) (c : Cov)
      → is_news (get_or (period y t c gs).0.decisions i d) ≡ false → period y t c (set gs i true) ≡ (recause i atGap (period y t c gs).0, (period y t c gs).1)
  unfolding period_of ended
  quiet_period gs i d t c e =
      let lasts = is_live y.m c.live c.pinf in
      let pinf = entered y.m lasts c.pinf in
      let f : Fixed = record { diffuse = lasts; z = y.design_at t; pre = c.star; unres = c.unres } in
      let s : Inner = record { star = c.star; pinf = pinf; root = c.root; taken = [] } in
      ap
      (ended y.m (y.transition_at t) y.rqr c pinf lasts)
      (scan_put
      (element_of y.p y.m y.h f)
      (λ (d : Decision). is_news d ≡ false)
      (λ (d : Decision). skipped atGap)
      gs
      i
      0
      s
      true
      d
      true
      (λ u r. quiet_element y.p y.m y.h f (get_or gs i true) u r)
      e)

  quiet_run : (u : ℕ) (gs : List (List Bool)) (t i : ℕ) (d : Decision) (e : CovPeriod) (c : Cov)
      → is_news (get_or (get_or (cov_run y u c gs).0 t e).decisions i d) ≡ false
      → cov_run y u c (set gs t (set (get_or gs t []) i true)) ≡ (set (cov_run y u c gs).0 t (recause i atGap (get_or (cov_run y u c gs).0 t e)), (cov_run y u c gs).1)
  unfolding cov_run
  quiet_run u gs t i d e c h =
      scan_put
      (period y)
      (λ (k : CovPeriod). is_news (get_or k.decisions i d) ≡ false)
      (recause i atGap)
      gs
      t
      u
      c
      []
      e
      (set (get_or gs t []) i true)
      (λ u r. quiet_period (get_or gs t []) i d u r)
      h

-- ---- the mean track: another cause, and another reading

deaf_element : (m : ℕ) (design ds : List Float) (d d' : Decision) (v w : Float) (i : ℕ) (s : Mean)
    → is_news d ≡ false → is_news d' ≡ false → hear m design ds i s (d, v) ≡ hear m design ds i s (d', w)
deaf_element m design ds d d' v w i s e e' =
    unseen (λ (k : Decision). hear m design ds i s (k, v)) _ (λ c. skip_unheard c m design ds i s v) d e
    ∙ sym (unseen (λ (k : Decision). hear m design ds i s (k, w)) _ (λ c. skip_unheard c m design ds i s w) d' e')

module _ (y : Frame) (x : Shift) where
  deaf_period : (ks : List Decision) (readings : List Float) (i : ℕ) (d k : Decision) (v : Float) (t : ℕ) (s : Mean)
      → is_news (get_or ks i d) ≡ false → is_news k ≡ false → mean_period y x t s (set ks i k, set readings i v) ≡ mean_period y x t s (ks, readings)
  unfolding mean_period_of
  deaf_period ks readings i d k v t s e e' =
      ap
      (mean_ended y.m (y.transition_at t) x.c s)
      (scan-pairs
      (hear y.m (y.design_at t) x.d)
      ks
      readings
      i
      0
      s
      d
      nan
      k
      v
      (λ u r. deaf_element y.m (y.design_at t) x.d k (get_or ks i d) v (get_or readings i nan) u r e' e))

  deaf_run : (u : ℕ) (ks : List (List Decision)) (rows : List (List Float)) (t i : ℕ) (d k : Decision) (v : Float) (s : Mean)
      → is_news (get_or (get_or ks t []) i d) ≡ false → is_news k ≡ false
      → mean_run y x u s (pairs (set ks t (set (get_or ks t []) i k)) (set rows t (set (get_or rows t []) i v))) ≡ mean_run y x u s (pairs ks rows)
  unfolding mean_run
  deaf_run u ks rows t i d k v s e e' =
      scan-pairs
      (mean_period y x)
      ks
      rows
      t
      u
      s
      []
      []
      (set (get_or ks t []) i k)
      (set (get_or rows t []) i v)
      (λ u r. deaf_period (get_or ks t []) (get_or rows t []) i d k v u r e e')

-- ---- what is written, counted and smoothed of the run whose element i of period t is passed over for another cause

module _ (cs : List CovPeriod) (t i : ℕ) (e : CovPeriod) (d : Decision) (w : Cause) (skip : is_news (get_or (get_or cs t e).decisions i d) ≡ false) where
  abbrev c : CovPeriod
  c = get_or cs t e

  abbrev recaused : List CovPeriod
  recaused = set cs t (recause i w c)

  skip_there : t < length cs → is_news (get_or (get_or (decisions_of cs) t []) i d) ≡ false
  skip_there t< = ap (λ (l : List Decision). is_news (get_or l i d)) (get_d_map_in (λ (c : CovPeriod). c.decisions) cs t e [] t<) ∙ skip

  -- something of each decision that no cause reaches
  same_decisions : {A : Type 0} (F : Decision → A) (a : A) → ((c : Cause) → F (skipped c) ≡ a) → map F (set c.decisions i (skipped w)) ≡ map F c.decisions
  same_decisions F a same = map-set_same F c.decisions i (skipped w) d (same w ∙ sym (unseen F a same (get_or c.decisions i d) skip))

  block_same : (m : ℕ) (q : CovPart) → cov_block m q (recause i w c) ≡ cov_block m q c
  unfolding cov_block
  block_same m predCov = refl
  block_same m pred_inf = refl
  block_same m filtCov = refl
  block_same m fStar = same_decisions f_star_of _ (λ c. refl)
  block_same m fInf = same_decisions f_inf_of _ (λ c. refl)
  block_same m mStar = ap join (same_decisions (m_star_of m) _ (λ c. refl))
  block_same m mInf = ap join (same_decisions (m_inf_of m) _ (λ c. refl))

  blocks_same : (m : ℕ) (q : CovPart) → map (cov_block m q) recaused ≡ map (cov_block m q) cs
  blocks_same m q = map-set_same (cov_block m q) cs t (recause i w c) e (block_same m q)

  written_same : (m : ℕ) (s : Cov) (q : CovPart) → cov_written m (recaused, s) q ≡ cov_written m (cs, s) q
  unfolding cov_written
  written_same m s predCov = ap (λ (l : List (List Float)). join l ++ s.star) (blocks_same m predCov)
  written_same m s pred_inf = ap (λ (l : List (List Float)). join l ++ s.pinf) (blocks_same m pred_inf)
  written_same m s filtCov = ap join (blocks_same m filtCov)
  written_same m s fStar = ap join (blocks_same m fStar)
  written_same m s fInf = ap join (blocks_same m fInf)
  written_same m s mStar = ap join (blocks_same m mStar)
  written_same m s mInf = ap join (blocks_same m mInf)

  diffuse_same : count (λ (c : CovPeriod). c.diffuse) recaused ≡ count (λ (c : CovPeriod). c.diffuse) cs
  diffuse_same = count_same (λ (c : CovPeriod). c.diffuse) cs t (recause i w c) e refl

  report_same : (u : ℕ) → cov_report u recaused ≡ cov_report u cs
  unfolding cov_report cov_is_off
  report_same u = ap (first_from u) (map-set_same cov_is_off cs t (recause i w c) e refl)

  -- its decisions: one differs, and with it one kind, which is no news as before
  module _ (p : ℕ) (each : Each p (decisions_of cs)) (t< : t < length cs) (i< : i < p) where
    decisions_set : decisions_of recaused ≡ set (decisions_of cs) t (set (get_or (decisions_of cs) t []) i (skipped w))
    decisions_set =
        map-set (λ (c : CovPeriod). c.decisions) cs t (recause i w c)
        ∙ ap (λ (l : List Decision). set (decisions_of cs) t (set l i (skipped w))) (sym (get_d_map_in (λ (c : CovPeriod). c.decisions) cs t e [] t<))

    joined : join (decisions_of recaused) ≡ set (join (decisions_of cs)) (t * p + i) (skipped w)
    joined = ap join decisions_set ∙ join-set p (decisions_of cs) t i (skipped w) each (rw length-map t<) i<

    kinds_set : (s : Cov) → kinds_written (recaused, s) ≡ set (kinds_written (cs, s)) (t * p + i) (cause_no w)
    unfolding kinds_written
    kinds_set s =
        kinds_join recaused
        ∙ ap (map kind_no) joined
        ∙ map-set kind_no (join (decisions_of cs)) (t * p + i) (skipped w)
        ∙ ap (λ (l : List ℕ). set l (t * p + i) (cause_no w)) (sym (kinds_join cs))

    news_same : count is_news (join (decisions_of recaused)) ≡ count is_news (join (decisions_of cs))
    news_same =
        let at_i = join_at p (decisions_of cs) t i d each (rw length-map t<) i< ∙ ap (λ (l : List Decision). get_or l i d) (get_d_map_in (λ (c : CovPeriod). c.decisions) cs t e [] t<) in
        ap (count is_news) joined ∙ count_same is_news (join (decisions_of cs)) (t * p + i) (skipped w) d (sym (ap is_news at_i ∙ skip))

  -- the way back
  back_cov_lem : (y : Frame) (u : ℕ) (n : Ns) → back_cov y u n (recause i w c) ≡ back_cov y u n c
  unfolding back_cov_of elements_n back_element
  back_cov_lem y u n =
      ap
      (λ (e : Ns). (back_v y.m c.diffuse c.pred c.pred_inf e, step_ns y.m (back_transition y u) e))
      (fold_back-set
      (back_element y.m c.diffuse (y.design_at u))
      c.decisions
      i
      0
      n
      d
      (skipped w)
      (λ j r.
      let z = row y.m (y.design_at u) j in
      skip_stays_back w y.m c.diffuse z r ∙ sym (unseen (back_n y.m c.diffuse z r) r (λ k. skip_stays_back k y.m c.diffuse z r) (get_or c.decisions i d) skip)))

  smooth_cov_same : (y : Frame) → smooth_cov y recaused ≡ smooth_cov y cs
  unfolding smooth_cov
  smooth_cov_same y = ap (λ (r : List (List Float) × Ns). r.0) (scan_back-set (back_cov y) cs t 0 (no_ns y.m) e (recause i w c) (λ u n. back_cov_lem y u n))

  back_mean_lem : (y : Frame) (u : ℕ) (r : Rs) (s : MeanPeriod) → back_mean y u r (recause i w c, s) ≡ back_mean y u r (c, s)
  unfolding back_mean_of elements_r back_mean_element
  back_mean_lem y u r s =
      ap
      (λ (e : Rs). (back_a y.m c.diffuse c.pred c.pred_inf s.pred e, step_rs y.m (back_transition y u) e))
      (fold_back-pairs
      (back_mean_element y.m (y.design_at u))
      c.decisions
      s.vs
      i
      0
      r
      d
      (skipped w)
      (λ j r v.
      let z = row y.m (y.design_at u) j in
      skip_unheard_back w y.m z r v ∙ sym (unseen (λ (k : Decision). back_r y.m z r k v) r (λ k. skip_unheard_back k y.m z r v) (get_or c.decisions i d) skip)))

  smooth_mean_same : (y : Frame) (ss : List MeanPeriod) → smooth_mean y recaused ss ≡ smooth_mean y cs ss
  unfolding smooth_mean
  smooth_mean_same y ss = ap (λ (r : List (List Float) × Rs). r.0) (scan_back-pairs (back_mean y) cs ss t 0 (no_rs y.m) e (recause i w c) (λ u r s. back_mean_lem y u r s))

  other_cause : (p m : ℕ) (s : Cov) → Each p (decisions_of cs) → t < length cs → i < p → OtherCause p m t i w (cs, s) (recaused, s)
  other_cause p m s each t< i< =
      record {
        kinds = kinds_set p each t< i< s;
        parts = written_same m s;
        state = refl;
        d_diffuse = diffuse_same;
        news = news_same p each t< i<;
        cov_off = report_same;
        means = λ y x u a rows v.
            ap (λ (ds : List (List Decision)). mean_run y x u a (pairs ds (set rows t (set (get_or rows t []) i v)))) (decisions_set p each t< i<)
            ∙ deaf_run y x u (decisions_of cs) rows t i d (skipped w) v a (skip_there t<) refl;
        smoothed_cov = smooth_cov_same;
        smoothed_mean = smooth_mean_same;
      }

-- ---- a run, from period u on, over readings of which one more is a gap, where the element was passed over all the same

module _ (y : System) (u : ℕ) (c : Cov) (p : ℕ) (gs : List (List Bool)) (t i : ℕ) (d : Decision) (e : CovPeriod) where
  pub quiet : Each p (decisions_of (cov_run y u c gs).0) → t < length (cov_run y u c gs).0 → i < p
      → is_news (get_or (get_or (decisions_of (cov_run y u c gs).0) t []) i d) ≡ false
      → OtherCause p y.m t i atGap (cov_run y u c gs) (cov_run y u c (set gs t (set (get_or gs t []) i true)))
  quiet each t< i< skip =
      let r = cov_run y u c gs in
      let at-t = get_d_map_in (λ (c : CovPeriod). c.decisions) r.0 t e [] t< in
      let skip' : is_news (get_or (get_or r.0 t e).decisions i d) ≡ false = ap (λ (l : List Decision). is_news (get_or l i d)) (sym at-t) ∙ skip in
      subst
      (OtherCause p y.m t i atGap r)
      (sym (quiet_run y u gs t i d e c skip'))
      (other_cause r.0 t i e d atGap skip' p y.m r.1 each t< i<)

-- the decisions as they are, and another reading where one is a skip
pub unheard : (y : Frame) (x : Shift) (u : ℕ) (ds : List (List Decision)) (rows : List (List Float)) (t i : ℕ) (d : Decision) (v : Float) (s : Mean)
    → is_news (get_or (get_or ds t []) i d) ≡ false → mean_run y x u s (pairs ds (set rows t (set (get_or rows t []) i v))) ≡ mean_run y x u s (pairs ds rows)
unheard y x u ds rows t i d v s skip =
    let same : set ds t (set (get_or ds t []) i (get_or (get_or ds t []) i d)) ≡ ds = ap (set ds t) (set-get_or (get_or ds t []) i d) ∙ set-get_or ds t [] in
    ap (λ (l : List (List Decision)). mean_run y x u s (pairs l (set rows t (set (get_or rows t []) i v)))) (sym same)
    ∙ deaf_run y x u ds rows t i d (get_or (get_or ds t []) i d) v s skip skip
