-- A run that is cut after any period is the run: the state (`cut_state`), what its periods left (`cut_covs`, `cut_means`), and each part's blocks
-- (`cut_kinds`, `cut_parts`, `cut_mean_parts`; place n of the predicted moments is the later stretch's).
use Rattle.std.specs.Prelude.{◌≡◌, not, Float}
use Rattle.std.proofs.Math.Path.{sym, ap, ap₂}
use Rattle.std.proofs.Common.{◌∙◌}
use Prim.Native.Nat.{ℕ, ◌+◌, ◌*◌}
use native.Mathlib.Omega.{arith}
use mathlib.Core.List.{List, ◌++◌, map}
use Rattle.std.proofs.Math.ListN.{length, length-map}
use Rattle.definition.specs.Run.{scan, chunks, pairs, join, count}
use Rattle.definition.specs.Cov.{Cov, CovPeriod, period, cov_run}
use Rattle.definition.specs.Mean.{Mean, MeanPeriod, mean_period, mean_run}
use Rattle.definition.specs.Inputs.{Model, Offsets, Class, class_of, is_gap, noise, system_of, frame_of, gap_rows}
use Rattle.definition.specs.Parts.{CovPart, predCov, pred_inf, filtCov, fStar, fInf, mStar, mInf, MeanPart, predMean, filtMean, innovations, kind_block, cov_block, mean_block, is_news}
use Rattle.definition.specs.Reports.{cov_report, mean_report, told_before}
use Rattle.definition.specs.Outcome.{Counts, counts_of, decisions_of, kinds_written, cov_written, mean_written}
use Rattle.definition.specs.Carried.{Past, Carried, cov_from, mean_from, plus, past_on, mean_on, mean_off_on, went}
use Rattle.laws.specs.Lists.{scan-append, length-chunks, chunks-append, pairs-append, length_pairs}
use Rattle.laws.specs.Passes.{join-append, count-append, map-append, blocks_append, blocks_then}
use Rattle.laws.specs.Shapes.{run_length}
use Rattle.laws.specs.Reports.{cov_append, mean_append, told_assoc}
use Rattle.laws.specs.Kept.{means_length}

-- the same model, over k periods
abbrev pub lasting : ℕ → Model → Model
lasting k x = record { p = x.p; m = x.m; r = x.r; n = k; z_once = x.z_once; z_list = x.z_list; repeats = x.repeats; h = x.h; t_once = x.t_once; t_list = x.t_list; rr = x.rr; q = x.q; flags = x.flags; p_star = x.p_star }

-- ---- the counts

pub counts_append : (cs cs' : List CovPeriod) (ks ks' : List Class) → counts_of (cs ++ cs') (ks ++ ks') ≡ plus (counts_of cs ks) (counts_of cs' ks')
unfolding counts_of plus
counts_append cs cs' ks ks' =
    let d = count-append (λ (c : CovPeriod). c.diffuse) cs cs' in
    let h = ap (count not) (map-append is_gap ks ks') ∙ count-append not (map is_gap ks) (map is_gap ks') in
    let n = ap (λ (l : List (List _)). count is_news (join l)) (map-append (λ (c : CovPeriod). c.decisions) cs cs') ∙ ap (count is_news) (join-append (decisions_of cs) (decisions_of cs')) ∙ count-append is_news (join (decisions_of cs)) (join (decisions_of cs')) in
    cc

plus_assoc : (a b c : Counts) → plus (plus a b) c ≡ plus a (plus b c)
unfolding plus
plus_assoc a b c =
    let d : a.d_diffuse + b.d_diffuse + c.d_diffuse ≡ a.d_diffuse + (b.d_diffuse + c.d_diffuse) = omega arith in
    let h : a.heard + b.heard + c.heard ≡ a.heard + (b.heard + c.heard) = omega arith in
    let n : a.news + b.news + c.news ≡ a.news + (b.news + c.news) = omega arith in
    cc

-- ---- the runs. The stretches have n and k periods.

module _ (x : Model) (n k : ℕ) where
  pub cut_covs : (s : Past) (ks ks' : List Class) → length ks ≡ n * x.p → cov_from (lasting (n + k) x) s (ks ++ ks') ≡ ((cov_from (lasting n x) s ks).0 ++ (cov_from (lasting k x) (past_on (lasting n x) s ks) ks').0, (cov_from (lasting k x) (past_on (lasting n x) s ks) ks').1)
  unfolding cov_from past_on cov_run gap_rows system_of noise
  cut_covs s ks ks' e =
      let p = x.p in
      let l : length (map is_gap ks) ≡ n * p = length-map ks is_gap ∙ e in
      let rows : chunks (n + k) p (map is_gap (ks ++ ks')) ≡ chunks n p (map is_gap ks) ++ chunks k p (map is_gap ks') = ap (chunks (n + k) p) (map-append is_gap ks ks') ∙ chunks-append n k p (map is_gap ks) (map is_gap ks') l in
      let many : length (chunks n p (map is_gap ks)) ≡ n = length-chunks n p (map is_gap ks) in
      ap (scan (period (system_of x)) s.done s.cov) rows ∙ rw many at (scan-append (period (system_of x)) (chunks n p (map is_gap ks)) (chunks k p (map is_gap ks')) s.done s.cov)

  pub covs_length : (s : Past) (ks : List Class) → length (cov_from (lasting n x) s ks).0 ≡ n
  unfolding cov_from
  covs_length s ks = run_length (system_of (lasting n x)) s.done s.cov ks n x.p

  pub cut_past : (s : Past) (ks ks' : List Class) → length ks ≡ n * x.p → past_on (lasting (n + k) x) s (ks ++ ks') ≡ past_on (lasting k x) (past_on (lasting n x) s ks) ks'
  unfolding past_on
  cut_past s ks ks' e =
      let r = cut_covs s ks ks' e in
      let cs = (cov_from (lasting n x) s ks).0 in
      let cs' = (cov_from (lasting k x) (past_on (lasting n x) s ks) ks').0 in
      let made : List CovPeriod × Cov → ℕ → Past = λ r d. record { done = d; cov = r.1; counts = plus s.counts (counts_of r.0 (ks ++ ks')); cov_off = told_before s.cov_off (cov_report s.done r.0) } in
      let d : s.done + (n + k) ≡ s.done + n + k = omega arith in
      ap₂ made r d
      ∙ ap₂ (λ (l : Counts) (t : ℕ). record { done = s.done + n + k; cov = (cov_from (lasting k x) (past_on (lasting n x) s ks) ks').1; counts = l; cov_off = t })
      (ap (plus s.counts) (counts_append cs cs' ks ks') ∙ sym (plus_assoc s.counts (counts_of cs ks) (counts_of cs' ks')))
      (ap (told_before s.cov_off) (cov_append s.done n cs cs' (covs_length s ks)) ∙ sym (told_assoc s.cov_off (cov_report s.done cs) (cov_report (s.done + n) cs')))

  -- the means, given the periods' covariances
  cut_runs : (o : Offsets) (t : ℕ) (s : Mean) (cs cs' : List CovPeriod) (y y' : List Float) → length cs ≡ n → length y ≡ n * x.p → mean_from (lasting (n + k) x) o t s (cs ++ cs') (y ++ y') ≡ ((mean_from (lasting n x) o t s cs y).0 ++ (mean_from (lasting k x) o (t + n) (mean_from (lasting n x) o t s cs y).1 cs' y').0, (mean_from (lasting k x) o (t + n) (mean_from (lasting n x) o t s cs y).1 cs' y').1)
  unfolding mean_from mean_run frame_of
  cut_runs o t s cs cs' y y' l e =
      let p = x.p in
      let f = mean_period (frame_of x) (record { c = o.c; d = o.d }) in
      let ds = decisions_of cs in
      let dl : length ds ≡ n = length-map cs (λ (c : CovPeriod). c.decisions) ∙ l in
      let yl : length (chunks n p y) ≡ n = length-chunks n p y in
      let es = pairs ds (chunks n p y) in
      let es' = pairs (decisions_of cs') (chunks k p y') in
      let rows : pairs (decisions_of (cs ++ cs')) (chunks (n + k) p (y ++ y')) ≡ es ++ es' =
      ap₂ (λ (a : List (List _)) (b : List (List Float)). pairs a b) (map-append (λ (c : CovPeriod). c.decisions) cs cs') (chunks-append n k p y y' e) ∙ pairs-append ds (decisions_of cs') (chunks n p y) (chunks k p y') (dl ∙ sym yl) in
      let many : length es ≡ n = length_pairs n ds (chunks n p y) dl yl in
      ap (scan f t s) rows ∙ rw many at (scan-append f es es' t s)

  pub cut_means : (o : Offsets) (s : Carried) (y y' : List Float) → length y ≡ n * x.p → mean_on (lasting (n + k) x) o s (y ++ y') ≡ ((mean_on (lasting n x) o s y).0 ++ (mean_on (lasting k x) o (went (lasting n x) o s y) y').0, (mean_on (lasting k x) o (went (lasting n x) o s y) y').1)
  unfolding mean_on went past_on
  cut_means o s y y' e =
      let ks = map class_of y in
      let ks' = map class_of y' in
      let kl : length ks ≡ n * x.p = length-map y class_of ∙ e in
      ap (λ (l : List Class). mean_from (lasting (n + k) x) o s.past.done s.mean (cov_from (lasting (n + k) x) s.past l).0 (y ++ y')) (map-append class_of y y')
      ∙ ap (λ (r : List CovPeriod × Cov). mean_from (lasting (n + k) x) o s.past.done s.mean r.0 (y ++ y')) (cut_covs s.past ks ks' kl)
      ∙ cut_runs o s.past.done s.mean (cov_from (lasting n x) s.past ks).0 (cov_from (lasting k x) (past_on (lasting n x) s.past ks) ks').0 y y' (covs_length s.past ks) e

  cut_mean_off : (o : Offsets) (s : Carried) (y y' : List Float) → length y ≡ n * x.p → mean_off_on (lasting (n + k) x) o s (y ++ y') ≡ mean_off_on (lasting k x) o (went (lasting n x) o s y) y'
  unfolding mean_off_on went past_on
  cut_mean_off o s y y' e =
      let t = s.past.done in
      let ss = (mean_on (lasting n x) o s y).0 in
      let ss' = (mean_on (lasting k x) o (went (lasting n x) o s y) y').0 in
      ap (λ (r : List MeanPeriod × Mean). told_before s.mean_off (mean_report t r.0)) (cut_means o s y y' e)
      ∙ ap (told_before s.mean_off) (mean_append t n ss ss' (means_length (lasting n x) o s y))
      ∙ sym (told_assoc s.mean_off (mean_report t ss) (mean_report (t + n) ss'))

  pub cut_state : (o : Offsets) (s : Carried) (y y' : List Float) → length y ≡ n * x.p → went (lasting (n + k) x) o s (y ++ y') ≡ went (lasting k x) o (went (lasting n x) o s y) y'
  unfolding went
  cut_state o s y y' e =
      ap₂ (λ (a : Past) (r : List MeanPeriod × Mean). record { past = a; mean = r.1; mean_off = mean_off_on (lasting (n + k) x) o s (y ++ y') })
      (ap (past_on (lasting (n + k) x) s.past) (map-append class_of y y') ∙ cut_past s.past (map class_of y) (map class_of y') (length-map y class_of ∙ e))
      (cut_means o s y y' e)
      ∙ ap (λ (t : ℕ). record { past = past_on (lasting k x) (past_on (lasting n x) s.past (map class_of y)) (map class_of y'); mean = (mean_on (lasting k x) o (went (lasting n x) o s y) y').1; mean_off = t }) (cut_mean_off o s y y' e)

-- ---- what is written of a run in two stretches: the first one's blocks, then what the second writes

abbrev pub kind_blocks : List CovPeriod → List ℕ
kind_blocks cs = join (map kind_block cs)

abbrev pub cov_blocks : ℕ → CovPart → List CovPeriod → List Float
cov_blocks m q cs = join (map (cov_block m q) cs)

abbrev pub mean_blocks : MeanPart → List MeanPeriod → List Float
mean_blocks q ms = join (map (mean_block q) ms)

pub cut_kinds : (cs cs' : List CovPeriod) (c : Cov) → kinds_written (cs ++ cs', c) ≡ kind_blocks cs ++ kinds_written (cs', c)
unfolding kinds_written
cut_kinds cs cs' c = blocks_append kind_block cs cs'

pub cut_parts : (m : ℕ) (cs cs' : List CovPeriod) (c : Cov) (q : CovPart) → cov_written m (cs ++ cs', c) q ≡ cov_blocks m q cs ++ cov_written m (cs', c) q
unfolding cov_written
cut_parts m cs cs' c predCov = blocks_then (cov_block m predCov) cs cs' c.star
cut_parts m cs cs' c pred_inf = blocks_then (cov_block m pred_inf) cs cs' c.pinf
cut_parts m cs cs' c filtCov = blocks_append (cov_block m filtCov) cs cs'
cut_parts m cs cs' c fStar = blocks_append (cov_block m fStar) cs cs'
cut_parts m cs cs' c fInf = blocks_append (cov_block m fInf) cs cs'
cut_parts m cs cs' c mStar = blocks_append (cov_block m mStar) cs cs'
cut_parts m cs cs' c mInf = blocks_append (cov_block m mInf) cs cs'

pub cut_mean_parts : (ms ms' : List MeanPeriod) (s : Mean) (q : MeanPart) → mean_written (ms ++ ms', s) q ≡ mean_blocks q ms ++ mean_written (ms', s) q
unfolding mean_written
cut_mean_parts ms ms' s predMean = blocks_then (mean_block predMean) ms ms' s.a
cut_mean_parts ms ms' s filtMean = blocks_append (mean_block filtMean) ms ms'
cut_mean_parts ms ms' s innovations = blocks_append (mean_block innovations) ms ms'
