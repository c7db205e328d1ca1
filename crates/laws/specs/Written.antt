-- How much a stretch writes: n blocks of each part, of that part's unit; and one more of the predicted moments.
use Rattle.std.specs.Prelude.{◌≡◌, List, [], ◌∷◌, map, length, Float}
use Rattle.std.proofs.Common.{sym, ap, ◌∙◌, zero-mul, arith}
use Rattle.std.proofs.Math.Path.{ap₂}
use Prim.Native.Nat.{ℕ, ◌+◌, ◌*◌}
use Rattle.std.proofs.Math.ListN.{length-append, length-map}
use Rattle.definition.specs.Dense.{symmetrise}
use Rattle.definition.specs.Run.{chunks, pairs, join}
use Rattle.definition.specs.Cov.{Decision, CovPeriod, ended, period_of, period, cov_run}
use Rattle.definition.specs.Mean.{Mean, MeanPeriod, Frame, Shift, hear, mean_ended, mean_period_of, mean_period, mean_run}
use Rattle.definition.specs.Inputs.{Model, Offsets, Class, class_of, system_of, system_from, frame_of, frame_from, gap_rows}
use Rattle.definition.specs.Parts.{CovPart, predCov, pred_inf, filtCov, fStar, fInf, mStar, mInf, MeanPart, predMean, filtMean, innovations, kind_no, f_star_of, f_inf_of, m_star_of, m_inf_of, kind_block, cov_block, mean_block}
use Rattle.definition.specs.Outcome.{decisions_of, kinds_need, cov_need, mean_need, kinds_written, cov_written, mean_written}
use Rattle.definition.specs.Carried.{Past, Carried, cov_from, mean_from, mean_on}
use Rattle.laws.specs.Lists.{Each, length-scan, length_tab, length-chunks, chunks_each, length_pairs}
use Rattle.laws.specs.All.{AllOf, all_as, all_true, scan_all, scan_keeps, scan_leaves}
use Rattle.laws.specs.ReadBack.{Whole}
use Rattle.laws.specs.Shapes.{SizedP, run_whole, run_length, run_sized, period_keeps}
use Rattle.laws.specs.Kept.{CovKept, MeanKept, heed_kept, mean_step_lem, covs_kept, means_kept}
use Rattle.laws.specs.Cut.{kind_blocks, cov_blocks, mean_blocks}

-- a part's block of one period
unfoldable pub cov_unit : ℕ → ℕ → CovPart → ℕ
cov_unit p m predCov = m * m
cov_unit p m pred_inf = m * m
cov_unit p m filtCov = m * m
cov_unit p m fStar = p
cov_unit p m fInf = p
cov_unit p m mStar = p * m
cov_unit p m mInf = p * m

unfoldable pub mean_unit : ℕ → ℕ → MeanPart → ℕ
mean_unit p m predMean = m
mean_unit p m filtMean = m
mean_unit p m innovations = p

module _ (x : Model) (s : Past) (ks : List Class) (fit : length ks ≡ x.n * x.p) where
  pub covs_whole : AllOf (λ c. Whole x.p x.m c.decisions) (cov_from x s ks).0
  unfolding cov_from system_of system_from
  covs_whole = run_whole (system_of x) s.done s.cov ks x.n x.p fit

  pub covs_many : length (cov_from x s ks).0 ≡ x.n
  unfolding cov_from
  covs_many = run_length (system_of x) s.done s.cov ks x.n x.p

  covs_sized : CovKept x.m s.cov → AllOf (SizedP x.m) (cov_from x s ks).0
  unfolding cov_from cov_run system_of system_from
  covs_sized k = run_sized x.m (period (system_of x)) (period_keeps (system_of x)) _ s.done s.cov (record { star = k.star.long; pinf = k.pinf.long })

covs_filt : (x : Model) (s : Past) (ks : List Class) → AllOf (λ c. length c.filt ≡ x.m * x.m) (cov_from x s ks).0
unfolding cov_from cov_run system_of system_from period_of ended symmetrise
covs_filt x s ks =
    let rows = gap_rows x.n x.p ks in
    scan_all (period (system_of x)) (λ g. Unit {0}) (λ c. length c.filt ≡ x.m * x.m) (λ t c g u. length_tab (x.m * x.m) 0 _) rows s.done s.cov (all_true rows)

-- ---- n blocks of one length
blocks : {A B : Type 0} (g : A → List B) (u : ℕ) (l : List A) → AllOf (λ a. length (g a) ≡ u) l → length (join (map g l)) ≡ length l * u
unfolding join
blocks g u [] h = sym (zero-mul u)
blocks g u (a ∷ l) h = length-append (g a) (join (map g l)) ∙ ap₂ ◌+◌ h.0 (blocks g u l h.1) ∙ omega arith

module _ (x : Model) (s : Past) (ks : List Class) (fit : length ks ≡ x.n * x.p) where
  by : {B : Type 0} (g : CovPeriod → List B) (u : ℕ) → AllOf (λ c. length (g c) ≡ u) (cov_from x s ks).0 → length (join (map g (cov_from x s ks).0)) ≡ x.n * u
  by g u h = blocks g u (cov_from x s ks).0 h ∙ ap (λ (i : ℕ). i * u) (covs_many x s ks fit)

  pub kinds_long : length (kind_blocks (cov_from x s ks).0) ≡ x.n * x.p
  unfolding kind_block
  kinds_long = by kind_block x.p (all_as (cov_from x s ks).0 (λ c w. length-map c.decisions kind_no ∙ w.many) (covs_whole x s ks fit))

  stars : (m p : ℕ) (ds : List Decision) → Whole p m ds → length (join (map (m_star_of m) ds)) ≡ p * m
  stars m p ds w = blocks (m_star_of m) m ds (all_as ds (λ d h. h.star) w.shaped) ∙ ap (λ (i : ℕ). i * m) w.many

  infs : (m p : ℕ) (ds : List Decision) → Whole p m ds → length (join (map (m_inf_of m) ds)) ≡ p * m
  infs m p ds w = blocks (m_inf_of m) m ds (all_as ds (λ d h. h.inf) w.shaped) ∙ ap (λ (i : ℕ). i * m) w.many

  pub covs_long : CovKept x.m s.cov → (q : CovPart) → length (cov_blocks x.m q (cov_from x s ks).0) ≡ x.n * cov_unit x.p x.m q
  unfolding cov_block cov_unit
  covs_long k predCov = by _ _ (all_as (cov_from x s ks).0 (λ c h. h.pred) (covs_sized x s ks fit k))
  covs_long k pred_inf = by _ _ (all_as (cov_from x s ks).0 (λ c h. h.pred_inf) (covs_sized x s ks fit k))
  covs_long k filtCov = by _ _ (covs_filt x s ks)
  covs_long k fStar = by _ _ (all_as (cov_from x s ks).0 (λ c w. length-map c.decisions f_star_of ∙ w.many) (covs_whole x s ks fit))
  covs_long k fInf = by _ _ (all_as (cov_from x s ks).0 (λ c w. length-map c.decisions f_inf_of ∙ w.many) (covs_whole x s ks fit))
  covs_long k mStar = by _ _ (all_as (cov_from x s ks).0 (λ c w. stars x.m x.p c.decisions w) (covs_whole x s ks fit))
  covs_long k mInf = by _ _ (all_as (cov_from x s ks).0 (λ c w. infs x.m x.p c.decisions w) (covs_whole x s ks fit))

  pub kinds_written_lem : length (kinds_written (cov_from x s ks)) ≡ kinds_need x
  unfolding kinds_written kinds_need
  kinds_written_lem = kinds_long

  pub cov_written_lem : CovKept x.m s.cov → (q : CovPart) → length (cov_written x.m (cov_from x s ks) q) ≡ cov_need x q
  unfolding cov_written cov_need cov_unit
  cov_written_lem k predCov = length-append (cov_blocks x.m predCov (cov_from x s ks).0) (cov_from x s ks).1.star ∙ ap₂ ◌+◌ (covs_long k predCov) (covs_kept x s ks k).star.long
  cov_written_lem k pred_inf = length-append (cov_blocks x.m pred_inf (cov_from x s ks).0) (cov_from x s ks).1.pinf ∙ ap₂ ◌+◌ (covs_long k pred_inf) (covs_kept x s ks k).pinf.long
  cov_written_lem k filtCov = covs_long k filtCov
  cov_written_lem k fStar = covs_long k fStar
  cov_written_lem k fInf = covs_long k fInf
  cov_written_lem k mStar = covs_long k mStar
  cov_written_lem k mInf = covs_long k mInf

-- ---- the means

record MeanLong (p m : ℕ) (s : MeanPeriod) : Type 0 where
  pred : length s.pred ≡ m
  filt : length s.filt ≡ m
  vs : length s.vs ≡ p

abbrev Row : ℕ → List Decision × List Float → Type 0
Row p e = (length e.0 ≡ p) × (length e.1 ≡ p)

mean_long : (y : Frame) (x : Shift) (p t : ℕ) (s : Mean) (e : List Decision × List Float) → MeanKept y.m s → Row p e → MeanLong p y.m (mean_period y x t s e).0
unfolding mean_period_of mean_ended hear
mean_long y x p t s e h r =
    record {
      pred = h.a.long;
      filt = (scan_keeps (hear y.m (y.design_at t) x.d) (MeanKept y.m) (λ i s e k. heed_kept y.m s _ e.0 k) (pairs e.0 e.1) 0 s h).a.long;
      vs = length-scan (hear y.m (y.design_at t) x.d) (pairs e.0 e.1) 0 s ∙ length_pairs p e.0 e.1 r.0 r.1;
    }

rows : (p : ℕ) (ds : List (List Decision)) (ys : List (List Float)) → AllOf (λ d. length d ≡ p) ds → Each p ys → AllOf (Row p) (pairs ds ys)
unfolding pairs
rows p [] ys h g = tt
rows p (d ∷ ds) [] h g = tt
rows p (d ∷ ds) (y ∷ ys) h g = ((h.0, g.0), rows p ds ys h.1 g.1)

whole_rows : (p m : ℕ) (cs : List CovPeriod) → AllOf (λ c. Whole p m c.decisions) cs → AllOf (λ d. length d ≡ p) (decisions_of cs)
whole_rows p m [] h = tt
whole_rows p m (c ∷ cs) h = (h.0.many, whole_rows p m cs h.1)

module _ (x : Model) (o : Offsets) (s : Carried) (y : List Float) (fit : length y ≡ x.n * x.p) (k : MeanKept x.m s.mean) where
  classes_fit : length (map class_of y) ≡ x.n * x.p
  classes_fit = length-map y class_of ∙ fit

  row_pairs : AllOf (Row x.p) (pairs (decisions_of (cov_from x s.past (map class_of y)).0) (chunks x.n x.p y))
  row_pairs = rows x.p (decisions_of (cov_from x s.past (map class_of y)).0) (chunks x.n x.p y) (whole_rows x.p x.m (cov_from x s.past (map class_of y)).0 (covs_whole x s.past (map class_of y) classes_fit)) (chunks_each x.n x.p y fit)

  means_shaped : AllOf (MeanLong x.p x.m) (mean_on x o s y).0
  unfolding mean_on mean_from mean_run frame_of frame_from
  means_shaped =
      let sh : Shift = record { c = o.c; d = o.d } in
      scan_leaves (mean_period (frame_of x) sh) (MeanKept x.m) (Row x.p) (MeanLong x.p x.m) (mean_step_lem (frame_of x) sh) (mean_long (frame_of x) sh x.p) _ s.past.done s.mean k row_pairs

  means_many : length (mean_on x o s y).0 ≡ x.n
  unfolding mean_on mean_from mean_run
  means_many =
      let cs = (cov_from x s.past (map class_of y)).0 in
      length-scan (mean_period (frame_of x) (record { c = o.c; d = o.d })) _ s.past.done s.mean
      ∙ length_pairs x.n (decisions_of cs) (chunks x.n x.p y) (length-map cs _ ∙ covs_many x s.past (map class_of y) classes_fit) (length-chunks x.n x.p y)

  of : (g : MeanPeriod → List Float) (u : ℕ) → AllOf (λ c. length (g c) ≡ u) (mean_on x o s y).0 → length (join (map g (mean_on x o s y).0)) ≡ x.n * u
  of g u h = blocks g u (mean_on x o s y).0 h ∙ ap (λ (i : ℕ). i * u) means_many

  pub means_long : (q : MeanPart) → length (mean_blocks q (mean_on x o s y).0) ≡ x.n * mean_unit x.p x.m q
  unfolding mean_block mean_unit
  means_long predMean = of _ _ (all_as (mean_on x o s y).0 (λ c h. h.pred) means_shaped)
  means_long filtMean = of _ _ (all_as (mean_on x o s y).0 (λ c h. h.filt) means_shaped)
  means_long innovations = of _ _ (all_as (mean_on x o s y).0 (λ c h. h.vs) means_shaped)

  on_kept : MeanKept x.m (mean_on x o s y).1
  unfolding mean_on
  on_kept = means_kept x o s.past.done s.mean _ y k

  pub mean_written_lem : (q : MeanPart) → length (mean_written (mean_on x o s y) q) ≡ mean_need x q
  unfolding mean_written mean_need mean_unit
  mean_written_lem predMean = length-append (mean_blocks predMean (mean_on x o s y).0) (mean_on x o s y).1.a ∙ ap₂ ◌+◌ (means_long predMean) on_kept.a.long
  mean_written_lem filtMean = means_long filtMean
  mean_written_lem innovations = means_long innovations
