-- The reports read off the lent parts: what a pass looks at there (`cov_told`, `mean_told`), and what a caller finds there (`cov_names`, `mean_names`),
-- is what the definition's reports say.
use Rattle.std.specs.Prelude.{◌≡◌, refl, ℕ, ◌+◌, ◌*◌, ◌-◌, ◌≤◌, ◌<◌, Bool, true, ◌||◌, cond, take, drop, get_or, Float}
use Rattle.std.proofs.Math.Path.{sym, ap}
use Rattle.std.proofs.Common.{ap₂, ◌∙◌, zero-add, length-append, length-take, ext_get_or, get_or-take, take_at, drop_at}
use native.Mathlib.Omega.{arith}
use Rattle.std.proofs.Math.Bool.{false}
use mathlib.Core.List.{List, [], ◌∷◌, ◌++◌, map, append_assoc}
use Rattle.std.proofs.Math.ListN.{length, length-map}
use Rattle.std.proofs.Math.Seq.{take_all}
use Rattle.definition.specs.Num.{tabulate}
use Rattle.definition.specs.Run.{join, count, lay}
use Rattle.definition.specs.Cov.{System, Cov, Decision, CovPeriod, period, cov_run}
use Rattle.definition.specs.Mean.{Frame, Shift, Mean, MeanPeriod, mean_period, mean_period_of, mean_ended, mean_run}
use Rattle.definition.specs.Parts.{predCov, pred_inf, filtCov, predMean, filtMean, cov_block, mean_block}
use Rattle.definition.specs.Refusals.{not_finite}
use Rattle.definition.specs.Reports.{first_from, cov_is_off, mean_is_off, cov_report, mean_report}
use Rattle.definition.specs.Outcome.{cov_written, mean_written}
use Rattle.laws.specs.All.{AllOf, all_true, scan_keeps, scan_leaves}
use Rattle.laws.specs.Lists.{Each, length_tab, tab_at, length-join}
use Rattle.laws.specs.Passes.{count-le}
use Rattle.laws.specs.Long.{mean_long}
use Rattle.laws.specs.Flat.{block_at}
use Rattle.laws.specs.ReadBack.{get_d_map_in}
use Rattle.laws.specs.Backward.{part_block, block_back, each_pred, each_inf}
use Rattle.laws.specs.Shapes.{Sized, SizedP, run_sized, period_keeps}
use Rattle.laws.specs.RunsOff.{cov_found, mean_found, filt_long, next_long}

-- block t of three parts: a number in one of them is not finite
unfoldable pub off_at : ℕ → List Float → List Float → List Float → ℕ → Bool
off_at k a b c t = not_finite (block_at k a t) || not_finite (block_at k b t) || not_finite (block_at k c t)

-- ---- blocks

block_at_end : (k n : ℕ) (ls : List (List Float)) (s tail : List Float) → Each k ls → length ls ≡ n → length s ≡ k → block_at k ((join ls ++ s) ++ tail) n ≡ s
block_at_end k n ls s tail each many long =
    let l = (join ls ++ s) ++ tail in
    let front : length (join ls) ≡ n * k = length-join k ls each ∙ ap (λ (i : ℕ). i * k) many in
    let room : n * k + k ≤ length l = omega (arith, length-append (join ls ++ s) tail, length-append (join ls) s) in
    let size : n * k + k - n * k ≡ k = omega arith in
    sym (part_block n k l room)
    ∙ ap₂ (λ (i : ℕ) (z : List Float). take i z) size (ap (drop (n * k)) (append_assoc (join ls) s tail) ∙ drop_at (join ls) (s ++ tail) (n * k) front)
    ∙ take_at s tail k long

tab_taken : (u : ℕ) (l : List Bool) (f : ℕ → Bool) → u ≤ length l → ((i : ℕ) → i < u → f i ≡ get_or l i false) → tabulate u f ≡ take u l
tab_taken u l f h same =
    ext_get_or false (tabulate u f) (take u l) (length_tab u 0 f ∙ sym (simp length-take (omega arith))) (λ i b.
    let i< : i < u = rw length_tab at b in
    tab_at u 0 i f false i< ∙ ap f (zero-add i) ∙ same i i< ∙ sym (get_or-take u l i false i<))

-- what is off of a period, by three blocks that stand in the parts: at each place, and in a table
module _ {A : Type 0} (off : A → Bool) (k : ℕ) (g₁ g₂ g₃ : A → List Float) (same : (p : A) → off p ≡ (not_finite (g₁ p) || not_finite (g₂ p) || not_finite (g₃ p))) (ps : List A) (d : A)
    (e₁ : Each k (map g₁ ps)) (e₂ : Each k (map g₂ ps)) (e₃ : Each k (map g₃ ps)) (a b c t₁ t₂ t₃ : List Float) (is₁ : a ≡ join (map g₁ ps) ++ t₁) (is₂ : b ≡ join (map g₂ ps) ++ t₂) (is₃ : c ≡ join (map g₃ ps) ++ t₃) where
  block_is : (g : A → List Float) (l t : List Float) → Each k (map g ps) → l ≡ join (map g ps) ++ t → (i : ℕ) → i < length ps → block_at k l i ≡ g (get_or ps i d)
  block_is g l t e is i h = ap (λ (z : List Float). block_at k z i) is ∙ block_back k (map g ps) t i e (rw length-map h) ∙ get_d_map_in g ps i d [] h

  seen : (u : ℕ) → u ≤ length ps → tabulate u (off_at k a b c) ≡ take u (map off ps)
  unfolding off_at
  seen u h =
      tab_taken u (map off ps) (off_at k a b c) (rw length-map h) (λ i i<.
      let i<' : i < length ps = omega arith in
      let s₁ = block_is g₁ a t₁ e₁ is₁ i i<' in
      let s₂ = block_is g₂ b t₂ e₂ is₂ i i<' in
      let s₃ = block_is g₃ c t₃ e₃ is₃ i i<' in
      rw (s₁, s₂, s₃) (sym (same (get_or ps i d)) ∙ sym (get_d_map_in off ps i d false i<')))

-- ---- the covariances

each_filt : (m : ℕ) (cs : List CovPeriod) → AllOf (SizedP m) cs → Each (m * m) (map (cov_block m filtCov) cs)
unfolding cov_block
each_filt m [] h = tt
each_filt m (c ∷ cs) h = (h.0.filt, each_filt m cs h.1)

nowhere : CovPeriod
nowhere = record { diffuse = false; pred = []; pred_inf = []; decisions = []; filt = [] }

either_le : (b : Bool) (n d : ℕ) → d ≤ n → cond b n d ≤ n
either_le true n d h = omega arith
either_le false n d h = h

covs_sized : (y : System) (t : ℕ) (c : Cov) (rows : List (List Bool)) → Sized y.m c → Sized y.m (cov_run y t c rows).1
unfolding cov_run
covs_sized y t c rows h = scan_keeps (period y) (Sized y.m) (period_keeps y).goes_on rows t c h

module _ (y : System) (t : ℕ) (c : Cov) (rows : List (List Bool)) (sized : Sized y.m c) (n : ℕ) (many : length (cov_run y t c rows).0 ≡ n) (pc₀ pc pi₀ pi fc₀ fc : List Float)
    (pred : pc ≡ lay (cov_written y.m (cov_run y t c rows) predCov) pc₀) (inf : pi ≡ lay (cov_written y.m (cov_run y t c rows) pred_inf) pi₀) (filt : fc ≡ lay (cov_written y.m (cov_run y t c rows) filtCov) fc₀) where
  abbrev ps : List CovPeriod
  ps = (cov_run y t c rows).0

  sizes : AllOf (SizedP y.m) ps
  unfolding cov_run
  sizes = run_sized y.m (period y) (period_keeps y) rows t c sized

  cov_seen_lem : (u : ℕ) → u ≤ n → tabulate u (off_at (y.m * y.m) pc pi fc) ≡ take u (map cov_is_off ps)
  unfolding cov_written cov_is_off cov_block
  cov_seen_lem u h =
      let m = y.m in
      seen cov_is_off (m * m) (cov_block m predCov) (cov_block m pred_inf) (cov_block m filtCov) (λ p. refl) ps nowhere (each_pred m ps sizes) (each_inf m ps sizes) (each_filt m ps sizes) pc pi fc _ _ _
      (pred ∙ append_assoc (join (map (cov_block m predCov) ps)) (cov_run y t c rows).1.star _)
      (inf ∙ append_assoc (join (map (cov_block m pred_inf) ps)) (cov_run y t c rows).1.pinf _)
      filt u (omega (arith, many))

  -- place n is where the run ended
  place_n : block_at (y.m * y.m) pc n ≡ (cov_run y t c rows).1.star
  unfolding cov_written
  place_n =
      let m = y.m in
      ap (λ (l : List Float). block_at (m * m) l n) pred
      ∙ block_at_end (m * m) n (map (cov_block m predCov) ps) (cov_run y t c rows).1.star _ (each_pred m ps sizes) (length-map ps (cov_block m predCov) ∙ many) star_long
    where
      star_long : length (cov_run y t c rows).1.star ≡ y.m * y.m
      star_long = (covs_sized y t c rows sized).star

  pub cov_told : (k d : ℕ) → d ≡ count (λ (c : CovPeriod). c.diffuse) ps → first_from k (tabulate (cond (not_finite (block_at (y.m * y.m) pc n)) n d) (off_at (y.m * y.m) pc pi fc)) ≡ cov_report k ps
  cov_told k d e =
      let until = cond (not_finite (cov_run y t c rows).1.star) n d in
      let few : until ≤ n = either_le (not_finite (cov_run y t c rows).1.star) n d (omega (arith, count-le (λ (c : CovPeriod). c.diffuse) ps, many)) in
      ap (λ (l : List Float). first_from k (tabulate (cond (not_finite l) n d) (off_at (y.m * y.m) pc pi fc))) place_n
      ∙ ap (first_from k) (cov_seen_lem until few)
      ∙ ap₂ (λ (i j : ℕ). first_from k (take (cond (not_finite (cov_run y t c rows).1.star) i j) (map cov_is_off ps))) (sym many) e
      ∙ sym (cov_found y rows t c k sized)

  pub cov_names : (k : ℕ) → cov_report k ps ≡ first_from k (tabulate n (off_at (y.m * y.m) pc pi fc))
  unfolding cov_report
  cov_names k = ap (first_from k) (sym (cov_seen_lem n (omega arith) ∙ take_all n (map cov_is_off ps) (omega (arith, length-map ps cov_is_off, many))))

-- ---- the means

or_again : (a b : Bool) → (a || b) ≡ (a || b || b)
or_again true b = refl
or_again false true = refl
or_again false false = refl

-- each predicted and each filtered mean has m places
record SizedMean (m : ℕ) (s : MeanPeriod) : Type 0 where
  pred : length s.pred ≡ m
  filt : length s.filt ≡ m

each_pred_mean : (m : ℕ) (ss : List MeanPeriod) → AllOf (SizedMean m) ss → Each m (map (mean_block predMean) ss)
unfolding mean_block
each_pred_mean m [] h = tt
each_pred_mean m (s ∷ ss) h = (h.0.pred, each_pred_mean m ss h.1)

each_filt_mean : (m : ℕ) (ss : List MeanPeriod) → AllOf (SizedMean m) ss → Each m (map (mean_block filtMean) ss)
unfolding mean_block
each_filt_mean m [] h = tt
each_filt_mean m (s ∷ ss) h = (h.0.filt, each_filt_mean m ss h.1)

nothing : MeanPeriod
nothing = record { pred = []; vs = []; filt = [] }

pred_is : (y : Frame) (x : Shift) (t : ℕ) (s : Mean) (e : List Decision × List Float) → length s.a ≡ y.m → length (mean_period y x t s e).0.pred ≡ y.m
unfolding mean_period_of mean_ended
pred_is y x t s e h = h

module _ (y : Frame) (x : Shift) (t : ℕ) (s : Mean) (es : List (List Decision × List Float)) (long : length s.a ≡ y.m) (n : ℕ) (many : length (mean_run y x t s es).0 ≡ n) (pm₀ pm fm₀ fm : List Float)
    (pred : pm ≡ lay (mean_written (mean_run y x t s es) predMean) pm₀) (filt : fm ≡ lay (mean_written (mean_run y x t s es) filtMean) fm₀) where
  abbrev ss : List MeanPeriod
  ss = (mean_run y x t s es).0

  mean_sizes : AllOf (SizedMean y.m) ss
  unfolding mean_run
  mean_sizes =
      scan_leaves (mean_period y x) (λ (s : Mean). length s.a ≡ y.m) (λ e. Unit {0}) (SizedMean y.m) (λ t s e h. next_long y x t s e) (λ t s e h u. record { pred = left t s e h; filt = filt_long y x t s e h }) es t s long (all_true es)
    where
      left : (t : ℕ) (s : Mean) (e : List Decision × List Float) → length s.a ≡ y.m → length (mean_period y x t s e).0.pred ≡ y.m
      left t s e h = pred_is y x t s e h

  mean_seen_lem : (u : ℕ) → u ≤ n → tabulate u (off_at y.m pm fm fm) ≡ take u (map mean_is_off ss)
  unfolding mean_written mean_is_off mean_block
  mean_seen_lem u h =
      seen mean_is_off y.m (mean_block predMean) (mean_block filtMean) (mean_block filtMean) (λ p. or_again (not_finite p.pred) (not_finite p.filt)) ss nothing (each_pred_mean y.m ss mean_sizes) (each_filt_mean y.m ss mean_sizes) (each_filt_mean y.m ss mean_sizes) pm fm fm _ _ _
      (pred ∙ append_assoc (join (map (mean_block predMean) ss)) (mean_run y x t s es).1.a _)
      filt filt u (omega (arith, many))

  mean_place_n : block_at y.m pm n ≡ (mean_run y x t s es).1.a
  unfolding mean_written
  mean_place_n =
      ap (λ (l : List Float). block_at y.m l n) pred
      ∙ block_at_end y.m n (map (mean_block predMean) ss) (mean_run y x t s es).1.a _ (each_pred_mean y.m ss mean_sizes) (length-map ss (mean_block predMean) ∙ many) (mean_long y x t s es long)

  pub mean_told : (k : ℕ) → first_from k (tabulate (cond (not_finite (block_at y.m pm n)) n 0) (off_at y.m pm fm fm)) ≡ mean_report k ss
  mean_told k =
      let until = cond (not_finite (mean_run y x t s es).1.a) n 0 in
      let few : until ≤ n = either_le (not_finite (mean_run y x t s es).1.a) n 0 (omega arith) in
      ap (λ (l : List Float). first_from k (tabulate (cond (not_finite l) n 0) (off_at y.m pm fm fm))) mean_place_n
      ∙ ap (first_from k) (mean_seen_lem until few)
      ∙ ap (λ (i : ℕ). first_from k (take (cond (not_finite (mean_run y x t s es).1.a) i 0) (map mean_is_off ss))) (sym many)
      ∙ sym (mean_found y x es t s k long)

  pub mean_names : (k : ℕ) → mean_report k ss ≡ first_from k (tabulate n (off_at y.m pm fm fm))
  unfolding mean_report
  mean_names k = ap (first_from k) (sym (mean_seen_lem n (omega arith) ∙ take_all n (map mean_is_off ss) (omega (arith, length-map ss mean_is_off, many))))
