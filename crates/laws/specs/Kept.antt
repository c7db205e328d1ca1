-- What a carried state keeps from a run's start through every stretch: its lengths, that its numbers are doubles (`went_kept`), and its tallies in
-- range (`tallies_kept`). What is loaded from bytes has them too: SavedBack.
use Rattle.std.specs.Prelude.{◌≡◌, ℕ, zero, suc, ◌+◌, ◌*◌, ◌/◌, ◌%◌, ◌≤◌, Bool, true, false, not, ◌&&◌, cond, List, [], ◌∷◌, map, length, get_or, T, ltb, eqb, Float}
use Rattle.std.proofs.Common.{◌∙◌, add-mul, arith}
use Rattle.std.proofs.lemmas.List.{length-map}
use Rattle.std.specs.Float.{nan, binary64}
use Rattle.std.specs.Float.Ieee.{fits}
use Rattle.std.specs.Float.Ieee.Fits.{add-fits, sub-fits, mul-fits, nan-fits, cond-fits}
use Rattle.std.specs.Float.Ieee.Bits.{of_bits-fits}
use Rattle.definition.specs.Num.{0ᶠ, 1ᶠ, is_zero, tab_from, tabulate, sum_to, at}
use Rattle.definition.specs.Dense.{axpy, axpy_at, outer_sub, outer_sub_at, less_of, product, product_at, product_term, sandwich, plus, plus_at, symmetrise, sym_at, row}
use Rattle.definition.specs.Run.{scan, chunks, pairs, join, count}
use Rattle.definition.specs.Cov.{System, Cov, Fixed, Inner, Decision, skipped, usual, diffuse, CovPeriod, apply, root_less, verdict, element_of, is_live, entered, ended, stepped, step_star, step_inf, period_of, period, cov_run}
use Rattle.definition.specs.Mean.{Mean, Frame, Shift, heed, hear, usual_term, diffuse_term, mean_step, mean_ended, mean_period_of, mean_period, mean_run}
use Rattle.definition.specs.Inputs.{Model, Offsets, Class, class_of, is_gap, system_of, frame_of, system_from, frame_from, gap_rows, start_of, start_from, start_inf, start_inf_at, start_root, start_root_at, is_flagged, flags_before}
use Rattle.definition.specs.Parts.{is_news}
use Rattle.definition.specs.Reports.{cov_report, mean_report}
use Rattle.definition.specs.Outcome.{counts_of, decisions_of}
use Rattle.definition.specs.Carried.{Past, Carried, begun_past, begun_mean, cov_from, mean_from, plus as plusCounts, past_on, mean_on, mean_off_on, went}
use Rattle.laws.specs.Lists.{length_tab, length-chunks, length_pairs, length-scan, join-chunks}
use Rattle.laws.specs.Passes.{count-append, count-le}
use Rattle.laws.specs.All.{AllOf, scan_keeps}
use Rattle.laws.specs.Shapes.{run_length}
use Rattle.laws.specs.Reports.{told_le, cov_report_le, mean_report_le}

-- ---- what is kept

abbrev pub Double : Float → Type 0
Double v = T (fits binary64 v)

-- k of them
pub record Doubles (k : ℕ) (l : List Float) : Type 0 where
  pub long : length l ≡ k
  pub each : AllOf Double l

pub record CovKept (m : ℕ) (c : Cov) : Type 0 where
  pub star : Doubles (m * m) c.star
  pub pinf : Doubles (m * m) c.pinf
  pub root : Doubles (m * m) c.root
  pub unres : Doubles (m * m) c.unres

pub record MeanKept (m : ℕ) (s : Mean) : Type 0 where
  pub a : Doubles m s.a
  pub loglik : Double s.loglik

pub record Kept (m : ℕ) (s : Carried) : Type 0 where
  pub cov : CovKept m s.past.cov
  pub mean : MeanKept m s.mean

-- the ranges of refusal 15
pub record Tallied (p : ℕ) (s : Carried) : Type 0 where
  pub d_diffuse : s.past.counts.d_diffuse ≤ s.past.done
  pub heard : s.past.counts.heard ≤ s.past.done * p
  pub news : s.past.counts.news ≤ s.past.counts.heard
  pub cov_off : s.past.cov_off ≤ s.past.done
  pub mean_off : s.mean_off ≤ s.past.done

-- ---- tables

tab_all : (n k : ℕ) (f : ℕ → Float) → ((i : ℕ) → Double (f i)) → AllOf Double (tab_from k n f)
unfolding tab_from
tab_all zero k f h = tt
tab_all (suc n) k f h = (h k, tab_all n (suc k) f h)

table : (n : ℕ) (f : ℕ → Float) → ((i : ℕ) → Double (f i)) → Doubles n (tabulate n f)
table n f h = record { long = length_tab n 0 f; each = tab_all n 0 f h }

entry : (l : List Float) (i : ℕ) → AllOf Double l → Double (get_or l i nan)
entry [] i h = nan-fits binary64
entry (v ∷ l) zero h = h.0
entry (v ∷ l) (suc i) h = entry l i h.1

zero_double : Double 0ᶠ
zero_double = of_bits-fits binary64 0

sum_double : (k : ℕ) (f : ℕ → Float) → Double (sum_to k f)
unfolding sum_to
sum_double zero f = zero_double
sum_double (suc k) f = add-fits binary64 (sum_to k f) (f k)

product_doubles : (r k c : ℕ) (a b : List Float) → Doubles (r * c) (product r k c a b)
unfolding product product_at
product_doubles r k c a b = table (r * c) (λ l. product_at k c a b (l / c) (l % c)) (λ l. sum_double k (product_term k c a b (l / c) (l % c)))

sandwich_doubles : (m : ℕ) (t p : List Float) → Doubles (m * m) (sandwich m t p)
unfolding sandwich
sandwich_doubles m t p = product_doubles m m m _ _

plus_doubles : (m : ℕ) (a b : List Float) → Doubles (m * m) (plus m a b)
unfolding plus plus_at
plus_doubles m a b = table (m * m) (λ l. plus_at m a b (l / m) (l % m)) (λ l. add-fits binary64 _ _)

sym_doubles : (m : ℕ) (a : List Float) → AllOf Double a → Doubles (m * m) (symmetrise m a)
unfolding symmetrise sym_at
sym_doubles m a h =
    table (m * m) (λ l. sym_at m a (l / m) (l % m))
    (λ l. cond-fits binary64 (ltb (l / m) (l % m)) _ _ (mul-fits binary64 _ _) (cond-fits binary64 (ltb (l % m) (l / m)) _ _ (mul-fits binary64 _ _) (entry a (l / m * m + l % m) h)))

outer_doubles : (m : ℕ) (p a b : List Float) → AllOf Double p → Doubles (m * m) (outer_sub m p a b)
unfolding outer_sub outer_sub_at less_of
outer_doubles m p a b h =
    table (m * m) (λ l. outer_sub_at m p a b (l / m) (l % m)) (λ l. cond-fits binary64 (is_zero (at b (l % m))) _ _ (entry p (l / m * m + l % m) h) (sub-fits binary64 _ _))

axpy_doubles : (k : ℕ) (y x : List Float) (s : Float) → Doubles k (axpy k y s x)
unfolding axpy axpy_at
axpy_doubles k y x s = table k (axpy_at y s x) (λ i. add-fits binary64 _ _)

either_doubles : (b : Bool) (k : ℕ) (u v : List Float) → Doubles k u → Doubles k v → Doubles k (cond b u v)
either_doubles true k u v h g = h
either_doubles false k u v h g = g

-- ---- the covariances

root_kept : (m : ℕ) (z : List Float) (i : ℕ) (s : Inner) (d : Decision) → Doubles (m * m) s.root → Doubles (m * m) (apply m z i s d).root
unfolding apply root_less
root_kept m z i s (skipped c) h = h
root_kept m z i s (usual f a) h = h
root_kept m z i s (diffuse f g a b) h = outer_doubles m s.root _ _ h.each

cov_step : (y : System) (t : ℕ) (c : Cov) (g : List Bool) → CovKept y.m c → CovKept y.m (period y t c g).1
unfolding period_of ended stepped step_star step_inf element_of
cov_step y t c g h =
    let m = y.m in
    let lasts = is_live m c.live c.pinf in
    let f : Fixed = record { diffuse = lasts; z = y.design_at t; pre = c.star; unres = c.unres } in
    let s : Inner = record { star = c.star; pinf = entered m lasts c.pinf; root = c.root; taken = [] } in
    let root = scan_keeps (element_of y.p m y.h f) (λ (s : Inner). Doubles (m * m) s.root) (λ i s b k. root_kept m (row m f.z i) i s (verdict y.p m y.h f i s b) k) g 0 s h.root in
    record {
      star = sym_doubles m _ (plus_doubles m _ _).each;
      pinf = sym_doubles m _ (sandwich_doubles m _ _).each;
      root = either_doubles lasts (m * m) _ _ (product_doubles m m m _ _) root;
      unres = either_doubles lasts (m * m) _ _ (sandwich_doubles m _ _) h.unres;
    }

-- ---- the means

pub heed_kept : (m : ℕ) (s : Mean) (v : Float) (d : Decision) → MeanKept m s → MeanKept m (heed m s v d)
unfolding heed usual_term diffuse_term
heed_kept m s v (skipped c) h = h
heed_kept m s v (usual f a) h = record { a = axpy_doubles m _ _ _; loglik = sub-fits binary64 _ _ }
heed_kept m s v (diffuse f g a b) h = record { a = axpy_doubles m _ _ _; loglik = sub-fits binary64 _ _ }

pub mean_step_lem : (y : Frame) (x : Shift) (t : ℕ) (s : Mean) (e : List Decision × List Float) → MeanKept y.m s → MeanKept y.m (mean_period y x t s e).1
unfolding mean_period_of mean_ended mean_step hear
mean_step_lem y x t s e h =
    let k = scan_keeps (hear y.m (y.design_at t) x.d) (MeanKept y.m) (λ i s e k. heed_kept y.m s _ e.0 k) _ 0 s h in
    record { a = axpy_doubles y.m _ _ _; loglik = k.loglik }

-- ---- a carried state

pub covs_kept : (x : Model) (s : Past) (ks : List Class) → CovKept x.m s.cov → CovKept x.m (cov_from x s ks).1
unfolding cov_from cov_run system_of system_from
covs_kept x s ks h = scan_keeps (period (system_of x)) (CovKept x.m) (cov_step (system_of x)) _ s.done s.cov h

pub means_kept : (x : Model) (o : Offsets) (t : ℕ) (s : Mean) (cs : List CovPeriod) (y : List Float) → MeanKept x.m s → MeanKept x.m (mean_from x o t s cs y).1
unfolding mean_from mean_run frame_of frame_from
means_kept x o t s cs y h = let sh : Shift = record { c = o.c; d = o.d } in scan_keeps (mean_period (frame_of x) sh) (MeanKept x.m) (mean_step_lem (frame_of x) sh) _ t s h

pub went_kept : (x : Model) (o : Offsets) (s : Carried) (y : List Float) → Kept x.m s → Kept x.m (went x o s y)
unfolding went past_on mean_on
went_kept x o s y h = record { cov = covs_kept x s.past (map class_of y) h.cov; mean = means_kept x o s.past.done s.mean _ y h.mean }

-- from the start
one_or_zero : (b : Bool) → Double (cond b 1ᶠ 0ᶠ)
one_or_zero b = cond-fits binary64 b _ _ (of_bits-fits binary64 _) zero_double

inf_doubles : (m : ℕ) (flags : List ℕ) → Doubles (m * m) (start_inf m flags)
unfolding start_inf start_inf_at
inf_doubles m flags = table (m * m) (λ l. start_inf_at flags (l / m) (l % m)) (λ l. one_or_zero (eqb (l / m) (l % m) && is_flagged flags (l / m)))

root_doubles : (m : ℕ) (flags : List ℕ) → Doubles (m * m) (start_root m flags)
unfolding start_root start_root_at
root_doubles m flags = table (m * m) (λ l. start_root_at flags (l / m) (l % m)) (λ l. one_or_zero (is_flagged flags (l / m) && eqb (flags_before flags (l / m)) (l % m)))

-- a run begins
abbrev pub begun : Model → Offsets → Carried
begun x o = record { past = begun_past x; mean = begun_mean o; mean_off = 0 }

pub begun_kept : (x : Model) (o : Offsets) → Doubles (x.m * x.m) x.p_star → Doubles x.m o.a1 → Kept x.m (begun x o)
unfolding begun_past begun_mean start_of start_from
begun_kept x o h g =
    record {
      cov = record { star = h; pinf = inf_doubles x.m x.flags; root = root_doubles x.m x.flags; unres = inf_doubles x.m x.flags };
      mean = record { a = g; loglik = zero_double };
    }

-- ---- the tallies

one_news : (p m : ℕ) (h : List Float) (f : Fixed) (i : ℕ) (s : Inner) (g : Bool) → cond (is_news (verdict p m h f i s g)) 1 0 ≤ cond (not g) 1 0
unfolding verdict
one_news p m h f i s true = omega arith
one_news p m h f i s false = at_most (is_news (verdict p m h f i s false))
  where
    at_most : (b : Bool) → cond b 1 0 ≤ 1
    at_most true = omega arith
    at_most false = omega arith

row_news : (p m : ℕ) (h : List Float) (f : Fixed) (gs : List Bool) (i : ℕ) (s : Inner) → count is_news (scan (element_of p m h f) i s gs).0 ≤ count not gs
unfolding scan count element_of
row_news p m h f [] i s = omega arith
row_news p m h f (g ∷ gs) i s =
    let a = one_news p m h f i s g in
    let b = row_news p m h f gs (suc i) (element_of p m h f i s g).1 in
    omega arith

period_news : (y : System) (t : ℕ) (c : Cov) (g : List Bool) → count is_news (period y t c g).0.decisions ≤ count not g
unfolding period_of ended
period_news y t c g = row_news y.p y.m y.h _ g 0 _

run_news : (y : System) (rows : List (List Bool)) (t : ℕ) (c : Cov) → count is_news (join (decisions_of (scan (period y) t c rows).0)) ≤ count not (join rows)
unfolding scan count join
run_news y [] t c = omega arith
run_news y (g ∷ rows) t c =
    let a = count-append is_news (period y t c g).0.decisions (join (decisions_of (scan (period y) (suc t) (period y t c g).1 rows).0)) in
    let b = count-append not g (join rows) in
    let d : count is_news (period y t c g).0.decisions ≤ count not g = period_news y t c g in
    let r = run_news y rows (suc t) (period y t c g).1 in
    omega arith

pub means_length : (x : Model) (o : Offsets) (s : Carried) (y : List Float) → length (mean_on x o s y).0 ≡ x.n
unfolding mean_on mean_from mean_run cov_from
means_length x o s y =
    let cs = (cov_run (system_of x) s.past.done s.past.cov (gap_rows x.n x.p (map class_of y))).0 in
    length-scan (mean_period (frame_of x) (record { c = o.c; d = o.d })) (pairs (decisions_of cs) (chunks x.n x.p y)) s.past.done s.mean
    ∙ length_pairs x.n (decisions_of cs) (chunks x.n x.p y) (length-map cs (λ (c : CovPeriod). c.decisions) ∙ run_length (system_of x) s.past.done s.past.cov (map class_of y) x.n x.p) (length-chunks x.n x.p y)

pub tallies_kept : (x : Model) (o : Offsets) (c : Carried) (y : List Float) → length (map class_of y) ≡ x.n * x.p → Tallied x.p c → Tallied x.p (went x o c y)
unfolding went past_on plusCounts counts_of cov_from cov_run gap_rows mean_off_on
tallies_kept x o c y e h =
    let s = c.past in
    let ks = map class_of y in
    let rows = chunks x.n x.p (map is_gap ks) in
    let cs = (scan (period (system_of x)) s.done s.cov rows).0 in
    let l : length (map is_gap ks) ≡ x.n * x.p = length-map ks is_gap ∙ e in
    let d = count-le (λ (c : CovPeriod). c.diffuse) cs in
    let dl : length cs ≡ x.n = length-scan (period (system_of x)) rows s.done s.cov ∙ length-chunks x.n x.p (map is_gap ks) in
    let g = count-le not (map is_gap ks) in
    let nw : count is_news (join (decisions_of cs)) ≤ count not (map is_gap ks) = rw (join-chunks x.n x.p (map is_gap ks) l) at (run_news (system_of x) rows s.done s.cov) in
    let dist : (s.done + x.n) * x.p ≡ s.done * x.p + x.n * x.p = add-mul s.done x.n x.p in
    record {
      d_diffuse = omega (arith, h.d_diffuse);
      heard = omega (arith, h.heard);
      news = omega (arith, h.news);
      cov_off = told_le s.cov_off (cov_report s.done cs) (s.done + x.n) (omega (arith, h.cov_off)) (cov_report_le s.done x.n cs dl);
      mean_off = told_le c.mean_off (mean_report s.done (mean_on x o c y).0) (s.done + x.n) (omega (arith, h.mean_off)) (mean_report_le s.done x.n (mean_on x o c y).0 (means_length x o c y));
    }

pub begun_tallied : (x : Model) (o : Offsets) → Tallied x.p (begun x o)
unfolding begun_past
begun_tallied x o = record { d_diffuse = omega arith; heard = omega arith; news = omega arith; cov_off = omega arith; mean_off = omega arith }
