-- A finite reading that was judged no news, changed: made a gap, it leaves the covariance run as it was but for the cause in its record; whatever it is
-- made, it leaves the mean run. Of a stretch from any state; the filter's call is the stretch from a run's start.
use Rattle.std.specs.Prelude.{◌≡◌, refl, ℕ, zero, suc, ◌+◌, ◌*◌, ◌/◌, ◌%◌, ◌<◌, Bool, false, not, ◌&&◌, T, eqb, length, set, Float}
use Rattle.std.proofs.Common.{sym, ◌∙◌, mul-zero, zero-lt-suc, div-lt_iff_lt-mul, mod-lt, not-suc-le-zero, arith, length-set}
use Rattle.std.proofs.Math.Path.{ap, subst}
use mathlib.Core.List.{List, [], ◌∷◌, map}
use Rattle.std.proofs.Math.Bool.{true}
use Rattle.std.proofs.Math.Dec.{eqb-suc-zero}
use Rattle.std.proofs.Math.ListN.{get_or, get_or-map, get_or-append}
use Rattle.std.proofs.lemmas.List.{length-map}
use Rattle.std.proofs.Math.Seq.{map-set_same}
use Rattle.std.specs.Float.Ieee.{nan}
use Rattle.definition.specs.Num.{is_finite, at}
use Rattle.definition.specs.Run.{pairs, chunks, join, count, any_of, lay}
use Rattle.definition.specs.Cov.{CovPeriod, atGap, cov_run}
use Rattle.definition.specs.Mean.{Shift, mean_run}
use Rattle.definition.specs.Inputs.{Model, Offsets, Class, gap, finite, class_of, is_gap, is_infinity, system_from, system_of, frame_of, gap_rows}
use Rattle.definition.specs.Refusals.{refusal}
use Rattle.definition.specs.Parts.{kind_no, is_news, kind_block}
use Rattle.definition.specs.Outcome.{answered, ending_of, number_of, kinds_written, decisions_of}
use Rattle.definition.specs.Carried.{Carried, cov_from, mean_from}
use Rattle.definition.specs.Tracks.{finite_class}
use Rattle.laws.specs.Lists.{map-set, chunks-set, Each, join_at, length-join, place_lt, count_set, any_of_set}
use Rattle.laws.specs.Flat.{no_decision}
use Rattle.laws.specs.ReadBack.{get_d_map_in, kinds_join, each_many}
use Rattle.laws.specs.Verdicts.{skip_by_kind}
use Rattle.laws.specs.Unseen.{OtherCause, quiet, unheard}
use Rattle.laws.specs.Accepted.{accepted}
use Rattle.laws.specs.Written.{covs_whole, covs_many}

-- ---- a call: what it knows of its readings where it is answered

pub within : (y : List Float) (k : ℕ) → T (is_finite (at y k)) → k < length y
unfolding is_finite
within [] k h = absurd h
within (v ∷ y) zero h = omega arith
within (v ∷ y) (suc k) h = let ih = within y k h in omega arith

pub answered_by : (r : ℕ) (quiet : Bool) → ending_of r quiet ≡ answered → (r ≡ 0) × (quiet ≡ false)
unfolding ending_of
answered_by zero true e = absurd (let z : ◌≡◌ {A = ℕ} 0 1 = cc in omega arith)
answered_by zero false e = (refl, refl)
answered_by (suc r) quiet e = absurd (let z : ◌≡◌ {A = ℕ} 0 1 = cc in omega arith)

pub zero_answers : (r : ℕ) (q : Bool) → number_of (ending_of r q) ≡ 0 → ending_of r q ≡ answered
unfolding ending_of number_of
zero_answers zero true e = absurd (omega arith)
zero_answers zero false e = refl
zero_answers (suc r) q e = absurd (omega arith)

pub readings_fit : (x : Model) (o : Offsets) (readings : ℕ) (infinity room : Bool) → refusal x o readings infinity room ≡ 0 → readings ≡ x.n * x.p
readings_fit x o readings infinity room e = (accepted x o readings infinity room e).readings

abbrev pub no_period : CovPeriod
no_period = record { diffuse = false; pred = []; pred_inf = []; decisions = []; filt = [] }

-- news anywhere rules refusal 12 out
pub informed : (heard : Bool) (news : ℕ) → 0 < news → (heard && eqb news 0) ≡ false
informed true zero h = absurd (omega arith)
informed true (suc n) h = eqb-suc-zero n
informed false n h = refl

-- period t, element i of a stretch of x from the state s: its reading is finite, and its record, which stands in the lent kinds, is a skip for another
-- cause than a gap
module _
    (x : Model)
    (o : Offsets)
    (s : Carried)
    (y : List Float)
    (old : List ℕ)
    (t i : ℕ)
    (inT : t < x.n)
    (inI : i < x.p)
    (fit : length (map class_of y) ≡ x.n * x.p)
    (read : T (is_finite (at y (t * x.p + i))))
    (skip : 2 < get_or (lay (kinds_written (cov_from x s.past (map class_of y))) old) (t * x.p + i) 0)
  where
    each : Each x.p (decisions_of (cov_from x s.past (map class_of y)).0)
    each = each_many x.p x.m (cov_from x s.past (map class_of y)).0 (covs_whole x s.past (map class_of y) fit)

    periods : length (cov_from x s.past (map class_of y)).0 ≡ x.n
    periods = covs_many x s.past (map class_of y) fit

    many : length (decisions_of (cov_from x s.past (map class_of y)).0) ≡ x.n
    many = length-map (cov_from x s.past (map class_of y)).0 _ ∙ periods

    long : t * x.p + i < length (join (decisions_of (cov_from x s.past (map class_of y)).0))
    long = rw (length-join x.p (decisions_of (cov_from x s.past (map class_of y)).0) each, many) (place_lt x.n x.p t i inT inI)

    pub kinds_long : t * x.p + i < length (kinds_written (cov_from x s.past (map class_of y)))
    unfolding kinds_written
    kinds_long = rw (kinds_join (cov_from x s.past (map class_of y)).0, length-map) long

    skip_at : is_news (get_or (get_or (decisions_of (cov_from x s.past (map class_of y)).0) t []) i no_decision) ≡ false
    unfolding kinds_written
    skip_at =
        let cs = (cov_from x s.past (map class_of y)).0 in
        let ds = decisions_of cs in
        let k = t * x.p + i in
        let e : get_or (lay (join (map kind_block cs)) old) k 0 ≡ kind_no (get_or (get_or ds t []) i no_decision) =
        get_or-append (join (map kind_block cs)) _ 0 k kinds_long
        ∙ ap (λ (l : List ℕ). get_or l k 0) (kinds_join cs)
        ∙ get_d_map_in kind_no (join ds) k no_decision 0 long
        ∙ ap kind_no (join_at x.p ds t i no_decision each (rw many inT) inI) in
        skip_by_kind (get_or (get_or ds t []) i no_decision) (rw e at skip)

    -- whatever stands there, the means are the same
    pub deaf : (v : Float) → mean_from x o s.past.done s.mean (cov_from x s.past (map class_of y)).0 (set y (t * x.p + i) v) ≡ mean_from x o s.past.done s.mean (cov_from x s.past (map class_of y)).0 y
    unfolding mean_from
    deaf v =
        let ds = decisions_of (cov_from x s.past (map class_of y)).0 in
        let sh : Shift = record { c = o.c; d = o.d } in
        let u = s.past.done in
        ap (λ (r : List (List Float)). mean_run (frame_of x) sh u s.mean (pairs ds r)) (chunks-set x.n x.p y t i v inI)
        ∙ unheard (frame_of x) sh u ds (chunks x.n x.p y) t i no_decision v s.mean skip_at

    -- a gap there: the same run, but for the cause
    abbrev pub muted : List Class
    muted = set (map class_of y) (t * x.p + i) gap

    pub gap_classes : map class_of (set y (t * x.p + i) nan) ≡ muted
    unfolding class_of
    gap_classes = map-set class_of y (t * x.p + i) nan

    pub run_with_gap : OtherCause x.p x.m t i atGap (cov_from x s.past (map class_of y)) (cov_from x s.past muted)
    unfolding cov_from gap_rows system_of system_from
    run_with_gap =
        let ks = map class_of y in
        let u = s.past.done in
        let gs = chunks x.n x.p (map is_gap ks) in
        subst
        (λ (g : List (List Bool)). OtherCause x.p x.m t i atGap (cov_from x s.past ks) (cov_run (system_of x) u s.past.cov g))
        (sym (ap (chunks x.n x.p) (map-set is_gap ks (t * x.p + i) gap) ∙ chunks-set x.n x.p (map is_gap ks) t i true inI))
        (quiet (system_of x) u s.past.cov x.p gs t i no_decision no_period each (rw periods inT) inI skip_at)

    pub gap_deaf : (v : Float) → mean_from x o s.past.done s.mean (cov_from x s.past muted).0 (set y (t * x.p + i) v) ≡ mean_from x o s.past.done s.mean (cov_from x s.past (map class_of y)).0 y
    unfolding mean_from
    gap_deaf v =
        let sh : Shift = record { c = o.c; d = o.d } in
        let u = s.past.done in
        ap (λ (r : List (List Float)). mean_run (frame_of x) sh u s.mean (pairs (decisions_of (cov_from x s.past muted).0) r)) (chunks-set x.n x.p y t i v inI)
        ∙ run_with_gap.means (frame_of x) sh u s.mean (chunks x.n x.p y) v

    seen : get_or (map class_of y) (t * x.p + i) gap ≡ finite
    unfolding class_of
    seen = get_or-map class_of y (t * x.p + i) nan ∙ finite_class (at y (t * x.p + i)) read

    -- another finite number there is of the same class
    pub same_classes : (v : Float) → T (is_finite v) → map class_of (set y (t * x.p + i) v) ≡ map class_of y
    same_classes v h = map-set_same class_of y (t * x.p + i) v nan (finite_class v h ∙ sym (finite_class (at y (t * x.p + i)) read))

    -- one reading less is heard
    pub one_less : suc (count not (map is_gap muted)) ≡ count not (map is_gap (map class_of y))
    one_less =
        let ks = map class_of y in
        let k = t * x.p + i in
        ap (λ (l : List Bool). suc (count not l)) (map-set is_gap ks k gap)
        ∙ count_set not (map is_gap ks) k true true (rw (length-map, fit) (place_lt x.n x.p t i inT inI)) (ap not (get_or-map is_gap ks k gap ∙ ap is_gap seen)) refl

    -- and what the refusals see of the readings is the same
    pub same_many : length muted ≡ length (map class_of y)
    same_many = length-set (map class_of y) (t * x.p + i) gap

    pub same_infinity : any_of is_infinity muted ≡ any_of is_infinity (map class_of y)
    same_infinity = any_of_set is_infinity (map class_of y) (t * x.p + i) gap gap (sym (ap is_infinity seen))

-- a place is some element of some period
pub place : (n p k : ℕ) → k < n * p → (k / p < n) × (k % p < p)
place n zero k h = absurd (not-suc-le-zero (rw mul-zero at h))
place n (suc p) k h = ((div-lt_iff_lt-mul (zero-lt-suc p)).1 h, mod-lt k (zero-lt-suc p))
