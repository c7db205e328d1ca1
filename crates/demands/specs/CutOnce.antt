-- The cut, over calls: a call over y ++ y', against one over y that is not the last and one over y' that goes on from its saved bytes (`cut_call`).
use Rattle.std.specs.Prelude.{◌≡◌, ◌⊎◌, ℕ, ◌+◌, ◌*◌, ◌/◌, ◌≤◌, Bool, false, not, ◌&&◌, ◌||◌, cond, length, take, drop, ltb, Float}
use Rattle.std.proofs.Math.Path.{refl, sym, ap, ap₂, subst}
use Rattle.std.proofs.Common.{◌∙◌, add-mul, length-append}
use native.Mathlib.Omega.{arith}
use Rattle.std.proofs.Math.Bool.{true}
use mathlib.Core.List.{List, ◌++◌, map, append_assoc}
use Rattle.std.proofs.lemmas.List.{length-map}
use Rattle.std.proofs.Math.Seq.{take_at}
use Rattle.std.proofs.Math.Dec.{eqb}
use borrow.Author.Tests.{ltb-false, le-ltb, eq-eqb}
use Rattle.definition.specs.Run.{any_of, lay}
use Rattle.definition.specs.Cov.{Cov, CovPeriod}
use Rattle.definition.specs.Mean.{Mean, MeanPeriod}
use Rattle.definition.specs.Inputs.{Model, Offsets, Class, class_of, is_infinity, noise, start_of}
use Rattle.definition.specs.Parts.{CovPart, predCov, pred_inf, filtCov, fStar, fInf, mStar, mInf, MeanPart, predMean, filtMean, innovations}
use Rattle.definition.specs.Refusals.{beyond, bad_length, inputs_fit, outrun, list_short}
use Rattle.definition.specs.Outcome.{CovParts, MeanParts, Ending, answered, ending_of, number_of, after, counts_in, loglik_in, report_in, no_information, kinds_need, cov_need, mean_need, kinds_written, cov_written, mean_written}
use Rattle.definition.specs.Carried.{Past, Carried, begun_past, cov_from, past_on, mean_on, went}
use Rattle.definition.specs.Saved.{saved_of, saved_need, widths, wrong_count, numbers_in, number_at, done_in, bad_sizes, bad_tallies, bad_floats, bad_saved}
use Rattle.definition.specs.Stretch.{From, StretchOutcome, past_in, mean_in, mean_told_in, carried_in, outside_stretch, bad_from, stretch_refusal, roomy_stretch, stretch_ending, cov_stretch, mean_stretch, stretch_outcome}
use Rattle.laws.specs.Any.{either_false, of_split}
use Rattle.laws.specs.All.{AllOf}
use Rattle.laws.specs.Passes.{map-append}
use Rattle.laws.specs.Bytes.{Byte}
use Rattle.laws.specs.Kept.{Kept}
use Rattle.laws.specs.SavedBack.{Savable, loaded, loads, saved_bytes, good}
use Rattle.laws.specs.Cut.{lasting, kind_blocks, cov_blocks, mean_blocks, cut_covs, cut_past, cut_means, cut_state, cut_kinds, cut_parts, cut_mean_parts}
use Rattle.laws.specs.Written.{cov_unit, mean_unit, kinds_long, covs_long, means_long, kinds_written_lem, cov_written_lem, mean_written_lem}
use Rattle.laws.specs.AcceptedStretch.{Passed, passes, none_applies, Ready, resume, Free, quiet_not}
use Rattle.laws.specs.AcceptedStretch as stretch

-- ---- the tests of a shorter stretch

shorter : (p m r n k : ℕ) → k ≤ n → outside_stretch p m r n ≡ false → outside_stretch p m r k ≡ false
unfolding outside_stretch
shorter p m r n k h e =
    let s = either_false (beyond 8 p || beyond 8 m || beyond 8 r) (ltb 4096 n) e in
    rw s.0 (le-ltb 4096 k (omega (arith, ltb-false 4096 n s.1)))

outrun_less : (k list n j : ℕ) → j ≤ n → outrun k list n ≡ false → outrun k list j ≡ false
unfolding outrun
outrun_less k list n j h e = go (eqb list 0) e
  where
    go : (none : Bool) → (not none && ltb (list / k) n) ≡ false → (not none && ltb (list / k) j) ≡ false
    go true e = refl
    go false e = le-ltb (list / k) j (omega (arith, ltb-false (list / k) n e))

reach_less : (repeats : Bool) (pm list n j : ℕ) → j ≤ n → list_short repeats pm list n ≡ false → list_short repeats pm list j ≡ false
unfolding list_short
reach_less true pm list n j h e = refl
reach_less false pm list n j h e = outrun_less pm list n j h e

shorter_sizes : (p m r n k : ℕ) (ns : List (List ℕ)) → bad_sizes p m r (n + k) ns ≡ false → bad_sizes p m r n ns ≡ false
unfolding bad_sizes
shorter_sizes p m r n k ns e =
    let s = either_false (not (eqb (number_at ns 0 0) p) || not (eqb (number_at ns 0 1) m) || not (eqb (number_at ns 0 2) r)) (ltb 4096 (done_in ns + (n + k))) e in
    rw s.0 (le-ltb 4096 (done_in ns + n) (omega (arith, ltb-false 4096 (done_in ns + (n + k)) s.1)))

shorter_saved : (p m r n k : ℕ) (bs : List ℕ) → bad_saved p m r (n + k) bs ≡ false → bad_saved p m r n bs ≡ false
unfolding bad_saved
shorter_saved p m r n k bs e =
    let ns = numbers_in (widths m) bs in
    let long = not (eqb (length bs) (saved_need m)) || wrong_count (widths m) bs in
    let a = either_false (long || bad_sizes p m r (n + k) ns || bad_tallies p ns) (bad_floats ns) e in
    let b = either_false (long || bad_sizes p m r (n + k) ns) (bad_tallies p ns) a.0 in
    let c = either_false long (bad_sizes p m r (n + k) ns) b.0 in
    rw (c.0, shorter_sizes p m r n k ns c.1, b.1, a.1)

shorter_from : (x : Model) (n k : ℕ) (w : From) → bad_from (lasting (n + k) x) w ≡ false → bad_from (lasting n x) w ≡ false
unfolding bad_from
shorter_from x n k w e = go w.begins e
  where
    go : (b : Bool) → cond b (not (eqb (length w.saved) 0)) (bad_saved x.p x.m x.r (n + k) w.saved) ≡ false → cond b (not (eqb (length w.saved) 0)) (bad_saved x.p x.m x.r n w.saved) ≡ false
    go true e = e
    go false e = shorter_saved x.p x.m x.r n k w.saved e

-- the blocks at the front of a part
take_blocks : {A : Type 0} (N : ℕ) (w rest old : List A) → length w ≡ N → take N (lay (w ++ rest) old) ≡ w
take_blocks N w rest old e = ap (take N) (append_assoc w rest (drop (length (w ++ rest)) old)) ∙ take_at w (rest ++ drop (length (w ++ rest)) old) N e

cov_front : (m : ℕ) (r : List CovPeriod × Cov) (q : CovPart) (N : ℕ) (old : List Float) → length (cov_blocks m q r.0) ≡ N → take N (lay (cov_written m r q) old) ≡ cov_blocks m q r.0
unfolding cov_written
cov_front m r predCov N old e = take_blocks N (cov_blocks m predCov r.0) r.1.star old e
cov_front m r pred_inf N old e = take_blocks N (cov_blocks m pred_inf r.0) r.1.pinf old e
cov_front m r filtCov N old e = take_at (cov_blocks m filtCov r.0) _ N e
cov_front m r fStar N old e = take_at (cov_blocks m fStar r.0) _ N e
cov_front m r fInf N old e = take_at (cov_blocks m fInf r.0) _ N e
cov_front m r mStar N old e = take_at (cov_blocks m mStar r.0) _ N e
cov_front m r mInf N old e = take_at (cov_blocks m mInf r.0) _ N e

mean_front : (r : List MeanPeriod × Mean) (q : MeanPart) (N : ℕ) (old : List Float) → length (mean_blocks q r.0) ≡ N → take N (lay (mean_written r q) old) ≡ mean_blocks q r.0
unfolding mean_written
mean_front r predMean N old e = take_blocks N (mean_blocks predMean r.0) r.1.a old e
mean_front r filtMean N old e = take_at (mean_blocks filtMean r.0) _ N e
mean_front r innovations N old e = take_at (mean_blocks innovations r.0) _ N e

-- ---- the cut

-- what a call lends
pub record Lent : Type 0 where
  pub cov : CovParts
  pub mean : MeanParts
  pub save : List ℕ

abbrev pub call : Model → Offsets → From → Bool → List Float → Lent → StretchOutcome
call x o w last y v = stretch_outcome x o w last y v.cov v.mean v.save

module _ (x : Model) (o : Offsets) (w : From) (n k : ℕ) (last : Bool) (y y' : List Float) (u e l : Lent) where
  abbrev pub uncut : StretchOutcome
  uncut = call (lasting (n + k) x) o w last (y ++ y') u

  abbrev pub early : StretchOutcome
  early = call (lasting n x) o w false y e

  -- what the early one saved
  abbrev pub handed : List ℕ
  handed = take (saved_need x.m) early.save

  abbrev pub late : StretchOutcome
  late = call (lasting k x) o (resume handed) last y' l

  pub record Cuts : Type 0 where
    pub fits : length y ≡ n * x.p
    pub ready : Ready x o w
    pub passed : (uncut.cov.refused ≡ 0) ⊎ (uncut.cov.refused ≡ 12)
    pub room_early : roomy_stretch (lasting n x) false e.cov e.mean e.save ≡ true
    pub room_late : roomy_stretch (lasting k x) last l.cov l.mean l.save ≡ true

  -- the late stretch's number and answer are the uncut one's; where that is an answer, each of its parts is the early one's blocks, then all of the
  -- late one's, and its saved bytes are the late one's
  pub record Same : Type 0 where
    pub first : early.cov.refused ≡ 0
    pub bytes : AllOf Byte handed
    pub number : late.cov.refused ≡ uncut.cov.refused
    pub counts : late.cov.counts ≡ uncut.cov.counts
    pub loglik : late.mean.loglik ≡ uncut.mean.loglik
    pub cov_off : late.cov.cov_off ≡ uncut.cov.cov_off
    pub mean_off : late.mean.mean_off ≡ uncut.mean.mean_off
    pub kinds : uncut.cov.refused ≡ 0 → uncut.cov.parts.kinds ≡ lay (take (n * x.p) early.cov.parts.kinds ++ take (kinds_need (lasting k x)) late.cov.parts.kinds) u.cov.kinds
    pub covs : uncut.cov.refused ≡ 0 → (q : CovPart) → uncut.cov.parts.part q ≡ lay (take (n * cov_unit x.p x.m q) (early.cov.parts.part q) ++ take (cov_need (lasting k x) q) (late.cov.parts.part q)) (u.cov.part q)
    pub means : uncut.cov.refused ≡ 0 → (q : MeanPart) → uncut.mean.parts q ≡ lay (take (n * mean_unit x.p x.m q) (early.mean.parts q) ++ take (mean_need (lasting k x) q) (late.mean.parts q)) (u.mean q)
    pub saved : last ≡ false → take (saved_need x.m) uncut.save ≡ take (saved_need x.m) late.save
    -- and without what was lent after them
    pub all_kinds : uncut.cov.refused ≡ 0 → take (kinds_need (lasting (n + k) x)) uncut.cov.parts.kinds ≡ take (n * x.p) early.cov.parts.kinds ++ take (kinds_need (lasting k x)) late.cov.parts.kinds
    pub all_covs : uncut.cov.refused ≡ 0 → (q : CovPart) → take (cov_need (lasting (n + k) x) q) (uncut.cov.parts.part q) ≡ take (n * cov_unit x.p x.m q) (early.cov.parts.part q) ++ take (cov_need (lasting k x) q) (late.cov.parts.part q)
    pub all_means : uncut.cov.refused ≡ 0 → (q : MeanPart) → take (mean_need (lasting (n + k) x) q) (uncut.mean.parts q) ≡ take (n * mean_unit x.p x.m q) (early.mean.parts q) ++ take (mean_need (lasting k x) q) (late.mean.parts q)

  module _ (h : Cuts) where
    ready_of : (j : ℕ) → Ready (lasting j x) o w
    ready_of j = record { p_star = h.ready.p_star; a1 = h.ready.a1; bytes = h.ready.bytes }

    uncut_free : Free (lasting (n + k) x) o w last (y ++ y') u.cov u.mean u.save
    uncut_free = stretch.free (lasting (n + k) x) o w last (y ++ y') u.cov u.mean u.save h.passed

    all : Passed (lasting (n + k) x) o (length (map class_of (y ++ y'))) (any_of is_infinity (map class_of (y ++ y'))) (roomy_stretch (lasting (n + k) x) last u.cov u.mean u.save) (bad_from (lasting (n + k) x) w) (past_in (lasting (n + k) x) w).done
    all = passes _ _ _ _ _ _ _ uncut_free

    fits_classes : length (map class_of y) ≡ n * x.p
    fits_classes = length-map y class_of ∙ h.fits

    fits_late : length y' ≡ k * x.p
    fits_late =
        let t = stretch.fits (lasting (n + k) x) o w last (y ++ y') u.cov u.mean u.save (ready_of (n + k)) uncut_free in
        let a : length (y ++ y') ≡ (n + k) * x.p = sym (length-map (y ++ y') class_of) ∙ t in
        let b = length-append y y' in
        let c = add-mul n k x.p in
        omega (arith, h.fits)

    infinities : (any_of is_infinity (map class_of y) ≡ false) × (any_of is_infinity (map class_of y') ≡ false)
    infinities = of_split is_infinity (map class_of y) (map class_of y') (sym (ap (any_of is_infinity) (map-append class_of y y')) ∙ all.finite)

    fitting : (j : ℕ) (z : List Float) → length z ≡ j * x.p → bad_length (lasting j x) o (length (map class_of z)) true ≡ false
    unfolding bad_length inputs_fit
    fitting j z q =
        let a : inputs_fit (lasting j x) o ≡ true = stretch.inputs (lasting (n + k) x) o w last (y ++ y') u.cov u.mean u.save (ready_of (n + k)) uncut_free in
        let b : eqb (length (map class_of z)) (j * x.p) ≡ true = eq-eqb _ _ (length-map z class_of ∙ q) in
        rw (a, b)

    -- all tests but 1, 2, 9, 15 and the lists' reach are the uncut call's; and a list that reaches the uncut run's end reaches that of a part of it
    part_free : (j : ℕ) (z : List Float) (room bad : Bool) (done : ℕ) → j ≤ n + k → done + j ≤ (past_in (lasting (n + k) x) w).done + (n + k) → length z ≡ j * x.p → any_of is_infinity (map class_of z) ≡ false → room ≡ true → bad ≡ false → stretch_refusal (lasting j x) o (length (map class_of z)) (any_of is_infinity (map class_of z)) room bad done ≡ 0
    unfolding noise
    part_free j z room bad done less within long finite roomy ok =
        none_applies _ _ _ _ _ _ _
        (record {
          sizes = shorter x.p x.m x.r (n + k) j less all.sizes;
          lengths = rw roomy (fitting j z long);
          others = all.others;
          finite = finite;
          saved = ok;
          steps = outrun_less (x.m * x.m) (length x.t_list) _ _ within all.steps;
          reach = reach_less x.repeats (x.p * x.m) (length x.z_list) _ _ within all.reach;
        })

    -- ---- the early call, and the state where it is cut

    early_within : (past_in (lasting n x) w).done + n ≤ (past_in (lasting (n + k) x) w).done + (n + k)
    unfolding past_in begun_past start_of
    early_within = let e : (past_in (lasting n x) w).done ≡ (past_in (lasting (n + k) x) w).done = refl in omega (arith, e)

    early_free : Free (lasting n x) o w false y e.cov e.mean e.save
    early_free = part_free n y _ _ _ (omega arith) early_within h.fits infinities.0 h.room_early (shorter_from x n k w all.saved)

    early_ending : stretch_ending (lasting n x) o (past_in (lasting n x) w) (bad_from (lasting n x) w) false (map class_of y) (roomy_stretch (lasting n x) false e.cov e.mean e.save) ≡ answered
    early_ending = stretch.answers (lasting n x) o w false y e.cov e.mean e.save (ready_of n) early_free refl

    abbrev begin : Carried
    begin = carried_in (lasting n x) o w

    abbrev cut : Carried
    cut = went (lasting n x) o (carried_in (lasting n x) o w) y

    same_begin : carried_in (lasting (n + k) x) o w ≡ carried_in (lasting n x) o w
    unfolding past_in mean_in mean_told_in begun_past start_of
    same_begin = refl

    begin_kept : Kept x.m begin
    begin_kept = stretch.begins_kept (lasting n x) o w false y e.cov e.mean e.save (ready_of n) early_free

    cut_ended : Savable x.p x.m x.r cut
    cut_ended = stretch.ended (lasting n x) o w false y e.cov e.mean e.save (ready_of n) early_free

    cut_early : cut.past.done + k ≤ 4096
    unfolding went past_on
    cut_early =
        let a = stretch.sum_early (lasting (n + k) x) o w last (y ++ y') u.cov u.mean u.save (ready_of (n + k)) uncut_free in
        let b : begin.past.done + (n + k) ≤ 4096 = subst (λ (s : Carried). s.past.done + (n + k) ≤ 4096) same_begin a in
        omega arith

    cut_saves : handed ≡ saved_of x.p x.m x.r cut
    cut_saves = stretch.saved_is (lasting n x) o w false y e.cov e.mean e.save (ready_of n) early_free refl

    same_cut : carried_in (lasting k x) o (resume handed) ≡ cut
    unfolding past_in mean_in mean_told_in
    same_cut = ap (loaded x.m) cut_saves ∙ loads x.p x.m x.r cut cut_ended

    handed_bytes : AllOf Byte handed
    handed_bytes = subst (AllOf Byte) (sym cut_saves) (saved_bytes x.p x.m x.r cut cut_ended)

    -- ---- the late call

    late_good : bad_from (lasting k x) (resume handed) ≡ false
    unfolding bad_from
    late_good = ap (bad_saved x.p x.m x.r k) cut_saves ∙ good x.p x.m x.r cut cut_ended k cut_early

    late_within : (past_in (lasting k x) (resume handed)).done + k ≤ (past_in (lasting (n + k) x) w).done + (n + k)
    unfolding went past_on
    late_within =
        let e : (past_in (lasting k x) (resume handed)).done ≡ (past_in (lasting n x) w).done + n = ap (λ (s : Carried). s.past.done) same_cut in
        let b : (past_in (lasting (n + k) x) w).done ≡ (past_in (lasting n x) w).done = ap (λ (s : Carried). s.past.done) same_begin in
        omega (arith, e, b)

    late_free : Free (lasting k x) o (resume handed) last y' l.cov l.mean l.save
    late_free = part_free k y' _ _ _ (omega arith) late_within fits_late infinities.1 h.room_late late_good

    late_ready : Ready (lasting k x) o (resume handed)
    late_ready = record { p_star = h.ready.p_star; a1 = h.ready.a1; bytes = handed_bytes }

    -- ---- both ways the same past, the same stretch_ending

    same_past : past_on (lasting (n + k) x) (past_in (lasting (n + k) x) w) (map class_of (y ++ y')) ≡ past_on (lasting k x) (past_in (lasting k x) (resume handed)) (map class_of y')
    unfolding went
    same_past =
        ap₂ (λ (s : Carried) (ks : List Class). past_on (lasting (n + k) x) s.past ks) same_begin (map-append class_of y y')
        ∙ cut_past x n k begin.past (map class_of y) (map class_of y') fits_classes
        ∙ ap (λ (s : Carried). past_on (lasting k x) s.past (map class_of y')) (sym same_cut)

    abbrev ending_u : Ending
    ending_u = stretch_ending (lasting (n + k) x) o (past_in (lasting (n + k) x) w) (bad_from (lasting (n + k) x) w) last (map class_of (y ++ y')) (roomy_stretch (lasting (n + k) x) last u.cov u.mean u.save)

    abbrev ending_l : Ending
    ending_l = stretch_ending (lasting k x) o (past_in (lasting k x) (resume handed)) (bad_from (lasting k x) (resume handed)) last (map class_of y') (roomy_stretch (lasting k x) last l.cov l.mean l.save)

    same_ending : ending_l ≡ ending_u
    unfolding stretch_ending
    same_ending = ap₂ ending_of (late_free ∙ sym uncut_free) (ap (λ (s : Past). last && no_information s.counts) (sym same_past))

    -- ---- the runs

    abbrev cov_e : List CovPeriod × Cov
    cov_e = cov_from (lasting n x) (past_in (lasting n x) w) (map class_of y)

    abbrev cov_l : List CovPeriod × Cov
    cov_l = cov_from (lasting k x) (past_in (lasting k x) (resume handed)) (map class_of y')

    same_covs : cov_from (lasting (n + k) x) (past_in (lasting (n + k) x) w) (map class_of (y ++ y')) ≡ (cov_e.0 ++ cov_l.0, cov_l.1)
    unfolding went
    same_covs =
        ap₂ (λ (s : Carried) (ks : List Class). cov_from (lasting (n + k) x) s.past ks) same_begin (map-append class_of y y')
        ∙ cut_covs x n k begin.past (map class_of y) (map class_of y') fits_classes
        ∙ ap (λ (s : Carried). let r = cov_from (lasting k x) s.past (map class_of y') in (cov_e.0 ++ r.0, r.1)) (sym same_cut)

    abbrev mean_e : List MeanPeriod × Mean
    mean_e = mean_on (lasting n x) o (carried_in (lasting n x) o w) y

    abbrev mean_l : List MeanPeriod × Mean
    mean_l = mean_on (lasting k x) o (carried_in (lasting k x) o (resume handed)) y'

    same_means : mean_on (lasting (n + k) x) o (carried_in (lasting (n + k) x) o w) (y ++ y') ≡ (mean_e.0 ++ mean_l.0, mean_l.1)
    same_means =
        ap (λ (s : Carried). mean_on (lasting (n + k) x) o s (y ++ y')) same_begin
        ∙ cut_means x n k o begin y y' h.fits
        ∙ ap (λ (s : Carried). let r = mean_on (lasting k x) o s y' in (mean_e.0 ++ r.0, r.1)) (sym same_cut)

    late_kept : Kept x.m (carried_in (lasting k x) o (resume handed))
    late_kept = stretch.begins_kept (lasting k x) o (resume handed) last y' l.cov l.mean l.save late_ready late_free

    late_fits : length (map class_of y') ≡ k * x.p
    late_fits = length-map y' class_of ∙ fits_late

    answers : uncut.cov.refused ≡ 0 → ending_u ≡ answered
    unfolding stretch_outcome cov_stretch stretch_ending
    answers q = ap (λ (r : ℕ). ending_of r (last && no_information (past_on (lasting (n + k) x) (past_in (lasting (n + k) x) w) (map class_of (y ++ y'))).counts)) uncut_free ∙ quiet_not _ (sym (ap (λ (r : ℕ). number_of (ending_of r (last && no_information (past_on (lasting (n + k) x) (past_in (lasting (n + k) x) w) (map class_of (y ++ y'))).counts))) uncut_free) ∙ q)

    laid : {A : Type 0} {f : Ending} (w blank old : List A) → f ≡ answered → after f w blank old ≡ lay w old
    unfolding after
    laid w blank old q = ap (λ (f : Ending). after f w blank old) q

    abbrev ending_e : Ending
    ending_e = stretch_ending (lasting n x) o (past_in (lasting n x) w) (bad_from (lasting n x) w) false (map class_of y) (roomy_stretch (lasting n x) false e.cov e.mean e.save)

    -- a part: what is written early and late, and where it is read again
    written : {A : Type 0} (N M : ℕ) (we wl wu front oe ol be bl : List A) → ending_u ≡ answered → wu ≡ front ++ wl → take N (lay we oe) ≡ front → length wl ≡ M
        → wu ≡ take N (after ending_e we be oe) ++ take M (after ending_l wl bl ol)
    written N M we wl wu front oe ol be bl q is a b =
        is ∙ ap₂ ◌++◌ (sym (ap (take N) (laid we be oe early_ending) ∙ a)) (sym (ap (take M) (laid wl bl ol (same_ending ∙ q)) ∙ take_at wl _ M b))

    parts : {A : Type 0} (wu w' ou bu : List A) → ending_u ≡ answered → wu ≡ w' → after ending_u wu bu ou ≡ lay w' ou
    parts {A} wu w' ou bu q is = laid wu bu ou q ∙ ap (λ (z : List A). lay z ou) is

    whole : {A : Type 0} (N : ℕ) (wu w' ou bu : List A) → ending_u ≡ answered → length wu ≡ N → wu ≡ w' → take N (after ending_u wu bu ou) ≡ w'
    whole N wu w' ou bu q l is = ap (take N) (laid wu bu ou q) ∙ take_at wu _ N l ∙ is

    kinds_front : take (n * x.p) (lay (kinds_written cov_e) e.cov.kinds) ≡ kind_blocks cov_e.0
    unfolding kinds_written
    kinds_front = take_at (kind_blocks cov_e.0) _ (n * x.p) (kinds_long (lasting n x) (past_in (lasting n x) w) (map class_of y) fits_classes)

    abbrev cov_u : List CovPeriod × Cov
    cov_u = cov_from (lasting (n + k) x) (past_in (lasting (n + k) x) w) (map class_of (y ++ y'))

    abbrev mean_u : List MeanPeriod × Mean
    mean_u = mean_on (lasting (n + k) x) o (carried_in (lasting (n + k) x) o w) (y ++ y')

    kinds_are : ending_u ≡ answered → kinds_written cov_u ≡ take (n * x.p) early.cov.parts.kinds ++ take (kinds_need (lasting k x)) late.cov.parts.kinds
    unfolding stretch_outcome cov_stretch
    kinds_are a =
        written (n * x.p) (kinds_need (lasting k x)) _ _ (kinds_written cov_u) (kind_blocks cov_e.0) _ _ _ _ a
        (ap kinds_written same_covs ∙ cut_kinds cov_e.0 cov_l.0 cov_l.1)
        kinds_front
        (kinds_written_lem (lasting k x) (past_in (lasting k x) (resume handed)) (map class_of y') late_fits)

    covs_are : ending_u ≡ answered → (q : CovPart) → cov_written x.m cov_u q ≡ take (n * cov_unit x.p x.m q) (early.cov.parts.part q) ++ take (cov_need (lasting k x) q) (late.cov.parts.part q)
    unfolding stretch_outcome cov_stretch
    covs_are a q =
        written (n * cov_unit x.p x.m q) (cov_need (lasting k x) q) _ _ (cov_written x.m cov_u q) (cov_blocks x.m q cov_e.0) _ _ _ _ a
        (ap (λ (r : List CovPeriod × Cov). cov_written x.m r q) same_covs ∙ cut_parts x.m cov_e.0 cov_l.0 cov_l.1 q)
        (cov_front x.m cov_e q _ (e.cov.part q) (covs_long (lasting n x) begin.past (map class_of y) fits_classes begin_kept.cov q))
        (cov_written_lem (lasting k x) (past_in (lasting k x) (resume handed)) (map class_of y') late_fits late_kept.cov q)

    means_are : ending_u ≡ answered → (q : MeanPart) → mean_written mean_u q ≡ take (n * mean_unit x.p x.m q) (early.mean.parts q) ++ take (mean_need (lasting k x) q) (late.mean.parts q)
    unfolding stretch_outcome mean_stretch
    means_are a q =
        written (n * mean_unit x.p x.m q) (mean_need (lasting k x) q) _ _ (mean_written mean_u q) (mean_blocks q mean_e.0) _ _ _ _ a
        (ap (λ (r : List MeanPeriod × Mean). mean_written r q) same_means ∙ cut_mean_parts mean_e.0 mean_l.0 mean_l.1 q)
        (mean_front mean_e q _ (e.mean q) (means_long (lasting n x) o begin y h.fits begin_kept.mean q))
        (mean_written_lem (lasting k x) o (carried_in (lasting k x) o (resume handed)) y' fits_late late_kept.mean q)

    total : length (map class_of (y ++ y')) ≡ (n + k) * x.p
    total = stretch.fits (lasting (n + k) x) o w last (y ++ y') u.cov u.mean u.save (ready_of (n + k)) uncut_free

    uncut_kept : Kept x.m (carried_in (lasting (n + k) x) o w)
    uncut_kept = stretch.begins_kept (lasting (n + k) x) o w last (y ++ y') u.cov u.mean u.save (ready_of (n + k)) uncut_free

    -- ---- the bytes saved at the end

    ends : went (lasting (n + k) x) o (carried_in (lasting (n + k) x) o w) (y ++ y') ≡ went (lasting k x) o (carried_in (lasting k x) o (resume handed)) y'
    ends =
        ap (λ (s : Carried). went (lasting (n + k) x) o s (y ++ y')) same_begin
        ∙ cut_state x n k o begin y y' h.fits
        ∙ ap (λ (s : Carried). went (lasting k x) o s y') (sym same_cut)

    same_saved : last ≡ false → take (saved_need x.m) uncut.save ≡ take (saved_need x.m) late.save
    same_saved z =
        stretch.saved_is (lasting (n + k) x) o w last (y ++ y') u.cov u.mean u.save (ready_of (n + k)) uncut_free z
        ∙ ap (saved_of x.p x.m x.r) ends
        ∙ sym (stretch.saved_is (lasting k x) o (resume handed) last y' l.cov l.mean l.save late_ready late_free z)

    pub cut_call : Same
    unfolding stretch_outcome cov_stretch mean_stretch number_of went
    cut_call =
        record {
          first = ap number_of early_ending;
          bytes = handed_bytes;
          number = ap number_of same_ending;
          counts = ap₂ (λ (f : Ending) (s : Past). counts_in f s.counts) same_ending (sym same_past);
          loglik = ap₂ (λ (f : Ending) (r : List MeanPeriod × Mean). loglik_in f r.1.loglik) same_ending (sym same_means);
          cov_off = ap₂ (λ (f : Ending) (s : Past). report_in f s.cov_off) same_ending (sym same_past);
          mean_off = ap₂ (λ (f : Ending) (s : Carried). report_in f s.mean_off) same_ending (sym ends);
          kinds = λ z. parts _ _ _ _ (answers z) (kinds_are (answers z));
          covs = λ z q. parts _ _ _ _ (answers z) (covs_are (answers z) q);
          means = λ z q. parts _ _ _ _ (answers z) (means_are (answers z) q);
          saved = same_saved;
          all_kinds = λ z. whole _ _ _ _ _ (answers z) (kinds_written_lem (lasting (n + k) x) (past_in (lasting (n + k) x) w) (map class_of (y ++ y')) total) (kinds_are (answers z));
          all_covs = λ z q. whole _ _ _ _ _ (answers z) (cov_written_lem (lasting (n + k) x) (past_in (lasting (n + k) x) w) (map class_of (y ++ y')) total uncut_kept.cov q) (covs_are (answers z) q);
          all_means = λ z q. whole _ _ _ _ _ (answers z) (mean_written_lem (lasting (n + k) x) o (carried_in (lasting (n + k) x) o w) (y ++ y') (sym (length-map (y ++ y') class_of) ∙ total) uncut_kept.mean q) (means_are (answers z) q);
        }
