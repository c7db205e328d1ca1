-- A stretch that is not turned away: what is known of it (`Passed`), that the state which it ends with can be saved (`ended`), and what it saves
-- (`saved_is`). With no periods it saves what it loaded (`again`).
use Rattle.std.specs.Prelude.{◌≡◌, refl, ◌⊎◌, ℕ, zero, suc, ◌+◌, ◌*◌, ◌≤◌, Bool, true, false, not, ◌&&◌, ◌||◌, cond, length, ltb, eqb, Float}
use Rattle.std.proofs.Common.{ap, ◌∙◌, inl, ⊎_elim, add-zero, arith, ltb-false, le-ltb}
use Rattle.std.proofs.Math.Path.{ap₂}
use mathlib.Core.List.{List, [], ◌∷◌, ◌++◌, map}
use Rattle.std.proofs.Math.ListN.{take}
use Rattle.std.proofs.Math.Seq.{take_at}
use Rattle.definition.specs.Run.{scan, pairs, chunks, count, join, any_of}
use Rattle.definition.specs.Cov.{cov_run}
use Rattle.definition.specs.Mean.{mean_run}
use Rattle.definition.specs.Inputs.{Model, Offsets, class_of, is_infinity, gap_rows}
use Rattle.definition.specs.Refusals.{beyond, outside, inputs_fit, bad_length, outrun, list_short, first_of, of_system, of_start, of_h, of_step}
use Rattle.definition.specs.Reports.{first_from, cov_report, mean_report}
use Rattle.definition.specs.Outcome.{CovParts, MeanParts, Ending, answered, ending_of, number_of, after, counts_of, no_information}
use Rattle.definition.specs.Carried.{begun_past, begun_mean, cov_from, mean_from, plus, past_on, mean_on, mean_off_on, went, Carried}
use Rattle.definition.specs.Saved.{saved_of, saved_need, bad_saved, loaded_past}
use Rattle.definition.specs.Stretch.{From, past_in, mean_in, mean_told_in, carried_in, outside_stretch, bad_from, stretch_tests, stretch_refusal, roomy_stretch, stretch_ending, cov_stretch, save_stretch, stretch_outcome}
use Rattle.laws.specs.Any.{either_false}
use Rattle.laws.specs.All.{AllOf}
use Rattle.laws.specs.Numbered.{first_none, no_number}
use Rattle.laws.specs.Accepted.{InRange, in_range, InputsFit, inputs_fit_lem, lengths_pass}
use Rattle.laws.specs.Bytes.{Byte}
use Rattle.laws.specs.Kept.{Double, Kept, Tallied, went_kept, begun_kept, begun_tallied, tallies_kept}
use Rattle.laws.specs.SavedBack.{Savable, loaded, saved_length, not_bad, saves, loaded_kept, loaded_tallied}
use Rattle.laws.specs.Reports.{told_none}
use Rattle.laws.specs.Cut.{lasting}

-- ---- a call that is not turned away fails every test, and the other way round

-- what a stretch has in common with every other over the same model: refusals 3 to 8, 10 and 11
abbrev pub fixed : Model → Offsets → List (ℕ × Bool)
fixed x o = of_system x ++ of_start x o ++ of_h x ++ of_step x

abbrev pub Fails : List (ℕ × Bool) → Type 0
Fails es = AllOf (λ e. e.1 ≡ false) es

pub record Passed (x : Model) (o : Offsets) (n : ℕ) (infinity room bad : Bool) (done : ℕ) : Type 0 where
  pub sizes : outside_stretch x.p x.m x.r x.n ≡ false
  pub lengths : bad_length x o n room ≡ false
  pub others : Fails (fixed x o)
  pub finite : infinity ≡ false
  pub saved : bad ≡ false
  pub steps : outrun (x.m * x.m) (length x.t_list) (done + x.n) ≡ false
  pub reach : list_short x.repeats (x.p * x.m) (length x.z_list) (done + x.n) ≡ false

first_zero : (es : List (ℕ × Bool)) → Fails es → first_of es ≡ 0
unfolding first_of
first_zero [] h = refl
first_zero (e ∷ es) h = rw h.0 (first_zero es h.1)

module _ (x : Model) (o : Offsets) (n : ℕ) (infinity room bad : Bool) (done : ℕ) where
  pub passes : stretch_refusal x o n infinity room bad done ≡ 0 → Passed x o n infinity room bad done
  unfolding stretch_refusal stretch_tests
  passes e =
      let a = first_none (stretch_tests x o n infinity room bad done) tt e in
      let b = a.1.1 in
      let c = b.1.1.1.1.1.1 in
      record {
        sizes = a.0;
        lengths = a.1.0;
        others = (b.0, (b.1.0, (b.1.1.0, (b.1.1.1.0, (b.1.1.1.1.0, (b.1.1.1.1.1.0, (c.1.0, (c.1.1.0, tt))))))));
        finite = c.0;
        saved = c.1.1.1.0;
        steps = c.1.1.1.1.0;
        reach = c.1.1.1.1.1.0;
      }

  pub none_applies : Passed x o n infinity room bad done → stretch_refusal x o n infinity room bad done ≡ 0
  unfolding stretch_refusal stretch_tests
  none_applies a =
      let b = a.others in
      let c = b.1.1.1.1.1 in
      first_zero (stretch_tests x o n infinity room bad done)
      (a.sizes, (a.lengths, (b.0, (b.1.0, (b.1.1.0, (b.1.1.1.0, (b.1.1.1.1.0, (c.0, (a.finite, (c.1.0, (c.1.1.0, (a.saved, (a.steps, (a.reach, tt))))))))))))))

  pub not_twelve : stretch_refusal x o n infinity room bad done ≡ 12 → ⊥
  unfolding stretch_refusal stretch_tests
  not_twelve e = no_number 12 (stretch_tests x o n infinity room bad done) tt tt e

pub not_turned : (r : ℕ) (quiet : Bool) → (r ≡ 12 → ⊥) → (number_of (ending_of r quiet) ≡ 0) ⊎ (number_of (ending_of r quiet) ≡ 12) → r ≡ 0
unfolding ending_of number_of
not_turned zero quiet h e = refl
not_turned (suc r) quiet h e = ⊎_elim (λ (q : suc r ≡ 0). omega arith) (λ (q : suc r ≡ 12). absurd (h q)) e

pub sizes_pass : (p m r n : ℕ) → outside_stretch p m r n ≡ false → InRange p m r n
unfolding outside_stretch outside
sizes_pass p m r n e =
    let s = either_false (beyond 8 p || beyond 8 m || beyond 8 r) (ltb 4096 n) e in
    let a = in_range p m r 1 (rw s.0 (le-ltb 4096 1 (omega arith))) in
    record { p0 = a.p0; p8 = a.p8; m0 = a.m0; m8 = a.m8; r0 = a.r0; r8 = a.r8; n4096 = ltb-false 4096 n s.1 }

-- to go on from saved bytes
abbrev pub resume : List ℕ → From
resume bs = record { begins = false; saved = bs }

-- a stretch that was begun well
pub record Ready (x : Model) (o : Offsets) (w : From) : Type 0 where
  pub p_star : AllOf Double x.p_star
  pub a1 : AllOf Double o.a1
  pub bytes : AllOf Byte w.saved

-- what a stretch is handed: the start, or what is loaded
abbrev begun_or : Model → Offsets → From → Bool → Carried
begun_or x o w b =
    let s = loaded x.m w.saved in
    record { past = cond b (begun_past x) s.past; mean = cond b (begun_mean o) s.mean; mean_off = cond b 0 s.mean_off }

ready_kept : (x : Model) (o : Offsets) (w : From) → Ready x o w → InputsFit x o → Kept x.m (carried_in x o w)
unfolding past_in mean_in mean_told_in
ready_kept x o w h f = go w.begins
  where
    go : (b : Bool) → Kept x.m (begun_or x o w b)
    go true = begun_kept x o (record { long = f.p_star; each = h.p_star }) (record { long = f.a1; each = h.a1 })
    go false = loaded_kept x.m w.saved

ready_tallied : (x : Model) (o : Offsets) (w : From) → AllOf Byte w.saved → bad_from x w ≡ false → Tallied x.p (carried_in x o w)
unfolding past_in mean_in mean_told_in bad_from
ready_tallied x o w bytes e = go w.begins e
  where
    go : (b : Bool) → cond b (not (eqb (length w.saved) 0)) (bad_saved x.p x.m x.r x.n w.saved) ≡ false → Tallied x.p (begun_or x o w b)
    go true e = begun_tallied x o
    go false e = loaded_tallied x.p x.m x.r x.n w.saved bytes e

-- the periods done and the stretch's are 4096 at most
ready_early : (x : Model) (w : From) → x.n ≤ 4096 → bad_from x w ≡ false → (past_in x w).done + x.n ≤ 4096
unfolding past_in bad_from begun_past loaded_past
ready_early x w h e = go w.begins e
  where
    go : (b : Bool) → cond b (not (eqb (length w.saved) 0)) (bad_saved x.p x.m x.r x.n w.saved) ≡ false → (cond b (begun_past x) (loaded x.m w.saved).past).done + x.n ≤ 4096
    go true e = omega arith
    go false e = (not_bad x.p x.m x.r x.n w.saved e).sizes.early

pub quiet_not : (q : Bool) → number_of (ending_of 0 q) ≡ 0 → ending_of 0 q ≡ answered
unfolding number_of ending_of
quiet_not true e = absurd (omega arith)
quiet_not false e = refl

-- ---- a stretch

module _ (x : Model) (o : Offsets) (w : From) (last : Bool) (y : List Float) (b : CovParts) (b' : MeanParts) (save : List ℕ) where
  abbrev pub Free : Type 0
  Free = stretch_refusal x o (length (map class_of y)) (any_of is_infinity (map class_of y)) (roomy_stretch x last b b' save) (bad_from x w) (past_in x w).done ≡ 0

  pub free : ((stretch_outcome x o w last y b b' save).cov.refused ≡ 0) ⊎ ((stretch_outcome x o w last y b b' save).cov.refused ≡ 12) → Free
  unfolding stretch_outcome cov_stretch stretch_ending
  free e = not_turned _ _ (not_twelve x o _ _ _ _ _) e

  module _ (ready : Ready x o w) (ok : Free) where
    all : Passed x o (length (map class_of y)) (any_of is_infinity (map class_of y)) (roomy_stretch x last b b' save) (bad_from x w) (past_in x w).done
    all = passes _ _ _ _ _ _ _ ok

    pub sizes : InRange x.p x.m x.r x.n
    sizes = sizes_pass x.p x.m x.r x.n all.sizes

    pub inputs : inputs_fit x o ≡ true
    inputs = (lengths_pass x o _ _ all.lengths).0

    pub fits : length (map class_of y) ≡ x.n * x.p
    fits = (lengths_pass x o _ _ all.lengths).1

    pub begins_kept : Kept x.m (carried_in x o w)
    begins_kept = ready_kept x o w ready (inputs_fit_lem x o inputs)

    pub sum_early : (past_in x w).done + x.n ≤ 4096
    sum_early = ready_early x w sizes.n4096 all.saved

    pub ended : Savable x.p x.m x.r (went x o (carried_in x o w) y)
    unfolding went past_on
    ended =
        record {
          p8 = sizes.p8;
          m8 = sizes.m8;
          r8 = sizes.r8;
          kept = went_kept x o (carried_in x o w) y begins_kept;
          tallies = tallies_kept x o (carried_in x o w) y fits (ready_tallied x o w ready.bytes all.saved);
          early = sum_early;
        }

    -- only the last one is ever silent
    pub answers : last ≡ false → stretch_ending x o (past_in x w) (bad_from x w) last (map class_of y) (roomy_stretch x last b b' save) ≡ answered
    unfolding stretch_ending ending_of
    answers q = ap₂ (λ (r : ℕ) (z : Bool). ending_of r (z && no_information (past_on x (past_in x w) (map class_of y)).counts)) ok q

    pub saved_is : last ≡ false → take (saved_need x.m) (stretch_outcome x o w last y b b' save).save ≡ saved_of x.p x.m x.r (went x o (carried_in x o w) y)
    unfolding stretch_outcome save_stretch after
    saved_is q =
        let s = went x o (carried_in x o w) y in
        ap₂ (λ (f : Ending) (z : Bool). take (saved_need x.m) (after f (cond z [] (saved_of x.p x.m x.r s)) [] save)) (answers q) q
        ∙ take_at (saved_of x.p x.m x.r s) _ (saved_need x.m) (saved_length x.p x.m x.r s ended)

-- ---- no periods

stays : (x : Model) (o : Offsets) (s : Carried) → went (lasting 0 x) o s [] ≡ s
unfolding went past_on cov_from cov_run gap_rows chunks scan pairs mean_on mean_from mean_run mean_off_on plus counts_of count join cov_report mean_report first_from
stays x o s = rw (add-zero s.past.done, add-zero s.past.counts.d_diffuse, add-zero s.past.counts.heard, add-zero s.past.counts.news, told_none s.past.cov_off, told_none s.mean_off)

pub again : (x : Model) (o : Offsets) (bs : List ℕ) (b : CovParts) (b' : MeanParts) (save : List ℕ) → Ready (lasting 0 x) o (resume bs)
    → (stretch_outcome (lasting 0 x) o (resume bs) false [] b b' save).cov.refused ≡ 0
    → take (saved_need x.m) (stretch_outcome (lasting 0 x) o (resume bs) false [] b b' save).save ≡ bs
unfolding past_in mean_in mean_told_in bad_from
again x o bs b b' save ready e =
    let ok = free (lasting 0 x) o (resume bs) false [] b b' save (inl e) in
    let good : bad_saved x.p x.m x.r 0 bs ≡ false = (passes _ _ _ _ _ _ _ ok).saved in
    saved_is (lasting 0 x) o (resume bs) false [] b b' save ready ok refl
    ∙ ap (saved_of x.p x.m x.r) (stays x o (carried_in (lasting 0 x) o (resume bs)))
    ∙ saves x.p x.m x.r 0 bs ready.bytes good
