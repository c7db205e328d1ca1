-- What `fill` leaves of the flat parts after a call is the definition's list: the run's own records, n·p of gaps, or the list as it was.
use mathlib.Core.Path.{◌≡◌, refl, sym, ap, ap₂, subst, ◌∙◌}
use Prim.Native.Nat.{ℕ, zero, suc, ◌*◌, ◌≤◌}
use native.Mathlib.Omega.{arith}
use mathlib.Core.Bool.{Bool, true, false, ◌&&◌}
use mathlib.Core.List.{List, map}
use lib.ListN.{length, replicate, length-map}
use lib.Dec.{leb}
use lib.Ieee.{Float}
use borrow.Author.Tests.{leb-true}
use Rattle.definition.specs.Num.{tab_from}
use Rattle.definition.specs.Run.{any_of, lay, join}
use Rattle.definition.specs.Cov.{Decision, CovPeriod}
use Rattle.definition.specs.Parts.{fStar, fInf, innovations, f_star_of, f_inf_of, cov_block, mean_block}
use Rattle.definition.specs.Inputs.{Model, Offsets, Class, class_of, is_infinity, system_of, system_from, start_of}
use Rattle.definition.specs.Refusals.{outside, refusal, tests, first_of}
use Rattle.definition.specs.Outcome.{CovParts, MeanParts, Ending, turned, silent, answered, ending, ending_of, number_of, after, kinds_need, kinds_written, cov_written, mean_written, decisions_of, cov_of, mean_of, counts_of, no_information, cov_outcome, mean_outcome, roomy, roomy_smoothed}
use Rattle.laws.specs.Any.{both_true}
use Rattle.laws.specs.Lists.{length-join}
use Rattle.laws.specs.ReadBack.{flat_of_lem, each_many, kinds_join}
use Rattle.laws.specs.Shapes.{run_whole, run_length}
use Rattle.laws.specs.Backward.{each_vs}
use Rattle.laws.specs.Numbered.{not_twelve}
use Rattle.laws.specs.Accepted.{accepted, in_range}
use Rattle.mean_back.specs.Looked.{mean_long, mean_sized}
use Rattle.promise.specs.Lent.{cov_parts, mean_parts}
use Rattle.promise.specs.declared.Refusal.TheVariants.{Dimension}
use Rattle.promise.specs.Calls.{Outcome, refusal_of, Promise, PromiseSmooth}
use Rattle.filter.specs.Ends as ends
use Rattle.promise.specs.declared.Record.{Record}
use Rattle.promise.specs.Records.{gap_record, records_of, filled, records_by}
use Rattle.record.specs.Written.{records_written, records_blank, filled_all}
use Rattle.promise.specs.WithRecords.{ending_with_records, outcome_with_records, smooth_outcome_with_records, records_run, list_after, to_tell, told_by, WithRecords, WithRecordsSmooth}
use Rattle.records.specs.Few.{capped}
use Rattle.records.proofs.Laws.{all_of, tells_answer, tells_twelve, tells_none}

-- ---- a run's numbers: n·p decisions, and as many v

module _ (x : Model) (o : Offsets) (y : List Float) where
  abbrev ks : List Class
  ks = map class_of y

  abbrev cs : List CovPeriod
  cs = (cov_of x ks).0

  abbrev ds : List Decision
  ds = join (decisions_of cs)

  abbrev vs : List Float
  vs = mean_written (mean_of x o cs y) innovations

  ds_long : length ks ≡ x.n * x.p → length ds ≡ x.n * x.p
  unfolding cov_of system_of system_from
  ds_long fit =
      length-join x.p (decisions_of cs) (each_many x.p x.m cs (run_whole (system_of x) 0 (start_of x) ks x.n x.p fit))
      ∙ ap (λ (k : ℕ). k * x.p) (length-map cs (λ c. c.decisions) ∙ run_length (system_of x) 0 (start_of x) ks x.n x.p)

  vs_long : length ks ≡ x.n * x.p → length o.a1 ≡ x.m → length vs ≡ x.n * x.p
  unfolding mean_written
  vs_long fit start =
      let ms = (mean_of x o cs y).0 in
      let fit' : length y ≡ x.n * x.p = sym (length-map y class_of) ∙ fit in
      length-join x.p (map (mean_block innovations) ms) (each_vs x.p x.m ms (mean_sized x o ks y fit fit' start))
      ∙ ap (λ (k : ℕ). k * x.p) (length-map ms (mean_block innovations) ∙ mean_long x o ks y fit fit')

-- ---- the list by its ending

filled_none : (kinds : List ℕ) (vs fs fi : List Float) (old : List Record) → filled 0 kinds vs fs fi old ≡ old
unfolding records_of tab_from
filled_none kinds vs fs fi old = filled_all 0 kinds vs fs fi old (omega arith)

module _ (x : Model) (o : Offsets) (y : List Float) (w : CovParts) (w' : MeanParts) (r : Outcome) (b : CovParts) (b' : MeanParts) (old : List Record) where
  abbrev Told : Ending → Type 0
  Told f = told_by (x.n * x.p) r b b' old ≡ list_after x o y f old

  abbrev Had : Ending → Type 0
  Had f = Promise (ends.End x o y w w' f) r b b'

  all_filled : (k : ℕ) → to_tell r (x.n * x.p) ≡ k → k ≤ length old → told_by (x.n * x.p) r b b' old ≡ lay (records_of k b.kinds (b' innovations) (b.part fStar) (b.part fInf)) old
  all_filled k e l = ap (λ (j : ℕ). filled j b.kinds (b' innovations) (b.part fStar) (b.part fInf) old) e ∙ filled_all k b.kinds (b' innovations) (b.part fStar) (b.part fInf) old l

  when_turned : (k : ℕ) → (suc k ≡ 12 → ⊥) → Had (turned (suc k)) → Told (turned (suc k))
  unfolding cov_outcome mean_outcome number_of list_after after
  when_turned k q h =
      let e : refusal_of r ≡ suc k = h.refusal in
      let z : to_tell r (x.n * x.p) ≡ 0 = tells_none r _ (λ t. omega arith) (λ t. q (sym e ∙ t)) in
      ap (λ (j : ℕ). filled j b.kinds (b' innovations) (b.part fStar) (b.part fInf) old) z ∙ filled_none b.kinds (b' innovations) (b.part fStar) (b.part fInf) old

  when_silent : x.n * x.p ≤ length old → Had silent → Told silent
  unfolding cov_outcome mean_outcome number_of list_after after kinds_need
  when_silent l h =
      let z : to_tell r (x.n * x.p) ≡ x.n * x.p = tells_twelve r _ h.refusal in
      let q : records_of (x.n * x.p) b.kinds (b' innovations) (b.part fStar) (b.part fInf) ≡ replicate (x.n * x.p) gap_record =
      ap (λ (l : List ℕ). records_of (x.n * x.p) l (b' innovations) (b.part fStar) (b.part fInf)) h.kinds ∙ records_blank (x.n * x.p) _ (b' innovations) (b.part fStar) (b.part fInf) in
      all_filled (x.n * x.p) z l ∙ ap (λ (t : List Record). lay t old) q

  when_answered : length (map class_of y) ≡ x.n * x.p → length o.a1 ≡ x.m → x.n * x.p ≤ length old → Had answered → Told answered
  unfolding cov_outcome mean_outcome number_of list_after after records_run kinds_written cov_written cov_block
  when_answered fit start l h =
      let cs = (cov_of x (map class_of y)).0 in
      let ds = join (decisions_of cs) in
      let vs = mean_written (mean_of x o cs y) innovations in
      let z : to_tell r (x.n * x.p) ≡ length ds = tells_answer r _ h.refusal ∙ sym (ds_long x o y fit) in
      let q : records_of (length ds) b.kinds (b' innovations) (b.part fStar) (b.part fInf) ≡ records_by ds vs =
      rw (h.kinds, h.mean innovations, h.cov fStar, h.cov fInf, kinds_join cs, flat_of_lem f_star_of cs, flat_of_lem f_inf_of cs) (records_written ds vs _ _ _ _ (vs_long x o y fit start ∙ sym (ds_long x o y fit))) in
      all_filled (length ds) z (rw (ds_long x o y fit) l) ∙ ap (λ (t : List Record). lay t old) q

  module _ (room : Bool) (has : room ≡ true → x.n * x.p ≤ length old) (h : Had (ending x o (map class_of y) room)) where
    told : Told (ending x o (map class_of y) room)
    unfolding ending ending_of
    told = by (refusal x o (length (map class_of y)) (any_of is_infinity (map class_of y)) room) (no_information (counts_of (cov_of x (map class_of y)).0 (map class_of y))) refl refl
      where
        by : (k : ℕ) (q : Bool) → refusal x o (length (map class_of y)) (any_of is_infinity (map class_of y)) room ≡ k → no_information (counts_of (cov_of x (map class_of y)).0 (map class_of y)) ≡ q
            → Told (ending x o (map class_of y) room)
        by k q e s = subst Told (sym (ap₂ ending_of e s)) (at k q e (subst Had (ap₂ ending_of e s) h))
          where
            at : (k : ℕ) (q : Bool) → refusal x o (length (map class_of y)) (any_of is_infinity (map class_of y)) room ≡ k → Had (ending_of k q) → Told (ending_of k q)
            at zero true e g = when_silent (has (accepted x o _ _ room e).roomy) g
            at zero false e g = let a = accepted x o _ _ room e in when_answered a.readings a.inputs.a1 (has a.roomy) g
            at (suc k) q e g = when_turned k (λ t. not_twelve x o _ _ room (e ∙ t)) g

    -- out of range nothing is told, so n·p fits where it is asked
    refused_one : outside x.p x.m x.r x.n ≡ true → refusal_of r ≡ 1
    unfolding cov_outcome mean_outcome number_of refusal tests first_of
    refused_one e = (subst Had (ends.is_turned x o y room Dimension (rw e refl)) h).refusal

    all_told : to_tell r (capped x.p x.n) ≡ to_tell r (x.n * x.p)
    all_told = by (outside x.p x.m x.r x.n) refl
      where
        by : (t : Bool) → outside x.p x.m x.r x.n ≡ t → to_tell r (capped x.p x.n) ≡ to_tell r (x.n * x.p)
        by true e =
            let h = refused_one e in
            let none : (k : ℕ) → to_tell r k ≡ 0 = λ k. tells_none r k (λ t. omega arith) (λ t. omega arith) in
            none _ ∙ sym (none _)
        by false e = let i = in_range _ _ _ _ e in ap (to_tell r) (sym (all_of x.p x.n i.p8 i.n4096))

-- ---- the promises, from the flat call's and from what `fill` leaves

module _ (x : Model) (o : Offsets) (y : List Float) (w : CovParts) (w' : MeanParts) (r : Outcome) (pc pi fc : List Float) (kinds : List ℕ) (fs fi ms mi pm fm v : List Float) (k : ℕ) (old new : List Record) where
  abbrev b : CovParts
  b = cov_parts pc pi fc kinds fs fi ms mi

  abbrev b' : MeanParts
  b' = mean_parts pm fm v

  has_room : (room : Bool) → (room && leb (kinds_need x) (length old)) ≡ true → x.n * x.p ≤ length old
  unfolding kinds_need
  has_room room e = leb-true _ _ (both_true room _ e).1

  module _ (e : k ≡ to_tell r (capped x.p x.n)) (l : new ≡ filled k kinds v fs fi old) where
    by_flat : (room : Bool) → Promise (ends.End x o y w w' (ending x o (map class_of y) (room && leb (kinds_need x) (length old)))) r b b' → new ≡ told_by (x.n * x.p) r b b' old
    unfolding cov_parts mean_parts
    by_flat room h = l ∙ ap (λ (j : ℕ). filled j kinds v fs fi old) (e ∙ all_told x o y w w' r b b' old _ (has_room room) h)

    by_run : (room : Bool) → Promise (ends.End x o y w w' (ending x o (map class_of y) (room && leb (kinds_need x) (length old)))) r b b' → new ≡ list_after x o y (ending x o (map class_of y) (room && leb (kinds_need x) (length old))) old
    by_run room h = by_flat room h ∙ told x o y w w' r b b' old _ (has_room room) h

  pub listed_so : Promise (outcome_with_records x o y w w' (length old)) r b b' → k ≡ to_tell r (capped x.p x.n) → new ≡ filled k kinds v fs fi old → WithRecords x o y w w' old r b b' new
  unfolding outcome_with_records ending_with_records
  listed_so h e l = record { promise = h; records = by_run e l (roomy x w w') h; told = by_flat e l (roomy x w w') h }

  pub listed_smooth_so : (sm sc sm' sc' : List Float) → PromiseSmooth (smooth_outcome_with_records x o y w w' sm sc (length old)) r b b' sm' sc' → k ≡ to_tell r (capped x.p x.n) → new ≡ filled k kinds v fs fi old → WithRecordsSmooth x o y w w' sm sc old r b b' sm' sc' new
  unfolding smooth_outcome_with_records ending_with_records
  listed_smooth_so sm sc sm' sc' h e l =
      record { promise = h; records = by_run e l (roomy_smoothed x w w' sm sc) h.filter; told = by_flat e l (roomy_smoothed x w w' sm sc) h.filter }
