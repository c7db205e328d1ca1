-- The kinds in the records that a call left, the filter's, the smoother's or a stretch's. Of an answered call the six kinds add up to n p, and a record
-- says gap exactly where the reading is NaN. On refusal 12 every record says gap, and the six kinds add up too.
use Rattle.std.specs.Prelude.{◌≡◌, ℕ, ◌+◌, ◌*◌, ◌<◌, Bool, take, drop, replicate, Float}
use Rattle.std.proofs.Math.Path.{sym, ap}
use Rattle.std.proofs.Common.{◌∙◌, take_at}
use Rattle.std.proofs.Math.Bool.{true}
use mathlib.Core.List.{List, map}
use Rattle.std.proofs.Math.Dec.{eqb}
use Rattle.std.proofs.Math.ListN.{length, get_or, length-map, get_or-append}
use Rattle.std.proofs.lemmas.List.{length-replicate}
use Rattle.std.specs.Float.Ieee.{nan, is_nan}
use Rattle.definition.specs.Num.{at}
use Rattle.definition.specs.Run.{count, join, any_of, lay}
use Rattle.definition.specs.Inputs.{Model, Offsets, gap, class_of, is_gap, is_infinity}
use Rattle.definition.specs.Parts.{kind_no, is_news}
use Rattle.definition.specs.Outcome.{CovParts, MeanParts, Ending, answered, after, kinds_need, kinds_written, decisions_of}
use Rattle.definition.specs.Carried.{Past, cov_from}
use Rattle.definition.specs.Stretch.{From, past_in, bad_from, stretch_refusal, roomy_stretch, stretch_ending, cov_stretch, stretch_outcome}
use Rattle.definition.specs.Tracks.{gap_is_nan}
use Rattle.laws.specs.Flat.{no_decision}
use Rattle.laws.specs.ReadBack.{get_d_map_in, kinds_join}
use Rattle.laws.specs.Verdicts.{gapped}
use Rattle.laws.specs.Kinds.{of_kind, of_six_kinds, six_kinds, kinds_below, gaps_below, run_gaps, news_kinds}
use Rattle.laws.specs.Written.{kinds_written_lem}
use Rattle.laws.specs.Accepted.{lengths_pass}
use Rattle.laws.specs.AcceptedStretch.{passes}
use Rattle.demands.specs.Unheard.{answered_by, zero_answers}
use Rattle.demands.specs.Refusals.{Blanked}

-- the records, as they stand in the lent kinds
abbrev pub records : Model → List ℕ → List ℕ
records x ks = take (kinds_need x) ks

pub record Recorded (x : Model) (y : List Float) (ks : List ℕ) : Type 0 where
  pub all : of_six_kinds (records x ks) ≡ x.n * x.p
  pub gaps : (k : ℕ) → k < x.n * x.p → eqb (get_or ks k 9) 0 ≡ is_nan (at y k)

pub record AllGaps (x : Model) (ks : List ℕ) : Type 0 where
  pub each : records x ks ≡ replicate (kinds_need x) 0
  pub all : of_six_kinds (records x ks) ≡ x.n * x.p

-- ---- refusal 12

pub all_gaps : (x : Model) (old ks : List ℕ) → Blanked (kinds_need x) 0 old ks → AllGaps x ks
unfolding kinds_need
all_gaps x old ks e =
    let n = kinds_need x in
    let g = ap (take n) e ∙ take_at (replicate n 0) (drop n old) n (length-replicate n 0) in
    record { each = g; all = ap of_six_kinds g ∙ six_kinds (replicate n 0) (gaps_below n) ∙ length-replicate n 0 }

-- ---- a run from the state s, laid over what was lent

module _ (x : Model) (s : Past) (y : List Float) (old : List ℕ) (fit : length (map class_of y) ≡ x.n * x.p) where
  abbrev written : List ℕ
  written = kinds_written (cov_from x s (map class_of y))

  long : length written ≡ kinds_need x
  long = kinds_written_lem x s (map class_of y) fit

  recorded : records x (lay written old) ≡ written
  recorded = take_at written (drop (length written) old) (kinds_need x) long

  decided : written ≡ map kind_no (join (decisions_of (cov_from x s (map class_of y)).0))
  unfolding kinds_written
  decided = kinds_join (cov_from x s (map class_of y)).0

  pub news_told : count is_news (join (decisions_of (cov_from x s (map class_of y)).0)) ≡ of_kind 1 (records x (lay written old)) + of_kind 2 (records x (lay written old))
  news_told = news_kinds _ ∙ ap (λ (ks : List ℕ). of_kind 1 ks + of_kind 2 ks) (sym (recorded ∙ decided))

  pub by_run : Recorded x y (lay written old)
  unfolding kinds_need cov_from
  by_run =
      let ds = join (decisions_of (cov_from x s (map class_of y)).0) in
      record {
        all = ap of_six_kinds (recorded ∙ decided) ∙ six_kinds (map kind_no ds) (kinds_below ds) ∙ ap length (sym decided) ∙ long;
        gaps = λ k h.
            let k<w : k < length written = rw long h in
            let k<d : k < length ds = rw (decided, length-map) at k<w in
            let k<y : k < length (map class_of y) = rw fit h in
            ap (λ (j : ℕ). eqb j 0) (get_or-append written (drop (length written) old) 9 k k<w ∙ ap (λ (l : List ℕ). get_or l k 9) decided ∙ get_d_map_in kind_no ds k no_decision 9 k<d)
            ∙ sym (get_d_map_in gapped ds k no_decision true k<d)
            ∙ ap (λ (l : List Bool). get_or l k true) (run_gaps _ s.done s.cov x.n x.p (map class_of y) fit)
            ∙ get_d_map_in is_gap (map class_of y) k gap true k<y
            ∙ ap is_gap (get_d_map_in class_of y k nan gap (rw length-map at k<y))
            ∙ gap_is_nan (at y k);
      }

-- ---- a stretch's call

module _ (x : Model) (o : Offsets) (w : From) (last : Bool) (y : List Float) (b : CovParts) (b' : MeanParts) (save : List ℕ) where
  abbrev ended : Ending
  ended = stretch_ending x o (past_in x w) (bad_from x w) last (map class_of y) (roomy_stretch x last b b' save)

  pub answers : (stretch_outcome x o w last y b b' save).cov.refused ≡ 0 → ended ≡ answered
  unfolding stretch_outcome cov_stretch stretch_ending
  answers e = zero_answers _ _ e

  pub passed : ended ≡ answered → stretch_refusal x o (length (map class_of y)) (any_of is_infinity (map class_of y)) (roomy_stretch x last b b' save) (bad_from x w) (past_in x w).done ≡ 0
  unfolding stretch_ending
  passed e = (answered_by _ _ e).0

  pub readings_fit : ended ≡ answered → length (map class_of y) ≡ x.n * x.p
  readings_fit e = (lengths_pass x o _ _ (passes x o _ _ _ _ _ (passed e)).lengths).1

  pub recorded_stretch : (stretch_outcome x o w last y b b' save).cov.refused ≡ 0 → Recorded x y (stretch_outcome x o w last y b b' save).cov.parts.kinds
  unfolding stretch_outcome cov_stretch after
  recorded_stretch e = let ok = answers e in rw ok (by_run x (past_in x w) y b.kinds (readings_fit ok))
