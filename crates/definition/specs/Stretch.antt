-- A stretch's call: its refusals, and its whole outcome, every lent part afterwards, tails included. It is the filter's call, with where it goes on
-- from (`begins`, or else the saved bytes), whether it is the last (`last`), and one lent part more, to save in.
use Rattle.std.specs.Prelude.{ℕ, ◌+◌, Bool, not, ◌&&◌, ◌||◌, cond, List, [], ◌∷◌, ◌++◌, map, length, leb, ltb, eqb, Float}
use Rattle.definition.specs.Run.{any_of}
use Rattle.definition.specs.Mean.{Mean}
use Rattle.definition.specs.Inputs.{Model, Offsets, Class, class_of, is_infinity}
use Rattle.definition.specs.Refusals.{beyond, first_of, of_lengths, of_reach, of_entries}
use Rattle.definition.specs.Outcome.{CovParts, MeanParts, CovOutcome, MeanOutcome, Ending, ending_of, after, no_information, roomy, cov_ended, mean_ended}
use Rattle.definition.specs.Carried.{Past, Carried, begun_past, begun_mean, cov_from, past_on, mean_on, mean_off_on, went}
use Rattle.definition.specs.Saved.{saved_of, saved_need, bad_saved, widths, numbers_in, loaded_past, loaded_mean, mean_off_in}

-- where a stretch goes on from: the run's start, or what was saved
pub record From : Type 0 where
  pub begins : Bool
  pub saved : List ℕ

unfoldable pub past_in : Model → From → Past
past_in x w = cond w.begins (begun_past x) (loaded_past (numbers_in (widths x.m) w.saved))

unfoldable pub mean_in : Model → Offsets → From → Mean
mean_in x o w = cond w.begins (begun_mean o) (loaded_mean (numbers_in (widths x.m) w.saved))

unfoldable pub mean_told_in : Model → From → ℕ
mean_told_in x w = cond w.begins 0 (mean_off_in (numbers_in (widths x.m) w.saved))

abbrev pub carried_in : Model → Offsets → From → Carried
carried_in x o w = record { past = past_in x w; mean = mean_in x o w; mean_off = mean_told_in x w }

-- ---- the refusals: 1, which allows 0 periods here; 2 to 11 as in the filter's call; 15; and 14, over the periods done and the stretch's

-- 1 Dimension
unfoldable pub outside_stretch : ℕ → ℕ → ℕ → ℕ → Bool
outside_stretch p m r n = beyond 8 p || beyond 8 m || beyond 8 r || ltb 4096 n

-- 15 BadSaved: of a run that begins, any saved bytes at all
unfoldable pub bad_from : Model → From → Bool
bad_from x w = cond w.begins (not (eqb (length w.saved) 0)) (bad_saved x.p x.m x.r x.n w.saved)

unfoldable pub stretch_tests : Model → Offsets → ℕ → Bool → Bool → Bool → ℕ → List (ℕ × Bool)
stretch_tests x o readings infinity room bad done =
    ((1, outside_stretch x.p x.m x.r x.n) ∷ []) ++ of_lengths x o readings room ++ of_entries x o infinity ++ ((15, bad) ∷ [])
    ++ of_reach x (done + x.n)

unfoldable pub stretch_refusal : Model → Offsets → ℕ → Bool → Bool → Bool → ℕ → ℕ
stretch_refusal x o readings infinity room bad done = first_of (stretch_tests x o readings infinity room bad done)

-- the last stretch saves nothing, and needs no room for it
unfoldable pub roomy_stretch : Model → Bool → CovParts → MeanParts → List ℕ → Bool
roomy_stretch x last b b' save = roomy x b b' && (last || leb (saved_need x.m) (length save))

-- ---- the outcome: its two halves as the filter's, with the counts, the reports and the likelihood since the run began; and the part to save in

pub record StretchOutcome : Type 0 where
  pub cov : CovOutcome
  pub mean : MeanOutcome
  pub save : List ℕ

module _ (x : Model) where
  -- refusal 12 in the last stretch alone, over the counts since the run began
  unfoldable pub stretch_ending : Offsets → Past → Bool → Bool → List Class → Bool → Ending
  stretch_ending o s bad last ks room =
      ending_of (stretch_refusal x o (length ks) (any_of is_infinity ks) room bad s.done) (last && no_information (past_on x s ks).counts)

  unfoldable pub cov_stretch : Ending → Past → List Class → CovParts → CovOutcome
  cov_stretch f s ks b = let s' = past_on x s ks in cov_ended x f (cov_from x s ks) s'.counts s'.cov_off b

  unfoldable pub mean_stretch : Ending → Offsets → Carried → List Float → MeanParts → MeanOutcome
  mean_stretch f o s y b = mean_ended x f (mean_on x o s y) (mean_off_on x o s y) b

  unfoldable pub save_stretch : Ending → Offsets → Carried → Bool → List Float → List ℕ → List ℕ
  save_stretch f o s last y save = after f (cond last [] (saved_of x.p x.m x.r (went x o s y))) [] save

  unfoldable pub stretch_outcome : Offsets → From → Bool → List Float → CovParts → MeanParts → List ℕ → StretchOutcome
  stretch_outcome o w last y b b' save =
      let ks = map class_of y in
      let s = carried_in x o w in
      let f = stretch_ending o s.past (bad_from x w) last ks (roomy_stretch x last b b' save) in
      record { cov = cov_stretch f s.past ks b; mean = mean_stretch f o s y b'; save = save_stretch f o s last y save }
