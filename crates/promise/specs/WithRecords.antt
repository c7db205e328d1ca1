-- What the calls with a list of records promise: the flat call's outcome, where refusal 2 asks for the list's room too, and the list afterwards.
use Rattle.std.specs.Prelude.{◌≡◌, ℕ, ◌*◌, Bool, ◌&&◌, cond, List, map, length, replicate, leb, eqb, Float, Ok, Err}
use Rattle.definition.specs.Run.{join}
use Rattle.definition.specs.Inputs.{Model, Offsets, class_of}
use Rattle.definition.specs.Parts.{fStar, fInf, innovations}
use Rattle.definition.specs.Outcome.{CovParts, MeanParts, CovOutcome, MeanOutcome, SmoothedCov, SmoothedMean, Ending, kinds_need, roomy, roomy_smoothed, decisions_of, cov_of, mean_of, mean_written, ending, after, cov_outcome, mean_outcome, smoothed_cov, smoothed_mean}
use Rattle.promise.specs.Lent.{Given, Lent, LentSmooth}
use Rattle.promise.specs.Refusals.{number}
use Rattle.promise.specs.Calls.{Outcome, Promise, PromiseSmooth}
use Rattle.promise.specs.declared.Record.{Record}
use Rattle.promise.specs.Records.{gap_record, filled, records_by}

-- ---- the list is one lent part more: n·p records. `room`: the flat parts are as long as needed; `have`: how many places the list has

unfoldable pub ending_with_records : Model → Offsets → List Float → Bool → ℕ → Ending
ending_with_records x o y room have = ending x o (map class_of y) (room && leb (kinds_need x) have)

-- the flat parts afterwards
unfoldable pub outcome_with_records : Model → Offsets → List Float → CovParts → MeanParts → ℕ → CovOutcome × MeanOutcome
outcome_with_records x o y b b' have =
    let ks = map class_of y in let f = ending_with_records x o y (roomy x b b') have in (cov_outcome x f ks b, mean_outcome x f o ks y b')

unfoldable pub smooth_outcome_with_records : Model → Offsets → List Float → CovParts → MeanParts → List Float → List Float → ℕ → SmoothedCov × SmoothedMean
smooth_outcome_with_records x o y b b' sm sc have =
    let ks = map class_of y in
    let f = ending_with_records x o y (roomy_smoothed x b b' sm sc) have in (
      record { filter = cov_outcome x f ks b; smoothed = smoothed_cov x f ks sc },
      record { filter = mean_outcome x f o ks y b'; smoothed = smoothed_mean x f o ks y sm },
    )

-- the records of a run: of each element what was decided, with its v
unfoldable pub records_run : Model → Offsets → List Float → List Record
records_run x o y = let cs = (cov_of x (map class_of y)).0 in records_by (join (decisions_of cs)) (mean_written (mean_of x o cs y) innovations)

-- the list afterwards, like every part: a refusal before the run leaves it, 12 sets n·p records of gaps, a run lays its own; the rest of it stays
unfoldable pub list_after : Model → Offsets → List Float → Ending → List Record → List Record
list_after x o y f old = after f (records_run x o y) (replicate (kinds_need x) gap_record) old

-- ---- the same list by the flat parts as they stand afterwards: k records of an answer and on refusal 12, else none

abbrev pub to_tell : Outcome → ℕ → ℕ
to_tell (Err e) k = cond (eqb (number e) 12) k 0
to_tell (Ok a) k = k

abbrev pub told_by : ℕ → Outcome → CovParts → MeanParts → List Record → List Record
told_by k r b b' old = filled (to_tell r k) b.kinds (b' innovations) (b.part fStar) (b.part fInf) old

-- ---- the promises. w and w' are the flat parts as they were lent, b and b' afterwards; of the list old and new

pub record WithRecords (x : Model) (o : Offsets) (y : List Float) (w : CovParts) (w' : MeanParts) (old : List Record) (r : Outcome) (b : CovParts) (b' : MeanParts) (new : List Record) : Type 0 where
  pub promise : Promise (outcome_with_records x o y w w' (length old)) r b b'
  pub records : new ≡ list_after x o y (ending_with_records x o y (roomy x w w') (length old)) old
  pub told : new ≡ told_by (x.n * x.p) r b b' old

pub record WithRecordsSmooth (x : Model) (o : Offsets) (y : List Float) (w : CovParts) (w' : MeanParts) (sm sc : List Float) (old : List Record) (r : Outcome) (b : CovParts) (b' : MeanParts) (sm' sc' : List Float) (new : List Record) : Type 0 where
  pub promise : PromiseSmooth (smooth_outcome_with_records x o y w w' sm sc (length old)) r b b' sm' sc'
  pub records : new ≡ list_after x o y (ending_with_records x o y (roomy_smoothed x w w' sm sc) (length old)) old
  pub told : new ≡ told_by (x.n * x.p) r b b' old

-- ---- the calls' promises: x is what the call is given, w what it is lent, r its answer, b what is lent afterwards

abbrev pub FilteredRecords : Given → Lent → List Record → Outcome → Lent → List Record → Type 0
FilteredRecords x w old r b new = WithRecords x.model x.offsets x.readings w.cov w.mean old r b.cov b.mean new

abbrev pub SmoothedRecords : Given → LentSmooth → List Record → Outcome → LentSmooth → List Record → Type 0
SmoothedRecords x w old r b new =
    WithRecordsSmooth x.model x.offsets x.readings w.filter.cov w.filter.mean w.mean w.cov old r
    b.filter.cov b.filter.mean b.mean b.cov new
