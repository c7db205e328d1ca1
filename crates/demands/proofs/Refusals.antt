-- The table of refusals, for the filter's call and the smoother's: a call refuses with the number of the first condition that applies, and answers
-- where none does (`refuses`, `refuses_smooth`).
use Rattle.std.specs.Prelude.{◌≡◌, ◌↔◌, ℕ, Bool, List, [], ◌∷◌, ◌++◌, map, length, Float}
use Rattle.definition.specs.Run.{any_of}
use Rattle.definition.specs.Inputs.{Model, Offsets, class_of, is_infinity}
use Rattle.definition.specs.Refusals.{of_entries, tests, refusal}
use Rattle.definition.specs.Outcome.{CovParts, MeanParts, SmoothedCov, SmoothedMean, number_of, ending, roomy, roomy_smoothed, no_information, cov_outcome, outcome, outcome_at, smooth_outcome, smooth_outcome_at}
use Rattle.laws.specs.Says.{Says}
use Rattle.demands.specs.Conditions.{ran, Room, RoomSmooth, OfEntries, table, First}
use Rattle.demands.specs.Refusals.{Reads, ◌then◌, reads_sizes, reads_lengths, reads_reach, reads_system, reads_start, reads_h, reads_readings, reads_step, reads_run, first_is, says_room, says_room_smooth}

-- ---- 3 to 11, and all of the table

pub reads_entries : (x : Model) (o : Offsets) (y : List Float) → Reads (of_entries x o (any_of is_infinity (map class_of y))) (OfEntries x o y)
reads_entries x o y = reads_system x then reads_start x o then reads_h x then reads_readings y then reads_step x

module _ (x : Model) (o : Offsets) (y : List Float) (room : Bool) (Room : Type 0) (s : Says room Room) where
  abbrev before : List (ℕ × Bool)
  before = tests x o (length (map class_of y)) (any_of is_infinity (map class_of y)) room

  reads : Reads (before ++ ((12, no_information (ran x y)) ∷ [])) (table x o y Room)
  unfolding tests
  reads = reads_sizes x then reads_lengths x o y room Room s then reads_reach x x.n then reads_entries x o y then reads_run x y

  filter_is : (k : ℕ) → (number_of (ending x o (map class_of y) room) ≡ k) ↔ First k (table x o y Room)
  unfolding ending refusal tests
  filter_is = first_is before (no_information (ran x y)) (table x o y Room) tt reads

-- ---- the calls

module _ (x : Model) (o : Offsets) (y : List Float) (b : CovParts) (b' : MeanParts) where
  pub refuses : (k : ℕ) → ((outcome x o y b b').0.refused ≡ k) ↔ First k (table x o y (Room x b b'))
  unfolding outcome outcome_at cov_outcome
  refuses = filter_is x o y (roomy x b b') (Room x b b') (says_room x b b')

module _ (x : Model) (o : Offsets) (y : List Float) (b : CovParts) (b' : MeanParts) (sm sc : List Float) where
  abbrev ended : SmoothedCov × SmoothedMean
  ended = smooth_outcome x o y b b' sm sc

  pub refuses_smooth : (k : ℕ) → (ended.0.filter.refused ≡ k) ↔ First k (table x o y (RoomSmooth x b b' sm sc))
  unfolding smooth_outcome smooth_outcome_at cov_outcome
  refuses_smooth = filter_is x o y (roomy_smoothed x b b' sm sc) (RoomSmooth x b b' sm sc) (says_room_smooth x b b' sm sc)
