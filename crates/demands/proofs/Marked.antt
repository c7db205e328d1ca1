-- Document 02, request d: a marked call goes by the table without 14 (`as_before`), and where the list reaches the run's last period, or the design is
-- constant, the marker is void: marked or not, the outcome is one, every part of it (`void`).
use Rattle.std.specs.Prelude.{◌≡◌, ◌↔◌, ℕ, ◌+◌, Bool, List, map, T, Float}
use Rattle.std.proofs.Math.Path.{refl}
use Rattle.definition.specs.Inputs.{Model, Offsets, class_of, noise, system_of, frame_of, start_of}
use Rattle.definition.specs.Refusals.{inputs_fit, bad_length, first_of, tests, refusal}
use Rattle.definition.specs.Outcome.{CovParts, MeanParts, number_of, ending, no_information, kinds_need, cov_need, mean_need, smoothed_cov_need, smoothed_mean_need, roomy, roomy_smoothed, cov_of, mean_of, cov_outcome, mean_outcome, outcome, outcome_at, smoothed_cov, smoothed_mean, smooth_outcome, smooth_outcome_at}
use Rattle.definition.specs.Carried.{begun_past, cov_from, mean_from, past_on, mean_on, mean_off_on, went}
use Rattle.definition.specs.Stretch.{From, past_in, mean_in, mean_told_in, bad_from, stretch_tests, stretch_refusal, roomy_stretch, stretch_ending, cov_stretch, mean_stretch, save_stretch, stretch_outcome}
use Rattle.laws.specs.Says.{Says}
use Rattle.demands.specs.Conditions.{ran, Room, RoomSmooth, First}
use Rattle.demands.specs.Refusals.{◌then◌, reads_sizes, reads_lengths, reads_steps, reads_run, first_is, says_room, says_room_smooth}
use Rattle.demands.specs.Marked.{without_fourteen, before, passes, marking, Reaches, long_enough}
use Rattle.demands.proofs.Refusals.{reads_entries}

-- ---- a marked call

module _ (x : Model) (marked : T x.repeats) (o : Offsets) (y : List Float) where
  by_table : (room : Bool) (Room : Type 0) → Says room Room → (k : ℕ) → (number_of (ending x o (map class_of y) room) ≡ k) ↔ First k (without_fourteen x o y Room)
  unfolding ending
  by_table room Room s k =
      let reads = reads_sizes x then reads_lengths x o y room Room s then reads_steps x x.n then reads_entries x o y then reads_run x y in
      rw (passes x marked o y room) (first_is (before x marked o y room) (no_information (ran x y)) (without_fourteen x o y Room) tt reads k)

  module _ (b : CovParts) (b' : MeanParts) where
    pub as_before : (k : ℕ) → ((outcome x o y b b').0.refused ≡ k) ↔ First k (without_fourteen x o y (Room x b b'))
    unfolding outcome outcome_at cov_outcome
    as_before = by_table (roomy x b b') (Room x b b') (says_room x b b')

    pub as_before_smooth : (sm sc : List Float) (k : ℕ) → ((smooth_outcome x o y b b' sm sc).0.filter.refused ≡ k) ↔ First k (without_fourteen x o y (RoomSmooth x b b' sm sc))
    unfolding smooth_outcome smooth_outcome_at cov_outcome
    as_before_smooth sm sc = by_table (roomy_smoothed x b b' sm sc) (RoomSmooth x b b' sm sc) (says_room_smooth x b b' sm sc)

-- ---- the same model, marked or not

module _ (x : Model) (a : Bool) (o : Offsets) (y : List Float) (b : CovParts) (b' : MeanParts) where
  pub void : Reaches x x.n → outcome (marking a x) o y b b' ≡ outcome x o y b b'
  unfolding outcome outcome_at ending refusal tests first_of bad_length inputs_fit cov_outcome mean_outcome cov_of mean_of system_of frame_of start_of noise roomy kinds_need cov_need mean_need
  void h = rw (long_enough x x.n h a, long_enough x x.n h x.repeats) refl

  pub void_smooth : (sm sc : List Float) → Reaches x x.n → smooth_outcome (marking a x) o y b b' sm sc ≡ smooth_outcome x o y b b' sm sc
  unfolding smooth_outcome smooth_outcome_at ending refusal tests first_of bad_length inputs_fit cov_outcome mean_outcome smoothed_cov smoothed_mean cov_of mean_of system_of frame_of start_of noise roomy_smoothed roomy kinds_need cov_need mean_need smoothed_cov_need smoothed_mean_need
  void_smooth sm sc h = rw (long_enough x x.n h a, long_enough x x.n h x.repeats) refl

  -- over the periods done and the stretch's
  pub void_stretch : (w : From) (last : Bool) (save : List ℕ) → Reaches x ((past_in x w).done + x.n) → stretch_outcome (marking a x) o w last y b b' save ≡ stretch_outcome x o w last y b b' save
  unfolding stretch_outcome stretch_ending stretch_refusal stretch_tests first_of bad_length inputs_fit cov_stretch mean_stretch save_stretch past_in mean_in mean_told_in bad_from begun_past cov_from mean_from past_on mean_on mean_off_on went system_of frame_of start_of noise roomy_stretch roomy kinds_need cov_need mean_need
  void_stretch w last save h = rw (long_enough x ((past_in x w).done + x.n) h a, long_enough x ((past_in x w).done + x.n) h x.repeats) refl
