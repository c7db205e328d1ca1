-- Document 02, request g: a list of n equal transitions gives the constant model's outcome, every part of it, on every input, refused ones too
-- (`equal_matrices`); and so does one of k, as long as the run or longer (`as_constant`). The matrices are m by m: copies of one of 2 m m numbers would
-- pass as twice as many matrices, where as a constant it is refused.
use Rattle.std.specs.Prelude.{◌≡◌, refl, ℕ, zero, suc, ◌+◌, ◌*◌, ◌≤◌, ◌<◌, Bool, true, false, ◌||◌, length, Float}
use Rattle.std.proofs.Common.{le_refl, arith}
use mathlib.Core.List.{List, []}
use borrow.Author.Tests.{eqb-false}
use Rattle.definition.specs.Inputs.{Model, Offsets, noise, system_from, system_of, frame_from, frame_of, start_of}
use Rattle.definition.specs.Refusals.{beyond, outside, inputs_fit, bad_length, first_of, tests, refusal}
use Rattle.definition.specs.Outcome.{CovParts, MeanParts, ending_of, number_of, ending, after, counts_in, loglik_in, report_in, kinds_need, cov_need, mean_need, smoothed_cov_need, smoothed_mean_need, roomy, roomy_smoothed, cov_of, mean_of, cov_outcome, mean_outcome, outcome, outcome_at, smoothed_cov, smoothed_mean, smooth_outcome, smooth_outcome_at}
use Rattle.definition.specs.Carried.{begun_past, cov_from, mean_from, past_on, mean_on, mean_off_on, went}
use Rattle.definition.specs.Stretch.{From, past_in, mean_in, mean_told_in, outside_stretch, bad_from, stretch_tests, stretch_refusal, roomy_stretch, stretch_ending, cov_stretch, mean_stretch, save_stretch, stretch_outcome}
use Rattle.laws.specs.Any.{either_false}
use Rattle.laws.specs.Entries.{copies}
use Rattle.laws.specs.Accepted.{in_range, positive}
use Rattle.laws.specs.AcceptedStretch.{sizes_pass}
use Rattle.demands.specs.Copies.{with_t, Same, same}

-- ---- so the calls have one outcome. Out of range both are refused 1, and nothing is read of T

either_way : {A : Type 0} {a b : A} (s : Bool) → (s ≡ true → a ≡ b) → (s ≡ false → a ≡ b) → a ≡ b
either_way true f g = f refl
either_way false f g = g refl

some_period : (p m r n : ℕ) → outside p m r n ≡ false → 0 < n
unfolding outside
some_period p m r n e = positive n (eqb-false n 0 (either_false _ _ (either_false (beyond 8 p || beyond 8 m || beyond 8 r) (beyond 4096 n) e).1).0)

module _ (x : Model) (t : List Float) (whole : length t ≡ x.m * x.m) where
  within : (k : ℕ) → x.n ≤ k → (x.n ≤ 4096 → k ≤ 4096) → outside x.p x.m x.r x.n ≡ false → Same x t k x.n
  within zero h few e = absurd (omega (arith, some_period _ _ _ _ e))
  within (suc j) h few e = let s = in_range _ _ _ _ e in same x t whole s.m0 j (few s.n4096) x.n h

  within_stretch : (k periods : ℕ) → 0 < k → k ≤ 4096 → periods ≤ k → outside_stretch x.p x.m x.r x.n ≡ false → Same x t k periods
  within_stretch zero periods some few h e = absurd (omega arith)
  within_stretch (suc j) periods some few h e = same x t whole (sizes_pass _ _ _ _ e).m0 j few periods h

  module _ (o : Offsets) (y : List Float) (b : CovParts) (b' : MeanParts) where
    alike : (k : ℕ) → x.n ≤ k → (x.n ≤ 4096 → k ≤ 4096) → outcome (with_t [] (copies k t) x) o y b b' ≡ outcome (with_t t [] x) o y b b'
    unfolding outcome outcome_at ending ending_of number_of after counts_in loglik_in report_in refusal tests first_of bad_length inputs_fit cov_outcome mean_outcome cov_of mean_of system_of system_from frame_of frame_from start_of noise roomy kinds_need cov_need mean_need
    alike k h few =
        either_way (outside x.p x.m x.r x.n) (λ e. rw e refl) (λ e. let s = within k h few e in rw (s.fits, s.reach, s.finite, s.each))

    alike_smooth : (sm sc : List Float) (k : ℕ) → x.n ≤ k → (x.n ≤ 4096 → k ≤ 4096) → smooth_outcome (with_t [] (copies k t) x) o y b b' sm sc ≡ smooth_outcome (with_t t [] x) o y b b' sm sc
    unfolding smooth_outcome smooth_outcome_at ending ending_of number_of after counts_in loglik_in report_in refusal tests first_of bad_length inputs_fit cov_outcome mean_outcome smoothed_cov smoothed_mean cov_of mean_of system_of system_from frame_of frame_from start_of noise roomy_smoothed roomy kinds_need cov_need mean_need smoothed_cov_need smoothed_mean_need
    alike_smooth sm sc k h few =
        either_way (outside x.p x.m x.r x.n) (λ e. rw e refl) (λ e. let s = within k h few e in rw (s.fits, s.reach, s.finite, s.each))

    -- a list of k copies: as long as the run or longer, and no longer than a list may be
    pub as_constant : (k : ℕ) → x.n ≤ k → k ≤ 4096 → outcome (with_t [] (copies k t) x) o y b b' ≡ outcome (with_t t [] x) o y b b'
    as_constant k h few = alike k h (λ l. few)

    pub as_constant_smooth : (sm sc : List Float) (k : ℕ) → x.n ≤ k → k ≤ 4096 → smooth_outcome (with_t [] (copies k t) x) o y b b' sm sc ≡ smooth_outcome (with_t t [] x) o y b b' sm sc
    as_constant_smooth sm sc k h few = alike_smooth sm sc k h (λ l. few)

    -- of a stretch: over the periods done and its own. (The first may be of no period, and the list must hold a matrix all the same.)
    pub as_constant_stretch : (w : From) (last : Bool) (save : List ℕ) (k : ℕ) → 0 < k → (past_in x w).done + x.n ≤ k → k ≤ 4096
        → stretch_outcome (with_t [] (copies k t) x) o w last y b b' save ≡ stretch_outcome (with_t t [] x) o w last y b b' save
    unfolding stretch_outcome stretch_ending ending_of number_of after counts_in loglik_in report_in stretch_refusal stretch_tests first_of bad_length inputs_fit cov_stretch mean_stretch save_stretch past_in mean_in mean_told_in bad_from begun_past cov_from mean_from past_on mean_on mean_off_on went system_of system_from frame_of frame_from start_of noise roomy_stretch roomy kinds_need cov_need mean_need
    as_constant_stretch w last save k some h few =
        either_way (outside_stretch x.p x.m x.r x.n) (λ e. rw e refl)
        (λ e. let s = within_stretch k ((past_in x w).done + x.n) some few h e in rw (s.fits, s.reach, s.finite, s.each))

    -- and of n copies, n out of range too
    pub equal_matrices : outcome (with_t [] (copies x.n t) x) o y b b' ≡ outcome (with_t t [] x) o y b b'
    equal_matrices = alike x.n (le_refl x.n) (λ l. l)

    pub equal_matrices_smooth : (sm sc : List Float) → smooth_outcome (with_t [] (copies x.n t) x) o y b b' sm sc ≡ smooth_outcome (with_t t [] x) o y b b' sm sc
    equal_matrices_smooth sm sc = alike_smooth sm sc x.n (le_refl x.n) (λ l. l)
