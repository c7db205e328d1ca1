-- Document 02, request d: a call may ask, by a marker, that the last design of a list be used again where it runs out. A marked call goes by the table
-- without 14, which is document 01's, with T's reach right after 2 (`as_before`): so it is never refused 14 (`never`). Where the list reaches the run's
-- last period, and where the design is constant, the marker is void: marked or not, the outcome is one, every part of it (`void`). T's list goes by no
-- marker. That 14 writes nothing is `keeps` of Refusals and StretchRefusals. `as_before` and `void` are in proofs/Marked.antt.
use Rattle.std.specs.Prelude.{◌≡◌, ℕ, zero, suc, ◌+◌, ◌*◌, ◌/◌, ◌≤◌, Bool, true, false, List, [], ◌∷◌, ◌++◌, map, T, length, Float}
use Rattle.std.proofs.Math.Path.{refl}
use Rattle.std.proofs.Common.{sym, ◌∙◌, ⊎_elim, arith}
use Rattle.std.specs.Float.Ieee.Bits.{is_true}
use Rattle.definition.specs.Run.{any_of}
use Rattle.definition.specs.Inputs.{Model, Offsets, Class, class_of, is_infinity, noise, system_of, frame_of}
use Rattle.definition.specs.Refusals.{outrun, list_short, first_of, of_sizes, of_lengths, of_entries, tests, refusal}
use Rattle.definition.specs.Outcome.{CovParts, MeanParts, ending_of, number_of, ending, roomy, roomy_smoothed, cov_outcome, outcome, outcome_at, smooth_outcome, smooth_outcome_at}
use Rattle.definition.specs.Carried.{Past, Carried, cov_from, mean_from, mean_on}
use Rattle.definition.specs.Stretch.{From, past_in, outside_stretch, bad_from, stretch_tests, stretch_refusal, roomy_stretch, stretch_ending, cov_stretch, stretch_outcome}
use Rattle.laws.specs.Says.{◌or◌}
use Rattle.laws.specs.Numbered.{no_number}
use Rattle.demands.specs.Conditions.{Room, OfSizes, OfLengths, OfSteps, OfEntries, OfRun}
use Rattle.demands.specs.Refusals.{not_short}

-- ---- a marked call

-- the table without 14
abbrev pub without_fourteen : Model → Offsets → List Float → Type 0 → List (ℕ × Type 0)
without_fourteen x o y Room = OfSizes x ++ OfLengths x o y Room ++ OfSteps x x.n ++ OfEntries x o y ++ OfRun x y

told_early : (r : ℕ) (q : Bool) → number_of (ending_of r q) ≡ 14 → r ≡ 14
unfolding ending_of number_of
told_early zero true e = absurd (omega arith)
told_early zero false e = e
told_early (suc r) q e = e

module _ (x : Model) (marked : T x.repeats) (o : Offsets) (y : List Float) where
  -- the tests but 14: of the filter's call and the smoother's, and of a stretch
  abbrev pub of_steps : ℕ → List (ℕ × Bool)
  of_steps periods = (2, outrun (x.m * x.m) (length x.t_list) periods) ∷ []

  abbrev pub before : Bool → List (ℕ × Bool)
  before room = of_sizes x ++ of_lengths x o (length (map class_of y)) room ++ of_steps x.n ++ of_entries x o (any_of is_infinity (map class_of y))

  abbrev before_in : Bool → Bool → ℕ → List (ℕ × Bool)
  before_in room bad done =
      ((1, outside_stretch x.p x.m x.r x.n) ∷ []) ++ of_lengths x o (length (map class_of y)) room ++ of_entries x o (any_of is_infinity (map class_of y)) ++ ((15, bad) ∷ [])
      ++ of_steps (done + x.n)

  pub passes : (room : Bool) → refusal x o (length (map class_of y)) (any_of is_infinity (map class_of y)) room ≡ first_of (before room)
  unfolding refusal tests list_short first_of
  passes room = rw (is_true x.repeats marked) refl

  passes_in : (room bad : Bool) (done : ℕ) → stretch_refusal x o (length (map class_of y)) (any_of is_infinity (map class_of y)) room bad done ≡ first_of (before_in room bad done)
  unfolding stretch_refusal stretch_tests list_short first_of
  passes_in room bad done = rw (is_true x.repeats marked) refl

  never_at : (room : Bool) → number_of (ending x o (map class_of y) room) ≡ 14 → ⊥
  unfolding ending
  never_at room e = no_number 14 (before room) tt tt (sym (passes room) ∙ told_early _ _ e)

  module _ (b : CovParts) (b' : MeanParts) where
    pub never : (outcome x o y b b').0.refused ≡ 14 → ⊥
    unfolding outcome outcome_at cov_outcome
    never = never_at (roomy x b b')

    pub never_smooth : (sm sc : List Float) → (smooth_outcome x o y b b' sm sc).0.filter.refused ≡ 14 → ⊥
    unfolding smooth_outcome smooth_outcome_at cov_outcome
    never_smooth sm sc = never_at (roomy_smoothed x b b' sm sc)

    pub never_stretch : (w : From) (last : Bool) (save : List ℕ) → (stretch_outcome x o w last y b b' save).cov.refused ≡ 14 → ⊥
    unfolding stretch_outcome stretch_ending cov_stretch
    never_stretch w last save e = no_number 14 (before_in (roomy_stretch x last b b' save) (bad_from x w) (past_in x w).done) tt tt (sym (passes_in _ _ _) ∙ told_early _ _ e)

-- ---- the same model, marked or not

abbrev pub marking : Bool → Model → Model
marking b x = record { p = x.p; m = x.m; r = x.r; n = x.n; z_once = x.z_once; z_list = x.z_list; repeats = b; h = x.h; t_once = x.t_once; t_list = x.t_list; rr = x.rr; q = x.q; flags = x.flags; p_star = x.p_star }

-- ---- the marker is void where the list reaches the last of so many periods, and where there is none, the design being constant

abbrev pub Reaches : Model → ℕ → Type 0
Reaches x periods = (length x.z_list ≡ 0) or (periods ≤ length x.z_list / (x.p * x.m))

pub long_enough : (x : Model) (periods : ℕ) → Reaches x periods → (a : Bool) → list_short a (x.p * x.m) (length x.z_list) periods ≡ false
long_enough x periods h a = not_short (marking a x) periods (λ s. ⊎_elim s.1.0 (λ l. omega (arith, s.1.1)) h)

-- ---- the run does not read the marker

module _ (x : Model) (a : Bool) where
  pub same_covs : (s : Past) (ks : List Class) → cov_from (marking a x) s ks ≡ cov_from x s ks
  unfolding cov_from system_of noise
  same_covs s ks = refl

  pub same_means : (o : Offsets) (s : Carried) (y : List Float) → mean_on (marking a x) o s y ≡ mean_on x o s y
  unfolding mean_on mean_from cov_from system_of frame_of noise
  same_means o s y = refl
