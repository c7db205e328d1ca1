-- The two tracks apart, and a skip that moves nothing: the facts of the definition on which demand 3, request k and the counts rest.
use Rattle.std.specs.Prelude.{◌≡◌, ℕ, Bool, false, length, T, Float}
use Rattle.std.proofs.Math.Path.{refl, ap}
use mathlib.Core.List.{List, map}
use Rattle.std.specs.Float.{nan, inf, fin}
use Rattle.std.specs.Float.Ieee.{is_nan}
use Rattle.definition.specs.Num.{0ᶠ, is_finite}
use Rattle.definition.specs.Run.{any_of}
use Rattle.definition.specs.Cov.{Cause, Inner, skipped, apply}
use Rattle.definition.specs.Mean.{Mean, v_of, heed, hear}
use Rattle.definition.specs.Smooth.{Ns, Rs, back_n, back_r}
use Rattle.definition.specs.Inputs.{Model, Offsets, Class, finite, class_of, is_gap, is_infinity}
use Rattle.definition.specs.Refusals.{refusal}
use Rattle.definition.specs.Parts.{is_news}
use Rattle.definition.specs.Outcome.{CovParts, MeanParts, ending, roomy, roomy_smoothed, outcome, outcome_at, smooth_outcome, smooth_outcome_at}
use Rattle.definition.specs.Stretch.{From, past_in, bad_from, stretch_refusal, roomy_stretch, stretch_ending, stretch_outcome}

-- ---- the covariance half goes by the readings' classes, and finite readings are of one class

pub finite_class : (v : Float) → T (is_finite v) → class_of v ≡ finite
unfolding is_finite class_of
finite_class nan h = absurd h
finite_class (inf s) h = absurd h
finite_class (fin s m e) h = refl

module _ (x : Model) (o : Offsets) (y y' : List Float) (alike : map class_of y ≡ map class_of y') (b : CovParts) (b' : MeanParts) where
  pub by_classes : (outcome x o y b b').0 ≡ (outcome x o y' b b').0
  unfolding outcome outcome_at
  by_classes = ap (λ (ks : List Class). (outcome_at x o ks y b b').0) alike

  pub smooth_by_classes : (sm sc : List Float) → (smooth_outcome x o y b b' sm sc).0 ≡ (smooth_outcome x o y' b b' sm sc).0
  unfolding smooth_outcome smooth_outcome_at
  smooth_by_classes sm sc = ap (λ (ks : List Class). (smooth_outcome_at x o ks y b b' sm sc).0) alike

-- ---- and not by the offsets: of a1, c and d, and of the parts lent to the means, it sees which refusal they bring about, and no more

module _ (x : Model) (o o' : Offsets) (y : List Float) (b : CovParts) (b' c' : MeanParts) where
  -- the refusal before the run of a call with this much room
  abbrev early : Offsets → Bool → ℕ
  early o room = refusal x o (length (map class_of y)) (any_of is_infinity (map class_of y)) room

  pub by_refusal : early o (roomy x b b') ≡ early o' (roomy x b c') → (outcome x o y b b').0 ≡ (outcome x o' y b c').0
  unfolding outcome outcome_at ending
  by_refusal e = rw e refl

  pub smooth_by_refusal : (sm sm' sc : List Float) → early o (roomy_smoothed x b b' sm sc) ≡ early o' (roomy_smoothed x b c' sm' sc) → (smooth_outcome x o y b b' sm sc).0 ≡ (smooth_outcome x o' y b c' sm' sc).0
  unfolding smooth_outcome smooth_outcome_at ending
  smooth_by_refusal sm sm' sc e = rw e refl

  -- of a stretch
  module _ (w : From) (last : Bool) (save save' : List ℕ) where
    abbrev early_in : Offsets → Bool → ℕ
    early_in o room = stretch_refusal x o (length (map class_of y)) (any_of is_infinity (map class_of y)) room (bad_from x w) (past_in x w).done

    pub stretch_by_refusal : early_in o (roomy_stretch x last b b' save) ≡ early_in o' (roomy_stretch x last b c' save') → (stretch_outcome x o w last y b b' save).cov ≡ (stretch_outcome x o' w last y b c' save').cov
    unfolding stretch_outcome stretch_ending
    stretch_by_refusal e = rw e refl

-- ---- skipped, whatever the cause: nothing moves (document 01, "One period forward"), neither forward nor back, its v is +0.0 whatever was read,
-- and it is no news

pub skip_stays : (c : Cause) (m : ℕ) (z : List Float) (i : ℕ) (s : Inner) → apply m z i s (skipped c) ≡ s
unfolding apply
skip_stays c m z i s = refl

pub skip_unheard : (c : Cause) (m : ℕ) (design ds : List Float) (i : ℕ) (s : Mean) (reading : Float) → hear m design ds i s (skipped c, reading) ≡ (0ᶠ, s)
unfolding hear v_of heed
skip_unheard c m design ds i s reading = refl

pub skip_stays_back : (c : Cause) (m : ℕ) (live : Bool) (z : List Float) (n : Ns) → back_n m live z n (skipped c) ≡ n
unfolding back_n
skip_stays_back c m live z n = refl

pub skip_unheard_back : (c : Cause) (m : ℕ) (z : List Float) (r : Rs) (v : Float) → back_r m z r (skipped c) v ≡ r
unfolding back_r
skip_unheard_back c m z r v = refl

pub skip_no_news : (c : Cause) → is_news (skipped c) ≡ false
skip_no_news c = refl

-- ---- heard counts the readings that are not NaN

pub gap_is_nan : (v : Float) → is_gap (class_of v) ≡ is_nan v
unfolding class_of is_nan
gap_is_nan nan = refl
gap_is_nan (inf s) = refl
gap_is_nan (fin s m e) = refl
