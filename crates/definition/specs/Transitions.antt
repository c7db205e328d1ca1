-- Which T a step takes, and which T refusal 10 looks at (document 02, request g), by computation.
use Rattle.std.specs.Prelude.{ℕ, ◌*◌, true, false, List, [], ◌∷◌, ◌++◌, replicate, T, Float}
use Rattle.std.specs.Float.{nan}
use Rattle.definition.specs.Num.{◌⊘◌, 0ᶠ, 1ᶠ, zeros}
use Rattle.definition.specs.Inputs.{Model}
use Rattle.definition.specs.Refusals.{refusal}
use Rattle.definition.specs.Parts.{predCov, filtCov, predMean, filtMean}
use Rattle.definition.specs.Outcome.{SmoothedCov, SmoothedMean, kinds_need, cov_need, mean_need, smoothed_cov_need, smoothed_mean_need, smooth_outcome}
use Rattle.definition.specs.Computed.{num, bits, hold, opened}

-- two periods by two transitions: one element that reads every state, H = 6, and one disturbance of variance 2 in every state
abbrev model_of : ℕ → List ℕ → List Float → Model
model_of m flags ts =
    record {
      p = 1;
      m = m;
      r = 1;
      n = 2;
      z_once = replicate m 1ᶠ;
      z_list = [];
      repeats = false;
      h = num 6 ∷ [];
      t_once = [];
      t_list = ts;
      rr = replicate m 1ᶠ;
      q = num 2 ∷ [];
      flags = flags;
      p_star = zeros (m * m);
    }

-- ---- refusal 10 looks at the first T alone. Of two states the second is flagged, and a T of ones leads from it into the first

abbrev driven : List Float → List ℕ
driven ts =
    let o = zeros 2 in
    refusal (model_of 2 (0 ∷ 1 ∷ []) ts) (record { c = o; d = 0ᶠ ∷ []; a1 = o }) 2 false true ∷ []

abbrev rows : List (List ℕ × List ℕ)
rows = (driven (zeros 4 ++ replicate 4 1ᶠ), 0 ∷ []) ∷ (driven (replicate 4 1ᶠ ++ zeros 4), 10 ∷ []) ∷ []

pub first_alone : T (hold rows)
unfolding opened
first_alone = tt

-- ---- one state, flagged, T = 2 and then 1, y = [2, 36]

abbrev heated : Model
heated = model_of 1 (1 ∷ []) (num 2 ∷ num 1 ∷ [])

abbrev smoothed : SmoothedCov × SmoothedMean
smoothed =
    let o = 0ᶠ ∷ [] in
    smooth_outcome heated (record { c = o; d = o; a1 = o }) (num 2 ∷ num 36 ∷ [])
    (record { kinds = replicate (kinds_need heated) 9; part = λ q. replicate (cov_need heated q) nan })
    (λ q. replicate (mean_need heated q) nan)
    (replicate (smoothed_mean_need heated) nan)
    (replicate (smoothed_cov_need heated) nan)

abbrev eighths : ℕ → Float
eighths k = num k ⊘ num 8

abbrev moments : List (List ℕ × List ℕ)
moments =
    -- forward, out of period 0 by 2 and out of period 1 by 1: predicted 4, 26 and 30, 6.875
    (bits (smoothed.1.filter.parts predMean), bits (num 0 ∷ num 4 ∷ num 30 ∷ []))
    ∷ (bits (smoothed.0.filter.parts.part predCov), bits (num 0 ∷ num 26 ∷ eighths 55 ∷ []))
    ∷ (bits (smoothed.1.filter.parts filtMean), bits (num 2 ∷ num 30 ∷ []))
    ∷ (bits (smoothed.0.filter.parts.part filtCov), bits (num 6 ∷ eighths 39 ∷ []))
    -- back from period 1 to 0 by 2, the T that led into 1: 14, 1.5 and 30, 4.875. By 1, the T of period 1, period 0 would be at 8
    ∷ (bits smoothed.1.smoothed, bits (num 14 ∷ num 30 ∷ []))
    ∷ (bits smoothed.0.smoothed, bits (eighths 12 ∷ eighths 39 ∷ []))
    ∷ []

pub by_its_own : T (hold moments)
unfolding opened
by_its_own = tt
