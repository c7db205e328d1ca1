-- Document 01's bench figures: the starred ones, A to L, and those below them, as one table under one theorem, by computation.
-- Each row is what the definition gives, and what 01 says; doubles by their bits.
use Rattle.std.specs.Prelude.{ℕ, ◌^◌, ◌/◌, true, false, List, [], ◌∷◌, map, T, length, get_or, replicate, Float}
use Rattle.std.specs.Float.{nan, inf}
use Rattle.definition.specs.Num.{◌⊘◌, 0ᶠ, 1ᶠ, at}
use Rattle.definition.specs.Log.{ln_of}
use Rattle.definition.specs.Dense.{mat_vec}
use Rattle.definition.specs.Cov.{Dust, clear, below, suspect, Fixed, Inner, f_star_by, dust, candidate, element_of}
use Rattle.definition.specs.Inputs.{Model, Offsets, finite}
use Rattle.definition.specs.Refusals.{refusal}
use Rattle.definition.specs.Parts.{predCov, pred_inf, filtCov, fStar, fInf, predMean, filtMean, innovations, kind_no}
use Rattle.definition.specs.Outcome.{CovParts, MeanParts, CovOutcome, MeanOutcome, SmoothedCov, SmoothedMean, kinds_need, cov_need, mean_need, smoothed_cov_need, smoothed_mean_need, cov_of, decisions_of, outcome, smooth_outcome}
use Rattle.definition.specs.Run.{join}
use Rattle.definition.specs.Computed.{num, bits, hold, opened}

-- so many quarters
abbrev quarters : ℕ → Float
quarters k = num k ⊘ num 4

-- ---- a bench run: one state, Z = R = 1, Q = 2, a1 = 0; the rest as the figure says

record Bench : Type 0 where
  m : ℕ
  p : ℕ
  h : List Float
  t : Float
  flag : ℕ
  p_star : Float
  y : List Float

abbrev model_of : Bench → Model
model_of k =
    record {
      p = k.p;
      m = k.m;
      r = 1;
      n = length k.y / k.p;
      z_once = replicate k.p 1ᶠ;
      z_list = [];
      repeats = false;
      h = k.h;
      t_once = k.t ∷ [];
      t_list = [];
      rr = 1ᶠ ∷ [];
      q = num 2 ∷ [];
      flags = k.flag ∷ [];
      p_star = k.p_star ∷ [];
    }

abbrev offsets_of : Bench → Offsets
offsets_of k = record { c = 0ᶠ ∷ []; d = replicate k.p 0ᶠ; a1 = 0ᶠ ∷ [] }

-- outputs as long as needed, full of NaNs
abbrev lent_cov : Model → CovParts
lent_cov x = record { kinds = replicate (kinds_need x) 9; part = λ q. replicate (cov_need x q) nan }

abbrev lent_mean : Model → MeanParts
lent_mean x = λ q. replicate (mean_need x q) nan

abbrev filter : Bench → CovOutcome × MeanOutcome
filter k = let x = model_of k in outcome x (offsets_of k) k.y (lent_cov x) (lent_mean x)

abbrev smooth : Bench → SmoothedCov × SmoothedMean
smooth k =
    let x = model_of k in
    smooth_outcome x (offsets_of k) k.y (lent_cov x) (lent_mean x) (replicate (smoothed_mean_need x) nan) (replicate (smoothed_cov_need x) nan)

-- as 01 has it unless said: m = p = 1, T = 1, H = 1, flagged, P* = 0
abbrev plain : List Float → Bench
plain y = record { m = 1; p = 1; h = 1ᶠ ∷ []; t = 1ᶠ; flag = 1; p_star = 0ᶠ; y = y }

-- F and G: H = 2, y = [NaN, 2], T = 2^-k
abbrev washing : ℕ → Bench
washing k = record { m = 1; p = 1; h = num 2 ∷ []; t = 1ᶠ ⊘ num (2 ^ k); flag = 1; p_star = 0ᶠ; y = nan ∷ num 2 ∷ [] }

-- H: p = 2, both designs 1, H zero, y = [2, 7]
abbrev twins : Bench
twins = record { m = 1; p = 2; h = replicate 4 0ᶠ; t = 1ᶠ; flag = 1; p_star = 0ᶠ; y = num 2 ∷ num 7 ∷ [] }

-- I: no flag, P* = 0, H = 0, y = [1]
abbrev known : Bench
known = record { m = 1; p = 1; h = 0ᶠ ∷ []; t = 1ᶠ; flag = 0; p_star = 0ᶠ; y = 1ᶠ ∷ [] }

-- L: m = 9
abbrev nine : Bench
nine = record { m = 9; p = 1; h = 1ᶠ ∷ []; t = 1ᶠ; flag = 1; p_star = 0ᶠ; y = 1ᶠ ∷ [] }

-- no flag, P* = 1, p = 2, designs 1, H = (2^-k, 0)
abbrev pinned : ℕ → Bench
pinned k = record { m = 1; p = 2; h = 1ᶠ ⊘ num (2 ^ k) ∷ 0ᶠ ∷ 0ᶠ ∷ 0ᶠ ∷ []; t = 1ᶠ; flag = 0; p_star = 1ᶠ; y = 1ᶠ ∷ 1ᶠ ∷ [] }

-- m = 8 and n periods, all else plain: its refusal, of as many readings as there are periods
abbrev wide : ℕ → Model
wide n =
    record {
      p = 1;
      m = 8;
      r = 1;
      n = n;
      z_once = replicate 8 1ᶠ;
      z_list = [];
      repeats = false;
      h = 1ᶠ ∷ [];
      t_once = replicate 64 1ᶠ;
      t_list = [];
      rr = replicate 8 1ᶠ;
      q = num 2 ∷ [];
      flags = replicate 8 1;
      p_star = replicate 64 0ᶠ;
    }

abbrev refusal_for : ℕ → ℕ
refusal_for n = refusal (wide n) (record { c = replicate 8 0ᶠ; d = 0ᶠ ∷ []; a1 = replicate 8 0ᶠ }) n false true

-- ---- what a figure speaks of, for one state

-- the record at place k: kind, v, F*, F∞
abbrev record_at : CovOutcome × MeanOutcome → ℕ → List ℕ
record_at o k =
    get_or o.0.parts.kinds k 9 ∷ bits (at (o.1.parts innovations) k ∷ at (o.0.parts.part fStar) k ∷ at (o.0.parts.part fInf) k ∷ [])

-- mean and covariance, filtered and smoothed, of period t; the mean, covariance and diffuse covariance predicted for it
abbrev filtered_at : CovOutcome × MeanOutcome → ℕ → List ℕ
filtered_at o t = bits (at (o.1.parts filtMean) t ∷ at (o.0.parts.part filtCov) t ∷ [])

abbrev predicted_at : CovOutcome × MeanOutcome → ℕ → List ℕ
predicted_at o t = bits (at (o.1.parts predMean) t ∷ at (o.0.parts.part predCov) t ∷ at (o.0.parts.part pred_inf) t ∷ [])

abbrev smoothed_at : SmoothedCov × SmoothedMean → ℕ → List ℕ
smoothed_at o t = bits (at o.1.smoothed t ∷ at o.0.smoothed t ∷ [])

-- ---- what 01 says

abbrev skipped_record : ℕ → List ℕ
skipped_record cause = cause ∷ bits (0ᶠ ∷ 0ᶠ ∷ 0ᶠ ∷ [])

abbrev usual_record : Float → Float → List ℕ
usual_record v f = 1 ∷ bits (v ∷ f ∷ 0ᶠ ∷ [])

abbrev diffuse_record : Float → Float → Float → List ℕ
diffuse_record v f f∞ = 2 ∷ bits (v ∷ f ∷ f∞ ∷ [])

-- "pinned": the dust test's verdict on the second element, and what becomes of it, whatever the two finite readings are
abbrev dust_no : Dust → ℕ
dust_no clear = 0
dust_no below = 1
dust_no (suspect reference) = 2

abbrev second_of : Model → List ℕ
second_of x =
    let f : Fixed = record { diffuse = false; z = x.z_once; pre = x.p_star; unres = 0ᶠ ∷ [] } in
    let s : Inner = record { star = x.p_star; pinf = 0ᶠ ∷ []; root = 0ᶠ ∷ []; taken = [] } in
    let e = candidate 2 1 x.h f 1 (element_of 2 1 x.h f 0 s false).1 in
    let f* = f_star_by 1 e.z e.h (mat_vec 1 e.star e.z) in
    dust_no (dust 1 e.z e.h e.pre e.sd e.fresh f*) ∷ map kind_no (join (decisions_of (cov_of x (finite ∷ finite ∷ [])).0))

-- ---- the table

abbrev figures : List (List ℕ × List ℕ)
figures =
    let a = filter (plain (num 2 ∷ [])) in
    let b = filter (plain (num 2 ∷ num 6 ∷ [])) in
    let c = smooth (plain (num 2 ∷ num 6 ∷ [])) in
    let d = filter (plain (nan ∷ [])) in
    let e = filter (plain (nan ∷ num 2 ∷ [])) in
    let f = filter (washing 9) in
    let g = filter (washing 8) in
    let h = filter twins in
    -- A: record diffuse (2, 1, 1); filtered 2, 1; next predicted 2, 3, diffuse 0; d_diffuse 1
    (record_at a 0, diffuse_record (num 2) (num 1) (num 1))
    ∷ (filtered_at a 0, bits (num 2 ∷ num 1 ∷ []))
    ∷ (predicted_at a 1, bits (num 2 ∷ num 3 ∷ num 0 ∷ []))
    ∷ (a.0.counts.d_diffuse ∷ [], 1 ∷ [])
    -- B: second record usual (4, 4); filtered 5, 0.75; next 5, 2.75
    ∷ (record_at b 1, usual_record (num 4) (num 4))
    ∷ (filtered_at b 1, bits (num 5 ∷ quarters 3 ∷ []))
    ∷ (predicted_at b 2, bits (num 5 ∷ quarters 11 ∷ num 0 ∷ []))
    -- C: smoothing B: means 3, 5; covariances 0.75, 0.75
    ∷ (smoothed_at c 0, bits (num 3 ∷ quarters 3 ∷ []))
    ∷ (smoothed_at c 1, bits (num 5 ∷ quarters 3 ∷ []))
    -- D: log-likelihood 0, filtered 0, 0; next covariance 2, diffuse 1; heard 0
    ∷ (bits (d.1.loglik ∷ []), bits (num 0 ∷ []))
    ∷ (filtered_at d 0, bits (num 0 ∷ num 0 ∷ []))
    ∷ (predicted_at d 1, bits (num 0 ∷ num 2 ∷ num 1 ∷ []))
    ∷ (d.0.refused ∷ d.0.counts.heard ∷ [], 0 ∷ 0 ∷ [])
    -- E: d_diffuse 2; filtered at the end 2, 1
    ∷ (e.0.counts.d_diffuse ∷ [], 2 ∷ [])
    ∷ (filtered_at e 1, bits (num 2 ∷ num 1 ∷ []))
    -- F: d_diffuse 1, second filtered 1, 1. G: d_diffuse 2
    ∷ (f.0.counts.d_diffuse ∷ [], 1 ∷ [])
    ∷ (filtered_at f 1, bits (num 1 ∷ num 1 ∷ []))
    ∷ (g.0.counts.d_diffuse ∷ [], 2 ∷ [])
    -- H: second skipped (too small against its scale: 3), filtered 2, 0, heard 2, news 1
    ∷ (record_at h 1, skipped_record 3)
    ∷ (filtered_at h 0, bits (num 2 ∷ num 0 ∷ []))
    ∷ (h.0.counts.heard ∷ h.0.counts.news ∷ [], 2 ∷ 1 ∷ [])
    -- I: refusal 12. J: y = [infinity]: 9. L: 1
    ∷ ((filter known).0.refused ∷ [], 12 ∷ [])
    ∷ ((filter (plain (inf false ∷ []))).0.refused ∷ [], 9 ∷ [])
    ∷ ((filter nine).0.refused ∷ [], 1 ∷ [])
    -- K: logarithm of 1 is +0.0
    ∷ (bits (ln_of 1ᶠ ∷ []), bits (0ᶠ ∷ []))
    -- not starred: second element clear at h = 2^-10, suspect and accepted at 2^-40, below and skipped for it (4) at 2^-50
    ∷ (second_of (model_of (pinned 10)), 0 ∷ 1 ∷ 1 ∷ [])
    ∷ (second_of (model_of (pinned 40)), 2 ∷ 1 ∷ 1 ∷ [])
    ∷ (second_of (model_of (pinned 50)), 1 ∷ 1 ∷ 4 ∷ [])
    -- m = 8 and n = 4096 pass; n = 4097 gives 1
    ∷ (refusal_for 4096 ∷ refusal_for 4097 ∷ [], 0 ∷ 1 ∷ [])
    ∷ []

pub table : T (hold figures)
unfolding opened
table = tt
