-- Runs whose numbers run off, by computation: what the two reports say, and what they leave out.
use Rattle.std.specs.Prelude.{ℕ, false, List, [], ◌∷◌, T, length, replicate, Float}
use Rattle.std.specs.Float.{nan, binary64}
use Rattle.std.specs.Float.Ieee.{neg, of_bits}
use Rattle.definition.specs.Num.{◌⊕◌, 0ᶠ, 1ᶠ, zeros}
use Rattle.definition.specs.Inputs.{Model, Offsets}
use Rattle.definition.specs.Outcome.{kinds_need, cov_need, mean_need, outcome}
use Rattle.definition.specs.Computed.{hold, opened}

-- 2^1023, 2^1000 and 2^-100
abbrev huge : Float
huge = of_bits binary64 0x7fe0000000000000

abbrev large : Float
large = of_bits binary64 0x7e70000000000000

abbrev tiny : Float
tiny = of_bits binary64 0x39b0000000000000

-- one element, and one disturbance that moves every state; no intercept; all states flagged or none
record Run : Type 0 where
  m : ℕ
  z : List Float
  h : Float
  t : List Float
  q : Float
  a1 : List Float
  flag : ℕ
  p_star : List Float
  y : List Float

-- the refusal, the covariance report, the mean report
abbrev told : Run → List ℕ
told k =
    let x : Model =
    record {
      p = 1;
      m = k.m;
      r = 1;
      n = length k.y;
      z_once = k.z;
      z_list = [];
      repeats = false;
      h = k.h ∷ [];
      t_once = k.t;
      t_list = [];
      rr = replicate k.m 1ᶠ;
      q = k.q ∷ [];
      flags = replicate k.m k.flag;
      p_star = k.p_star;
    } in
    let o : Offsets = record { c = zeros k.m; d = 0ᶠ ∷ []; a1 = k.a1 } in
    let r = outcome x o k.y (record { kinds = replicate (kinds_need x) 9; part = λ q. replicate (cov_need x q) nan }) (λ q. replicate (mean_need x q) nan) in
    r.0.refused ∷ r.0.cov_off ∷ r.1.mean_off ∷ []

-- one state, P* = 2^1023, Z = H = 1
abbrev one : Float → Float → Float → List Float → Run
one t q a y = record { m = 1; z = 1ᶠ ∷ []; h = 1ᶠ; t = t ∷ []; q = q; a1 = a ∷ []; flag = 0; p_star = huge ∷ []; y = y }

-- the gain of the second state is not finite, and with it the filtered covariance and mean
abbrev steep : Run
steep = record { m = 2; z = 1ᶠ ∷ 0ᶠ ∷ []; h = 0ᶠ; t = zeros 4; q = 0ᶠ; a1 = zeros 2; flag = 0; p_star = tiny ∷ large ∷ large ∷ large ∷ []; y = 1ᶠ ∷ [] }

-- every entry of P* is 2^1023, and nothing is read: the sum of two mirrored entries is not finite, and with it the filtered covariance
abbrev brim : Run
brim = record { m = 2; z = 1ᶠ ∷ 0ᶠ ∷ []; h = 1ᶠ; t = zeros 4; q = 0ᶠ; a1 = zeros 2; flag = 0; p_star = replicate 4 huge; y = nan ∷ [] }

-- T P∞ T' is not finite, and P* is 0
abbrev spread : Run
spread = record { m = 1; z = 1ᶠ ∷ []; h = 1ᶠ; t = large ∷ []; q = 0ᶠ; a1 = zeros 1; flag = 1; p_star = zeros 1; y = nan ∷ nan ∷ [] }

-- T P∞ T' has a NaN: its sum of squares is not above 1e-10, so the diffuse state ends, and zeros are stored
abbrev washed : Run
washed =
    record {
      m = 2;
      z = 1ᶠ ∷ 0ᶠ ∷ [];
      h = 1ᶠ;
      t = large ∷ neg large ∷ large ∷ large ∷ [];
      q = 0ᶠ;
      a1 = zeros 2;
      flag = 1;
      p_star = zeros 4;
      y = nan ∷ nan ∷ [];
    }

abbrev rows : List (List ℕ × List ℕ)
rows =
    -- T P T' is finite, R Q R' is finite, their sum is not: period 1, told as 2
    (told (one 1ᶠ huge 0ᶠ (nan ∷ nan ∷ [])), 0 ∷ 2 ∷ 0 ∷ [])
    -- at place n alone: the covariance, and the mean
    ∷ (told (one 1ᶠ huge 0ᶠ (nan ∷ [])), 0 ∷ 0 ∷ 0 ∷ [])
    ∷ (told (one (1ᶠ ⊕ 1ᶠ) 0ᶠ huge (nan ∷ [])), 0 ∷ 0 ∷ 0 ∷ [])
    -- v overflows, and with it period 0's filtered mean; the covariances stay
    ∷ (told (one 1ᶠ 0ᶠ huge (neg huge ∷ nan ∷ [])), 0 ∷ 0 ∷ 1 ∷ [])
    ∷ (told steep, 0 ∷ 1 ∷ 1 ∷ [])
    ∷ (told brim, 0 ∷ 1 ∷ 0 ∷ [])
    ∷ (told spread, 0 ∷ 2 ∷ 0 ∷ [])
    -- not told: a P∞ with a NaN, which the run takes for a resolved one; and a P* that ran off so early that no reading was news, which is refused
    ∷ (told washed, 0 ∷ 0 ∷ 0 ∷ [])
    ∷ (told (one 1ᶠ huge 0ᶠ (nan ∷ 1ᶠ ∷ [])), 12 ∷ 0 ∷ 0 ∷ [])
    -- nothing runs off
    ∷ (told (one 1ᶠ 0ᶠ huge (huge ∷ nan ∷ [])), 0 ∷ 0 ∷ 0 ∷ [])
    ∷ []

pub ran_off : T (hold rows)
unfolding opened
ran_off = tt
