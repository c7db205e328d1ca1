-- A saved run, by computation: its length, 120 + 8m + 32m²; the 160 bytes of one state, as another program writes them, and what is loaded from them;
-- and refusal 15 at its bounds. The bytes pin the order of the sections and of the bytes: laws hold in any order that is read as it is written.
use Rattle.std.specs.Prelude.{◌≡◌, refl, ℕ, ◌+◌, ◌*◌, Bool, true, false, List, [], ◌∷◌, ◌++◌, map, take, set, replicate}
use Rattle.std.proofs.Common.{arith}
use Rattle.std.specs.Float.{nan, inf, binary64}
use Rattle.std.specs.Float.Ieee.{of_bits, to_bits, is_nan}
use Rattle.definition.specs.Num.{0ᶠ, 1ᶠ, half}
use Rattle.definition.specs.Run.{join, any_of, chunks}
use Rattle.definition.specs.Carried.{Carried}
use Rattle.definition.specs.Saved.{bytes_of, from_bytes, section, sections, saved_of, widths, length_of, saved_need, wrong_count, numbers_in, other_nan, bad_sizes, bad_tallies, bad_floats, bad_saved, loaded_past, loaded_mean, mean_off_in}

pub saved_long : (m : ℕ) → saved_need m ≡ 120 + 8 * m + 32 * (m * m)
unfolding length_of widths
saved_long m = omega arith

-- two elements, one state, 300 periods done, 259 readings heard; the covariance ran off in period 276, the mean in period 257
abbrev held : Carried
held =
    record {
      past =
          record {
            done = 300;
            cov = record { star = half ∷ []; pinf = 0ᶠ ∷ []; root = of_bits binary64 0x8000000000000000 ∷ []; unres = inf false ∷ []; live = false };
            counts = record { d_diffuse = 1; heard = 259; news = 2 };
            cov_off = 277;
          };
      mean = record { a = 1ᶠ ∷ []; loglik = nan };
      mean_off = 258;
    }

abbrev written : List ℕ
written =
    -- sizes
    0 ∷ 0 ∷ 0 ∷ 4 ∷
    0 ∷ 0 ∷ 0 ∷ 0 ∷ 0 ∷ 0 ∷ 0 ∷ 2 ∷
    0 ∷ 0 ∷ 0 ∷ 0 ∷ 0 ∷ 0 ∷ 0 ∷ 1 ∷
    0 ∷ 0 ∷ 0 ∷ 0 ∷ 0 ∷ 0 ∷ 0 ∷ 1 ∷
    0 ∷ 0 ∷ 0 ∷ 0 ∷ 0 ∷ 0 ∷ 1 ∷ 44 ∷
    -- mean
    0 ∷ 0 ∷ 0 ∷ 1 ∷
    63 ∷ 240 ∷ 0 ∷ 0 ∷ 0 ∷ 0 ∷ 0 ∷ 0 ∷
    -- covariance
    0 ∷ 0 ∷ 0 ∷ 1 ∷
    63 ∷ 224 ∷ 0 ∷ 0 ∷ 0 ∷ 0 ∷ 0 ∷ 0 ∷
    -- diffuse covariance
    0 ∷ 0 ∷ 0 ∷ 1 ∷
    0 ∷ 0 ∷ 0 ∷ 0 ∷ 0 ∷ 0 ∷ 0 ∷ 0 ∷
    -- diffuse root
    0 ∷ 0 ∷ 0 ∷ 1 ∷
    128 ∷ 0 ∷ 0 ∷ 0 ∷ 0 ∷ 0 ∷ 0 ∷ 0 ∷
    -- unresolved matrix
    0 ∷ 0 ∷ 0 ∷ 1 ∷
    127 ∷ 240 ∷ 0 ∷ 0 ∷ 0 ∷ 0 ∷ 0 ∷ 0 ∷
    -- likelihood
    0 ∷ 0 ∷ 0 ∷ 1 ∷
    127 ∷ 248 ∷ 0 ∷ 0 ∷ 0 ∷ 0 ∷ 0 ∷ 0 ∷
    -- tallies
    0 ∷ 0 ∷ 0 ∷ 6 ∷
    0 ∷ 0 ∷ 0 ∷ 0 ∷ 0 ∷ 0 ∷ 0 ∷ 1 ∷
    0 ∷ 0 ∷ 0 ∷ 0 ∷ 0 ∷ 0 ∷ 1 ∷ 3 ∷
    0 ∷ 0 ∷ 0 ∷ 0 ∷ 0 ∷ 0 ∷ 0 ∷ 2 ∷
    0 ∷ 0 ∷ 0 ∷ 0 ∷ 0 ∷ 0 ∷ 0 ∷ 0 ∷
    0 ∷ 0 ∷ 0 ∷ 0 ∷ 0 ∷ 0 ∷ 1 ∷ 21 ∷
    0 ∷ 0 ∷ 0 ∷ 0 ∷ 0 ∷ 0 ∷ 1 ∷ 2 ∷ []

pub saved_bytes : saved_of 2 1 1 held ≡ written
unfolding saved_of sections section bytes_of join to_bits of_bits
saved_bytes = refl

pub loads_back : (loaded_past (numbers_in (widths 1) written) ≡ held.past) × (loaded_mean (numbers_in (widths 1) written) ≡ held.mean) × (mean_off_in (numbers_in (widths 1) written) ≡ held.mean_off)
unfolding loaded_past loaded_mean numbers_in widths from_bytes chunks of_bits
loads_back = (refl, refl, refl)

-- ---- 15 at its bounds: n periods more, and bytes k and k + 1 changed

abbrev but : ℕ → ℕ → ℕ → List ℕ
but k a b = set (set written k a) (k + 1) b

abbrev bad : ℕ × List ℕ → Bool
bad q = bad_saved 2 1 1 q.0 q.1

abbrev within : List (ℕ × List ℕ)
within =
    (0, written)
    -- 300 + 3796 periods
    ∷ (3796, written)
    -- 300 diffuse periods, 600 readings heard, 259 with news, state 1, ran off in period 299, the run's last
    ∷ (0, but 118 1 44)
    ∷ (0, but 126 2 88)
    ∷ (0, but 134 1 3)
    ∷ (0, but 142 0 1)
    ∷ (0, but 150 1 44)
    ∷ (0, but 158 1 44)
    ∷ []

abbrev past : List (ℕ × List ℕ)
past =
    -- a byte more, a byte less, another count
    (0, written ++ (0 ∷ []))
    ∷ (0, take 159 written)
    ∷ (0, but 38 0 2)
    -- another p, m, r
    ∷ (0, but 10 0 1)
    ∷ (0, but 18 0 2)
    ∷ (0, but 26 0 2)
    -- one more of each of the above
    ∷ (3797, written)
    ∷ (0, but 118 1 45)
    ∷ (0, but 126 2 89)
    ∷ (0, but 134 1 4)
    ∷ (0, but 142 0 2)
    ∷ (0, but 150 1 45)
    ∷ (0, but 158 1 45)
    -- a NaN with other bits
    ∷ (0, but 106 0 1)
    ∷ (0, but 100 255 248)
    ∷ []

pub bounds : (map bad within ≡ replicate 8 false) × (map bad past ≡ replicate 15 true)
unfolding bad_saved bad_sizes bad_tallies bad_floats wrong_count numbers_in widths length_of from_bytes chunks any_of other_nan is_nan of_bits
bounds = (refl, refl)
