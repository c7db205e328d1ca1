-- Request l of document 02: what of the way back, or of the start that it reads, is not its own mirror image to the bit, so that one half of it does not
-- give the other. One theorem, by computation; what is mirrored is in Mirrored. Nearly all turns on one rounding: a third of 3, times 7, is 7; a third
-- of 7, times 3, is less.
use Rattle.std.specs.Prelude.{Bool, true, false, not, ◌&&◌, List, [], ◌∷◌, T, Float}
use Rattle.std.specs.Float.Ieee.{neg}
use Rattle.definition.specs.Num.{◌⊘◌, 0ᶠ, 1ᶠ, zeros}
use Rattle.definition.specs.Dense.{transposed, quad}
use Rattle.definition.specs.Cov.{usual, diffuse}
use Rattle.definition.specs.Smooth.{back_n, between, no_ns}
use Rattle.definition.specs.Refusals.{start_shape}
use Rattle.definition.specs.Computed.{num, bits, same, opened}

abbrev third : Float
third = 1ᶠ ⊘ num 3

abbrev z : List Float
z = num 3 ∷ num 7 ∷ []

-- N0 after the run's last element, a usual one with F = 3
abbrev n0 : List Float
n0 = (back_n 2 false z (no_ns 2) (usual (num 3) (zeros 2))).n0

-- N1 where N0 is 1 in its last place: 1 and -1 above 0 and 0, and so it is in exact arithmetic
abbrev n1 : List Float
n1 =
    (back_n 2 true (1ᶠ ∷ 0ᶠ ∷ []) (record { n0 = 0ᶠ ∷ 0ᶠ ∷ 0ᶠ ∷ 1ᶠ ∷ []; n1 = zeros 4; n2 = zeros 4 })
    (diffuse 1ᶠ 1ᶠ (0ᶠ ∷ 1ᶠ ∷ []) (1ᶠ ∷ 0ᶠ ∷ []))).n1

-- N2 after the run's last element, a diffuse one with F* = 1/3 and F∞ = 1
abbrev n2 : List Float
n2 = (back_n 2 true z (no_ns 2) (diffuse third 1ᶠ (zeros 2) (zeros 2))).n2

-- T' N T and P N P, of an N and a P that are mirrored
abbrev n : List Float
n = third ∷ 0ᶠ ∷ 0ᶠ ∷ 0ᶠ ∷ []

abbrev stepped : List Float
stepped = let t = num 3 ∷ num 7 ∷ 0ᶠ ∷ 0ᶠ ∷ [] in quad 2 t n t

abbrev taken_off : List Float
taken_off = let p = num 3 ∷ num 7 ∷ num 7 ∷ 0ᶠ ∷ [] in between 2 p n p

-- P* at place 0 with zeros of both signs across from each other: mirrored as numbers, so refusal 7 lets it through
abbrev start : List Float
start = 1ᶠ ∷ neg 0ᶠ ∷ 0ᶠ ∷ 1ᶠ ∷ []

-- each beside its transpose; and the transpose of (A N) B beside (B' N') A', of 1 by 1
abbrev rows : List (List Float × List Float)
rows =
    (n0, transposed 2 n0)
    ∷ (n1, transposed 2 n1)
    ∷ (n2, transposed 2 n2)
    ∷ (stepped, transposed 2 stepped)
    ∷ (taken_off, transposed 2 taken_off)
    ∷ (start, transposed 2 start)
    ∷ (transposed 1 (between 1 (num 3 ∷ []) (third ∷ []) (num 7 ∷ [])), between 1 (num 7 ∷ []) (third ∷ []) (num 3 ∷ []))
    ∷ []

abbrev all_differ : List (List Float × List Float) → Bool
all_differ [] = true
all_differ (r ∷ rs) = not (same (bits r.0) (bits r.1)) && all_differ rs

pub unmirrored : T (all_differ rows && not (start_shape 2 start (0 ∷ 0 ∷ []) (zeros 2)))
unfolding opened
unmirrored = tt
