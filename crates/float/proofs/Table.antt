-- The logarithm's table, and its rule: the entry at i is the double nearest to 1 / (2 * i + 1). antt computes both sides, for all twelve at once. Assumes nothing.
use mathlib.Core.Path.{◌≡◌, refl, ap, ◌∙◌}
use mathlib.Core.Bool.{Bool, true, ◌&&◌}
use mathlib.Core.List.{List, [], ◌∷◌, map}
use Prim.Native.Nat.{ℕ, suc, ◌+◌, ◌-◌, ◌*◌, ◌^◌, ◌<◌}
use lib.Dec.{T, ltb}
use lib.ListN.{get_or}
use lib.Ieee.{Float, nan, binary64, of_bits, round}
use Rattle.definition.specs.Num.{tab_from, tabulate}
use Rattle.definition.specs.Root.{smallests_in}
use Rattle.definition.specs.Log.{coefficient}
use Rattle.laws.specs.Lists.{vector_at}

unfoldable pub patterns : List ℕ
patterns = 0x3FF0000000000000 ∷ 0x3FD5555555555555 ∷ 0x3FC999999999999A ∷ 0x3FC2492492492492 ∷ 0x3FBC71C71C71C71C ∷ 0x3FB745D1745D1746 ∷ 0x3FB3B13B13B13B14 ∷ 0x3FB1111111111111 ∷ 0x3FAE1E1E1E1E1E1E ∷ 0x3FAAF286BCA1AF28 ∷ 0x3FA8618618618618 ∷ 0x3FA642C8590B2164 ∷ []

unfoldable pub odds : List Float
odds = map (of_bits binary64) patterns

rule : odds ≡ tabulate 12 coefficient
unfolding odds patterns tab_from coefficient round of_bits
rule = refl

pub entry : (k : ℕ) → k < 12 → get_or odds k nan ≡ coefficient k
entry k h = ap (λ (l : List Float). get_or l k nan) rule ∙ vector_at 12 k coefficient h

-- ---- the same rule with no word of rounding: 1 / (2 * i + 1) lies between the numbers half way from the entry to the value before it and to the value after it
between : ℕ → ℕ → Bool
between i b =
    ltb ((smallests_in binary64 (of_bits binary64 (b - 1)) + smallests_in binary64 (of_bits binary64 b)) * (2 * i + 1)) (2 * 2 ^ 1074)
    && ltb (2 * 2 ^ 1074) ((smallests_in binary64 (of_bits binary64 b) + smallests_in binary64 (of_bits binary64 (b + 1))) * (2 * i + 1))

every : ℕ → List ℕ → Bool
every i [] = true
every i (b ∷ bs) = between i b && every (suc i) bs

nearest_all : T (every 0 patterns)
unfolding every patterns between smallests_in of_bits
nearest_all = tt
