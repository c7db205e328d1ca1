-- What the inner functions of the square root and the logarithm promise. Definitions only.
use Rattle.std.specs.Prelude.{◌≡◌, ℕ, ◌+◌, ◌*◌, ◌^◌, ◌≤◌, ◌<◌, Float}
use Rattle.std.specs.Float.{binary64}
use Rattle.definition.specs.Root.{smallests_in}

-- x, which is finite and above zero, taken apart: d has 53 digits, and x is d / 2 ^ 52 times 2 ^ (j - 1074)
pub record Parted (x : Float) (d j : ℕ) : Type 0 where
  pub least : 2 ^ 52 ≤ d
  pub most : d < 2 ^ 53
  pub small : j < 2098
  pub value : smallests_in binary64 x * 2 ^ 52 ≡ d * 2 ^ j

-- u is m * 2 ^ 52 less (g - 1) * (g - 2), from 1 up to 6 * g: so m * 2 ^ 52 is at most (g + 1) * (g + 2)
pub record Beside (m g u : ℕ) : Type 0 where
  pub some : 0 < u
  pub is : u + g * g + 2 ≡ m * 2 ^ 52 + 3 * g
  pub most : u ≤ 6 * g
