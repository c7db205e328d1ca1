-- A loop over at most 4096 blocks of a part, of at most 64 places each: block t lies in the part, its ends fit a usize, and the count goes up.
use Rattle.std.specs.Prelude.{◌≡◌, ℕ, ◌+◌, ◌-◌, ◌*◌, ◌≤◌, ◌<◌}
use Rattle.std.proofs.Common.{mul-le-mul, arith, Fits}
use Rattle.std.specs.Int.{w64}
use Rattle.laws.specs.Passes.{block_in}

-- ---- block t, of k places

module _ {k t : ℕ} (few : t ≤ 4096) (small : k ≤ 64) where
  within : t * k + k ≤ 262208
  within = omega (arith, mul-le-mul {n₁ = t} {m₁ = k} {n₂ = 4096} {m₂ = 64} few small)

  pub from_fits : Fits w64 (t * k)
  from_fits = omega (arith, within)

  pub to_fits : Fits w64 (t * k + k)
  to_fits = omega (arith, within)

  pub bytes_fit : Fits w64 (t * k * 8)
  bytes_fit = omega (arith, within)

pub ordered : (a k : ℕ) → a ≤ a + k
ordered a k = omega arith

-- a part that is as long as it was has room for block t
pub part_in : {n t long long₀ : ℕ} (k : ℕ) → t < n → n * k ≤ long₀ → long ≡ long₀ → t * k + k ≤ long
part_in {n} {t} k h room e = omega (arith, block_in t n k h)

-- ---- the count

pub early : {n t : ℕ} → n ≤ 4096 → t < n → t ≤ 4096
early few h = omega arith

pub next_fits : {n t : ℕ} → n ≤ 4096 → t < n → Fits w64 (t + 1)
next_fits few h = omega arith

pub falls : (n t : ℕ) → t < n → n - (t + 1) < n - t
falls n t h = omega arith
