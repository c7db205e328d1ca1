-- Sizes: at most 8, at most 8 by 8, and a length that equals a size.
use Rattle.std.specs.Prelude.{◌≡◌, ℕ, ◌*◌, ◌≤◌}
use Rattle.std.proofs.Common.{mul-le-mul, arith, Fits}
use Rattle.std.specs.Int.{w64}

pub eight : {k : ℕ} → k ≤ 8 → k ≤ 64
eight h = omega arith

pub square_le : (m : ℕ) → m ≤ 8 → m * m ≤ 64
square_le m h = mul-le-mul h h

pub fits : {k : ℕ} → k ≤ 64 → Fits w64 k
fits h = omega arith

-- ---- a length that equals a size

pub at_most : {a b k : ℕ} → a ≡ b → b ≤ k → a ≤ k
at_most e h = omega arith

pub square_most : {m a : ℕ} → a ≡ m * m → m ≤ 8 → a ≤ 64
square_most {m} e h = at_most e (square_le m h)
