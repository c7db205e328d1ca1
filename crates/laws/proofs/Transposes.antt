-- The transpose of a product of three factors.
use Rattle.std.specs.Prelude.{◌≡◌, ℕ, List, Float}
use Rattle.std.proofs.Common.{ap, ◌∙◌}
use Rattle.definition.specs.Dense.{product, transpose}
use Rattle.laws.specs.Transposes.{transpose-product}

-- of three factors: what groups from the left is turned into what groups from the right. ((A N) B)' is B' (N' A'), and need not be (B' N') A'
pub transpose_three : (r k l c : ℕ) (a n b : List Float) → transpose r c (product r l c (product r k l a n) b) ≡ product c l r (transpose l c b) (product l k r (transpose k l n) (transpose r k a))
transpose_three r k l c a n b = transpose-product r l c (product r k l a n) b ∙ ap (product c l r (transpose l c b)) (transpose-product r k l a n)
