-- The product and its transpose; the transposes and their product, by the law.
use mathlib.Core.Path.{refl}
use Rattle.laws.specs.Transposes.{transpose-product}
use Rattle.leaves.proofs.transposes.of_product.Goals as goal

pub returns : goal.returns
returns c = (
  rw (c.transpose.ensures, c.product_into.ensures.result) refl,
  rw (c.product_into-2.ensures.result, c.transpose-bt.ensures, c.transpose-at.ensures, c.transpose.ensures, c.product_into.ensures.result, transpose-product) refl,
)
