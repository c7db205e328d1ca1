-- The product, and a look through it.
use Rattle.dense.specs.Told.{told}
use Rattle.products.proofs.t_mul_into.Goals as goal

pub returns : goal.returns
returns c = told c.mul_sized.ensures c.matrix_not_finite.ensures
