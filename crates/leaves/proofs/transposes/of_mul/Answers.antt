-- The same; the kernel reads the one transpose, and is handed a copy of the other.
use mathlib.Core.Path.{refl}
use Rattle.laws.specs.Transposes.{transpose-product}
use Rattle.leaves.proofs.transposes.of_mul.Goals as goal

pub returns : goal.returns
returns c = (
  rw (c.transpose.ensures, c.mul_into.ensures.result) refl,
  rw (c.t_mul_into.ensures.result, c.transpose-at.ensures, c.transpose.ensures, c.mul_into.ensures.result, transpose-product) refl,
)
