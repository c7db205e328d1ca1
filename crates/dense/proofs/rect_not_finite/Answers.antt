-- The places in use are looked through.
use native.Mathlib.Omega.{arith}
use Rattle.dense.specs.Views.{rect}
use Rattle.dense.proofs.Laws.{area}
use Rattle.dense.proofs.rect_not_finite.Goals as goal

pub overflow_mul-r : goal.overflow_mul-r
overflow_mul-r c = omega (arith, area c.requires.0 c.requires.1)

pub returns : goal.returns
unfolding rect
returns c = c.not_finite.ensures
