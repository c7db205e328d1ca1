-- Five stretches cleared.
use native.Mathlib.Omega.{arith}
use Rattle.blank.specs.Stretches.{small}
use Rattle.blank.proofs.records.Goals as goal

pub overflow_mul-npm : goal.overflow_mul-npm
overflow_mul-npm c = omega (arith, (small c.requires.sizes).pm)
