-- Two stretches cleared.
use native.Mathlib.Omega.{arith}
use Rattle.blank.specs.Stretches.{small}
use Rattle.blank.proofs.smoothed.Goals as goal

pub overflow_mul-m : goal.overflow_mul-m
overflow_mul-m c = omega (arith, (small c.requires.sizes).mm)
