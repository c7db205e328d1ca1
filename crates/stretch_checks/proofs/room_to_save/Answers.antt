-- The length of a saved run.
use mathlib.Core.Path.{refl}
use native.Mathlib.Omega.{arith}
use Rattle.laws.specs.Sizes.{square_le}
use Rattle.saved.proofs.Refused.{need_is}
use Rattle.stretch_checks.proofs.room_to_save.Goals as goal

pub overflow_mul-result-2 : goal.overflow_mul-result-2
overflow_mul-result-2 c = omega (arith, square_le c.args.m c.requires)

pub overflow_mul-result-3 : goal.overflow_mul-result-3
overflow_mul-result-3 c = omega (arith, square_le c.args.m c.requires)

pub overflow_add-result-2 : goal.overflow_add-result-2
overflow_add-result-2 c = omega (arith, square_le c.args.m c.requires, c.requires)

pub returns : goal.returns
returns c = rw (need_is c.args.m) refl
