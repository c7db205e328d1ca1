-- By the halves of g.
use native.Mathlib.Omega.{arith}
use Rattle.float.proofs.Roots.{small, square_is}
use Rattle.float.proofs.root.square.Goals as goal

pub overflow_mul-mid : goal.overflow_mul-mid
overflow_mul-mid c = let h = small c.args.g c.requires in omega arith

pub overflow_mul-mid-2 : goal.overflow_mul-mid-2
overflow_mul-mid-2 c = let h = small c.args.g c.requires in omega arith

pub overflow_mul-low-2 : goal.overflow_mul-low-2
overflow_mul-low-2 c = let h = small c.args.g c.requires in omega arith

pub overflow_add-low : goal.overflow_add-low
overflow_add-low c = let h = small c.args.g c.requires in omega arith

pub overflow_mul-result : goal.overflow_mul-result
overflow_mul-result c = let h = small c.args.g c.requires in omega arith

pub overflow_mul-result-2 : goal.overflow_mul-result-2
overflow_mul-result-2 c = let h = small c.args.g c.requires in omega arith

pub overflow_add-result : goal.overflow_add-result
overflow_add-result c = let h = small c.args.g c.requires in omega arith

pub overflow_add-result-2 : goal.overflow_add-result-2
overflow_add-result-2 c = let h = small c.args.g c.requires in omega arith

pub returns : goal.returns
returns c = let e = square_is c.args.g in (omega arith, omega arith)
