-- By the test.
use native.Mathlib.Omega.{arith}
use Rattle.decimal.proofs.Printing.{sign_some, sign_minus, sign_plus}
use Rattle.decimal.proofs.printed.sign.Goals as goal

pub bounds-out-from : goal.bounds-out-from
bounds-out-from c = omega (arith, c.requires, sign_some c.args.minus c.if-minus.true)

pub returns-then-minus : goal.returns-then-minus
returns-then-minus c = let a = c.args in sign_minus a.out.now a.from a.minus c.if-minus.true (bounds-out-from c)

pub returns-else-minus : goal.returns-else-minus
returns-else-minus c = let a = c.args in sign_plus a.out.now a.from a.minus c.if-minus.false
