-- By the test.
use mathlib.Core.Path.{sym, ap}
use native.Mathlib.Omega.{arith}
use Rattle.decimal.specs.Printed.{point_width}
use Rattle.decimal.proofs.Printing.{point_some}
use Rattle.decimal.proofs.printed.point_width.Goals as goal

pub returns-then-decimals-eq0 : goal.returns-then-decimals-eq0
unfolding point_width
returns-then-decimals-eq0 c = (sym (ap point_width c.if-decimals-eq0.true), omega arith)

pub returns : goal.returns
returns c = (sym (point_some c.args.decimals c.if-decimals-eq0.false), omega (arith, c.requires))
