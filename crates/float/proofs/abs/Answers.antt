-- The magnitude, by the test of the sign.
use mathlib.Core.Path.{sym, subst}
use lib.Dec.{T}
use Rattle.float.proofs.Tests.{abs_above, abs_rest}
use Rattle.float.proofs.abs.Goals as goal

pub returns-then-x : goal.returns-then-x
returns-then-x c = abs_above c.args.x c.if-x.true

pub returns-else-x : goal.returns-else-x
returns-else-x c = abs_rest c.args.x (subst T (sym c.well_formed.0.1) tt) c.if-x.false
