-- By how far it goes down.
use mathlib.Core.Path.{sym}
use native.Mathlib.Omega.{arith}
use Rattle.decimal.proofs.Scaling.{low_zero}
use Rattle.decimal.proofs.scaled.lowered.Goals as goal

pub returns-then-k-gt48 : goal.returns-then-k-gt48
returns-then-k-gt48 c = let a = c.args in (sym (low_zero a.high a.k c.requires.0 c.if-k-gt48.true), omega arith)
