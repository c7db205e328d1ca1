-- One column more is the sum of one column more.
use native.Mathlib.Omega.{arith}
use mathlib.Core.Path.{◌≡◌, refl}
use native.Mathlib.Numerals.{add-one}
use Rattle.definition.specs.Dense.{frob_sq, sq_to}
use Rattle.dense.proofs.frob_sq.Goals as goal

pub loop-j-init : goal.loop-j-init
unfolding sq_to
loop-j-init c = (omega arith, refl)

pub loop-j-preserved : goal.loop-j-preserved
unfolding sq_to
loop-j-preserved c = (omega arith, rw add-one (cc))

pub returns : goal.returns
unfolding frob_sq
returns c = let e : c.loop-j.j ≡ c.args.m = omega arith in cc
