-- One column more is the sum of one column more.
use native.Mathlib.Omega.{arith}
use mathlib.Core.Path.{◌≡◌, refl}
use native.Mathlib.Numerals.{add-one}
use Rattle.definition.specs.Dense.{abs_quad_form, abs_to}
use Rattle.dense.proofs.abs_quad_form.Goals as goal

pub loop-j-init : goal.loop-j-init
unfolding abs_to
loop-j-init c = (omega arith, refl)

pub loop-j-preserved : goal.loop-j-preserved
unfolding abs_to
loop-j-preserved c = (omega arith, rw add-one (cc))

pub returns : goal.returns
unfolding abs_quad_form
returns c = let e : c.loop-j.j ≡ c.args.m = omega arith in cc
