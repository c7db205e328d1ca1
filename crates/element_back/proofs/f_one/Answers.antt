-- One quotient.
use mathlib.Core.Path.{refl}
use Rattle.definition.specs.Smooth.{f_one}
use Rattle.element_back.proofs.f_one.Goals as goal

pub returns : goal.returns
unfolding f_one
returns c = refl
