-- A product of three.
use mathlib.Core.Path.{refl}
use Rattle.definition.specs.Smooth.{f_two}
use Rattle.element_back.proofs.f_two.Goals as goal

pub returns : goal.returns
unfolding f_two
returns c = rw c.f_one-f1.ensures refl
