-- L1 by K1.
use Rattle.definition.specs.Smooth.{l_diffuse}
use Rattle.element_back.proofs.l_diffuse.Goals as goal

pub returns : goal.returns
unfolding l_diffuse
returns c = cc
