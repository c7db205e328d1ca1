-- L by K.
use Rattle.definition.specs.Smooth.{l_usual}
use Rattle.element_back.proofs.l_usual.Goals as goal

pub returns : goal.returns
unfolding l_usual
returns c = cc
