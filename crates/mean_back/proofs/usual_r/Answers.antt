-- The element over what each call left.
use Rattle.definition.specs.Smooth.{usual_r, l_usual}
use Rattle.mean_back.proofs.usual_r.Goals as goal

pub returns : goal.returns
unfolding usual_r l_usual
returns c = cc c.axpy.ensures.result
