-- From +0.0 on, it is the sum.
use mathlib.Core.Path.{◌∙◌}
use Rattle.dense.proofs.Laws as laws
use Rattle.dense.proofs.sum.Goals as goal

pub returns : goal.returns
returns g c = λ f h. c.sum_more.ensures f h ∙ laws.from_zero _ f
