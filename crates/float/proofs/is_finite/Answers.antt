-- The library's test says the same.
use mathlib.Core.Path.{◌∙◌}
use Rattle.float.proofs.Tests.{finite_is}
use Rattle.float.proofs.is_finite.Goals as goal

pub returns : goal.returns
returns c = c.is_finite.ensures.value ∙ finite_is c.args.x
