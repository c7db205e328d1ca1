-- The library's test says the same.
use mathlib.Core.Path.{◌∙◌}
use Rattle.float.proofs.Tests.{infinite_is}
use Rattle.float.proofs.is_infinite.Goals as goal

pub returns : goal.returns
returns c = c.is_infinite.ensures.value ∙ infinite_is c.args.x
