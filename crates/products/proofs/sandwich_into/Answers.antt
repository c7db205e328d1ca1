-- A product of products.
use Rattle.definition.specs.Dense.{sandwich}
use Rattle.products.proofs.sandwich_into.Goals as goal

pub returns : goal.returns
unfolding sandwich
returns c = cc
