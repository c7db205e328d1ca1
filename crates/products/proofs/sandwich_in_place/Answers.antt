-- The sandwich is copied back.
use Rattle.definition.specs.Dense.{sandwich}
use Rattle.products.proofs.sandwich_in_place.Goals as goal

pub returns : goal.returns
unfolding sandwich
returns c = cc
