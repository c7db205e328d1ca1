-- A product of products.
use Rattle.definition.specs.Dense.{quad}
use Rattle.products.proofs.quad_into.Goals as goal

pub returns : goal.returns
unfolding quad
returns c = cc
