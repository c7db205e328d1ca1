-- The entry.
use Rattle.definition.specs.Smooth.{l_one_at}
use Rattle.element_back.proofs.l_one_at.Goals as goal

pub returns : goal.returns
unfolding l_one_at
returns c = rw (c.nth.ensures, c.nth-2.ensures)
