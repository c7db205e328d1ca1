-- The part read.
use Rattle.carried.proofs.Laws as laws
use Rattle.carried.proofs.part.Goals as goal

pub returns : goal.returns
returns c = let a = c.args in laws.read a.state.now _ a.from a.k c.requires.2 c.fill.ensures
