-- The part written.
use Rattle.carried.proofs.Laws as laws
use Rattle.carried.proofs.put.Goals as goal

pub returns : goal.returns
returns c = let a = c.args in laws.written a.from a.k a.state.now a.a.now _ c.requires.2 c.save.ensures
