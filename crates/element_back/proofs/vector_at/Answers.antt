-- The part that is loaded is the block.
use Rattle.element_back.proofs.Laws as laws
use Rattle.element_back.proofs.vector_at.Goals as goal

pub returns : goal.returns
returns c = let a = c.args in laws.loaded_block a.k a.m a.list.now _ c.requires.1 c.load.ensures
