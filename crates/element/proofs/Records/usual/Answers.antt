-- The record of a usual element.
use Rattle.element.proofs.Laws as laws
use Rattle.element.proofs.Records.usual.Goals as goal

pub returns : goal.returns
returns c = laws.recorded_usual _ _ c.requires.1 _ _ c.enter.ensures
