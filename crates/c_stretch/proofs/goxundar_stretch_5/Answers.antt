-- The outcome of the call, what it promises, and how it is told.
use Rattle.c_stretch.proofs.goxundar_stretch_5.Goals as goal

pub returns : goal.returns
returns c = let o = c.stretch-outcome in record { outcome = o.result; promise = o.ensures; told = c.tell.ensures }
