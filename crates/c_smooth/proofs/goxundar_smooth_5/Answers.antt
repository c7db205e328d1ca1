-- The outcome of the call, what it promises, and how it is told.
use Rattle.c_smooth.proofs.goxundar_smooth_5.Goals as goal

pub returns : goal.returns
returns c = let o = c.smooth_univariate-outcome in record { outcome = o.result; promise = o.ensures; told = c.tell.ensures }
