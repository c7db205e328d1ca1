-- The outcome of the call, what it promises, and how it is told.
use Rattle.c_filter.proofs.goxundar_filter_5.Goals as goal

pub returns : goal.returns
returns c = let o = c.filter_univariate-outcome in record { outcome = o.result; promise = o.ensures; told = c.tell.ensures }
