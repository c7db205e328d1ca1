-- The flat call's promise, how many records there are to tell, and what `fill` leaves are the call's promise.
use Rattle.records.proofs.Told.{listed_so}
use Rattle.records.proofs.filter_records.Goals as goal

pub returns : goal.returns
returns c = listed_so _ _ _ _ _ _ _ _ _ _ _ _ _ _ _ _ _ _ _ _ c.flat-outcome.ensures c.to_tell.ensures c.fill.ensures
