-- Two rows set, each to what the other was.
use Rattle.star.proofs.InPlace as place
use Rattle.star.proofs.exchange.Goals as goal

pub returns : goal.returns
returns c = place.exchange_rows _ _ _ _ _ _ _ _ c.requires.row c.requires.col c.row_to_vec-x.ensures c.row_to_vec-y.ensures c.set_row.ensures c.set_row-2.ensures
