-- The period's test, and the rate's entry.
use lib.Ieee.{ne}
use Rattle.rows.specs.Rows.{rate_open_of}
use Rattle.rows.proofs.rate_open.Goals as goal

pub returns : goal.returns
unfolding rate_open_of ne
returns c = cc
