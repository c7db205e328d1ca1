-- The exponent is a whole number that a double holds, and the rest is the definition.
use lib.Dec.{lit≤}
use lib.Ieee.{of_bits}
use Rattle.definition.specs.Log.{log_of}
use Rattle.float.proofs.Units.{no_nan_bits}
use Rattle.float.proofs.Logs.{whole, exponent_is, exponent_in}
use Rattle.float.proofs.log.log_of.Goals as goal

pub overflow_sub-k : goal.overflow_sub-k
overflow_sub-k c = whole c.args.j c.requires

pub int_to_float-z : goal.int_to_float-z
int_to_float-z c = exponent_in c.args.j c.requires

pub float_from_bits-high : goal.float_from_bits-high
float_from_bits-high c = no_nan_bits _ (lit≤ tt)

pub float_from_bits-low : goal.float_from_bits-low
float_from_bits-low c = no_nan_bits _ (lit≤ tt)

pub returns : goal.returns
unfolding log_of of_bits
returns c = rw (exponent_is c.args.j c.requires, c.sum_odd-q.ensures)
