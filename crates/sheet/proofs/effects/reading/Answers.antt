-- The constant's bits are NaN's.
use Rattle.std.proofs.Common.{rules}
use lib.Ieee.{of_bits}
use Rattle.sheet.proofs.effects.reading.Goals as goal

pub returns-in_default : goal.returns-in_default
unfolding of_bits
returns-in_default c = search rules
