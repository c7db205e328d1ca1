-- Past the end the list has no entry, and NaN stands for it.
use Rattle.std.proofs.Common.{arith}
use Rattle.std.proofs.lemmas.Grind.{common_steps}
use Rattle.std.proofs.lemmas.Option.{gets}
use lib.Ieee.{of_bits}
use Rattle.record.proofs.float_at.Goals as goal

pub returns : goal.returns
unfolding of_bits
returns c = grind (arith, common_steps, gets)
