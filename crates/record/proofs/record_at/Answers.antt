-- The flat record of the four reads, as a record.
use Rattle.std.proofs.Common.{arith}
use Rattle.std.proofs.lemmas.Grind.{common_steps}
use Rattle.std.proofs.lemmas.Option.{gets}
use Rattle.promise.specs.Records.{record_at}
use Rattle.record.proofs.record_at.Goals as goal

pub returns : goal.returns
unfolding record_at
returns c = grind (arith, common_steps, gets)
