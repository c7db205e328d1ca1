-- The second time changes nothing.
use Rattle.laws.specs.Transposes.{symmetrise_twice}
use Rattle.leaves.proofs.transposes.symmetrize_twice.Goals as goal

pub returns : goal.returns
returns c = rw (← symmetrise_twice) (cc)
