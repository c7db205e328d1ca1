-- A NaN by its bits.
use Rattle.saved.proofs.Refused.{nan_is}
use Rattle.saved.proofs.other_nan.Goals as goal

pub returns : goal.returns
returns c = nan_is c.args.k
