-- v and the moved mean, by the two kernels.
use Rattle.definition.specs.Mean.{innovation}
use Rattle.mean.proofs.follow.Goals as goal

pub returns : goal.returns
unfolding innovation
returns c = record { is = cc; moved = c.move_by.ensures }
