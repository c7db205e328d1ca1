-- The row and the gain vector are the parts that the definition reads.
use Rattle.mean.proofs.Laws.{followed_at}
use Rattle.mean.proofs.follow_at.Goals as goal

pub returns : goal.returns
returns c = followed_at c.args.i c.args.k c.args.design.now c.args.gains.now c.requires.row c.requires.gain c.follow.ensures
