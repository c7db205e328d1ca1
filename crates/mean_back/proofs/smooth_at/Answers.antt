-- The moments are the period's blocks.
use Rattle.mean_back.proofs.Laws as laws
use Rattle.mean_back.proofs.smooth_at.Goals as goal

pub returns : goal.returns
returns c =
    laws.smooth_at c.args.m c.args.t _ _ c.args.pred.now.mean.now c.args.pred.now.cov.now c.args.pred.now.inf.now _ c.requires.1.means c.requires.1.covs c.requires.1.infs c.smooth.ensures
