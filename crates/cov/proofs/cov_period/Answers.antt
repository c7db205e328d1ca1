-- The period is its three steps.
use Rattle.cov.proofs.Steps as steps
use Rattle.cov.proofs.cov_period.Goals as goal

pub enter-requires : goal.enter-requires
enter-requires c = (c.requires.0.m8, (c.requires.1.pred, c.requires.1.pred_inf))

pub absorb-requires : goal.absorb-requires
absorb-requires c = (c.requires.0, c.requires.1.records)

pub leave-requires : goal.leave-requires
leave-requires c = (c.requires.0.m8, c.requires.1.filt)

pub returns : goal.returns
returns c = steps.whole _ _ _ _ _ _ _ _ _ _ _ c.enter.ensures c.absorb.ensures.absorbed c.absorb.ensures.kept c.leave.ensures
