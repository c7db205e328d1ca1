-- Each of the three by T.
use Rattle.cov_back.proofs.Laws as laws
use Rattle.cov_back.proofs.step_all.Goals as goal

pub returns : goal.returns
returns c = laws.all_by_t _ _ _ _ _ c.step.ensures c.step-2.ensures c.step-3.ensures
