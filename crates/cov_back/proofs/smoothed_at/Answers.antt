-- The period's blocks of the predicted covariances.
use Rattle.cov_back.proofs.Laws as laws
use Rattle.cov_back.proofs.smoothed_at.Goals as goal

pub returns : goal.returns
returns c =
    let a = c.args in
    let h = c.requires in
    laws.of_blocks a.m a.t a.live a.pred_cov.now a.pred_inf.now _ h.pred h.inf c.smoothed.ensures
