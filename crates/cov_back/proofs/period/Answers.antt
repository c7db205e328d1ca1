-- The period is its elements, its smoothed covariance and the step.
use Rattle.record.specs.Decisions.{flat_of}
use Rattle.element_back.specs.View.{ns_of}
use Rattle.dense.specs.Views.{mat}
use Rattle.cov_back.proofs.Laws as laws
use Rattle.cov_back.proofs.period.Goals as goal

pub returns : goal.returns
returns c =
    let a = c.args in
    laws.whole a.p a.m a.t a.d_diffuse a.pred_cov.now a.pred_inf.now (mat a.m a.tr.now) a.design.now (flat_of a.left.now) (ns_of a.m a.s.now)
    c.elements.ensures c.smoothed_at.ensures c.step_all.ensures
