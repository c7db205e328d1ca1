-- The period is its elements, its smoothed mean and the step.
use Rattle.dense.specs.Views.{mat}
use Rattle.record.specs.Decisions.{flat_of}
use Rattle.mean_back.specs.View.{rs_of}
use Rattle.mean_back.proofs.Laws as laws
use Rattle.mean_back.proofs.period_back.Goals as goal

pub returns : goal.returns
returns c =
    let a = c.args in
    laws.whole a.p a.m a.d_diffuse a.t (mat a.m a.tr.now) a.design.now a.pred.now.mean.now a.pred.now.cov.now a.pred.now.inf.now a.v.now (flat_of a.left.now) (rs_of a.m a.s.now) _ _ _
    c.elements_back.ensures c.smooth_at.ensures c.step_back.ensures
