-- The loop over the periods keeps Going.
use Rattle.dense.specs.Views.{mat}
use Rattle.track.specs.View.{cov_in}
use Rattle.model.specs.Lists.{Stands}
use Rattle.cov.proofs.Going as going
use Rattle.cov.proofs.cov_loop.Given as goal

abbrev pub invariant-loop-t : goal.invariant-loop-t
invariant-loop-t l =
    going.Going l.x.p l.x.m l.x.z.now l.x.zs.now (mat l.x.p l.hs) l.x.t.now l.x.ts.now (mat l.x.m l.rqr) (cov_in l.x.m l.initial.s) l.y l.x.n l.t (cov_in l.x.m l.s) l.d l.initial.pred_cov l.pred_cov l.initial.pred_inf l.pred_inf l.initial.filt_cov l.filt_cov l.initial.kinds l.kinds l.initial.f_star l.f_star l.initial.f_inf l.f_inf l.initial.m_star l.m_star l.initial.m_inf l.m_inf × Stands l.x.m l.x.t.now l.x.ts.now l.tr
