-- The loop from the last period to the first keeps Going.
use Rattle.definition.specs.Inputs.{frame_from}
use Rattle.record.specs.Decisions.{flat_of}
use Rattle.element_back.specs.View.{ns_of}
use Rattle.model.specs.Lists.{Stands}
use Rattle.cov_back.proofs.Going as going
use Rattle.cov_back.proofs.cov_back.Given as goal

abbrev pub invariant-loop-t : goal.invariant-loop-t
invariant-loop-t l =
    going.Going (frame_from l.p l.m l.x.z.now l.x.zs.now l.x.t.now l.x.ts.now) (ns_of l.m l.initial.s) l.x.n l.p l.m l.d_diffuse l.pred_cov l.pred_inf (flat_of l.left) l.t (ns_of l.m l.s) l.initial.sm_cov l.sm_cov × Stands l.m l.x.t.now l.x.ts.now l.step
