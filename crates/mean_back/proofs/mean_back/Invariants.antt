-- The loop over the periods keeps Going, from the last to the first.
use Rattle.definition.specs.Inputs.{frame_from}
use Rattle.record.specs.Decisions.{flat_of}
use Rattle.model.specs.Lists.{Stands}
use Rattle.mean_back.specs.View.{rs_of}
use Rattle.mean_back.proofs.Going as going
use Rattle.mean_back.proofs.mean_back.Given as goal

abbrev pub invariant-loop-t : goal.invariant-loop-t
invariant-loop-t l =
    going.Going l.x.n l.p l.m l.d_diffuse l.pred.mean.now l.pred.cov.now l.pred.inf.now l.v (flat_of l.left) (frame_from l.p l.m l.x.z.now l.x.zs.now l.x.t.now l.x.ts.now) (rs_of l.m l.initial.s) l.t (rs_of l.m l.s) l.initial.sm_mean l.sm_mean × Stands l.m l.x.t.now l.x.ts.now l.step
