-- The loop over the periods keeps Going.
use Rattle.definition.specs.Inputs.{frame_from}
use Rattle.model.specs.Lists.{Stands}
use Rattle.record.specs.Decisions.{flat_of}
use Rattle.mean.specs.View.{mean_of, shift_of}
use Rattle.mean.proofs.Going as going
use Rattle.mean.proofs.mean_loop.Given as goal

abbrev pub invariant-loop-t : goal.invariant-loop-t
invariant-loop-t l =
    going.Going (frame_from l.p l.m l.x.z.now l.x.zs.now l.x.t.now l.x.ts.now) (shift_of l.m l.shift) (mean_of l.m l.initial.mean) l.p l.m l.x.n (flat_of l.left) l.y l.t (mean_of l.m l.mean) l.initial.pred_mean l.pred_mean l.initial.filt_mean l.filt_mean l.initial.v l.v × Stands l.m l.x.t.now l.x.ts.now l.step
