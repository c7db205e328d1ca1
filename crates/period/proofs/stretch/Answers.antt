-- One element more; the stretch stops there, goes on, or is at its end.
use Rattle.period.proofs.Along as along
use Rattle.period.proofs.stretch.Goals as goal

pub loop-i-init : goal.loop-i-init
loop-i-init c = (along.under_start _ _ _ _ c.args.ys.now _ _ _ c.requires.0.here, along.kept_none)

pub returns-in-Some-clause-done : goal.returns-in-Some-clause-done
returns-in-Some-clause-done c =
    along.under_stop _ _ _ _ c.args.ys.now _ _ c.loop-i.i _ _ _ c.loop-i.invariant.0 c.loop-i-test.true c.requires.0.readings c.is_nan-gap.ensures c.element-r.result c.in-Some.at
    (along.still_done c.args.x.now _ _ _ _ _ _ _ _ c.loop-i.invariant.1 c.element-r.ensures.done) (along.stops_at _ _ c.element-r.result _ c.is_none.ensures c.stop.ensures c.in-Some.is)

pub loop-i-preserved : goal.loop-i-preserved
loop-i-preserved c = (
  along.under_next _ _ _ _ c.args.ys.now _ _ c.loop-i.i _ _ _ c.loop-i.invariant.0 c.loop-i-test.true c.requires.0.readings c.is_nan-gap.ensures c.element-r.result
      (along.still_done c.args.x.now _ _ _ _ _ _ _ _ c.loop-i.invariant.1 c.element-r.ensures.done) (along.goes_on _ _ c.element-r.result _ c.is_none.ensures c.stop.ensures c.in_default.not-Some),
  along.kept_on c.loop-i.invariant.1 c.element-r.ensures.kept,
)

pub returns-clause-done : goal.returns-clause-done
returns-clause-done c = along.under_end _ _ _ _ c.args.ys.now _ _ c.loop-i.i _ _ c.loop-i.invariant.0 c.loop-i-test.false
