-- One element more, by whether it is taken; then all of them.
use Rattle.element.specs.Views.{noise_in}
use Rattle.period.proofs.Along as along
use Rattle.period.proofs.by_root.Goals as goal
use Rattle.period.proofs.by_root.Goals.{then-taken, else-taken}

pub loop-i-init : goal.loop-i-init
loop-i-init c = ((c.build.ensures (noise_in c.args.x.now)).sound, along.rooted_start _ _ _ _ _ c.build.ensures)

pub loop-i-preserved : goal.loop-i-preserved
loop-i-preserved c =
    elim c.if-taken.branch [
      | then-taken w ↦ rw w.root-is (along.rooted_follows c.args.x.now c.args.ys.now _ _ _ c.loop-i.i _ _ _ _ _ c.loop-i.invariant.1 c.loop-i-test.true c.requires.0.here c.requires.0.readings c.ask-again.ensures c.taken_at-taken.ensures c.loop-i.invariant.0 w.if-taken.true w.follow.ensures)
      | else-taken w ↦ rw w.root-is (along.rooted_kept c.args.x.now c.args.ys.now _ _ _ c.loop-i.i _ _ _ _ _ c.loop-i.invariant.1 c.loop-i-test.true c.requires.0.here c.requires.0.readings c.ask-again.ensures c.taken_at-taken.ensures c.loop-i.invariant.0 w.if-taken.false)
    ]

pub returns : goal.returns
returns c = along.rooted_end c.args.x.now _ _ _ _ _ _ _ _ c.loop-i.invariant.1 c.loop-i-test.false c.requires.0.here
