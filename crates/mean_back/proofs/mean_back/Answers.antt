-- From r0 and r1 of zeros on, each period's block lies in the part, and what the period leaves carries the loop one period down.
use borrow.Author.Rules.{rules}
use Rattle.dense.proofs.Laws.{vec-zeros}
use Rattle.laws.specs.Blocks as blocks
use Rattle.laws.specs.Backward.{one_less}
use Rattle.model.proofs.Steps as steps
use Rattle.mean_back.proofs.Sizes as sizes
use Rattle.mean_back.proofs.Going as going
use Rattle.mean_back.proofs.mean_back.Goals as goal

pub loop-t-init : goal.loop-t-init
loop-t-init c = (going.going_none _ _ _ _ _ _ _ _ _ _ _ _, steps.loaded c.args.x.now.m c.args.x.now.t.now c.args.x.now.ts.now _ c.requires.transition c.fill.ensures)

pub period_back-requires : goal.period_back-requires
period_back-requires c =
    let h = one_less c.loop-t-test.true c.loop-t.invariant.0.low in
    let b = blocks.part_in _ h c.requires.room c.loop-t.invariant.0.out.0 in
    (search rules, (sizes.block_of h c.requires, sizes.period_of_lem h c.args.x.now.z.now c.args.x.now.zs.now c.requires c.part-design.ensures))

pub loop-t-preserved : goal.loop-t-preserved
loop-t-preserved c =
    let x = c.args.x.now in
    let w = c.period_back in (
      going.going_next _ _ _ _ _ _ _ _ _ _ _ _ c.loop-t.invariant.0 c.loop-t-test.true c.requires.room (going.framed_m x.p x.m _ _ _ _)
          (going.framed x.p x.m _ _ x.z.now x.zs.now x.t.now x.ts.now _ _ _ _ c.part-design.ensures c.before-earlier.ensures c.transition.ensures w.ensures),
      steps.stepped x.m _ x.t.now x.ts.now _ c.transition.ensures,
    )

pub returns : goal.returns
returns c =
    let x = c.args.x.now in
    let z = vec-zeros x.m 8 c.requires.design.m8 in
    going.passed x.n x.p x.m x.z.now x.zs.now x.t.now x.ts.now _ _ (going.going_all _ _ _ _ _ _ _ _ _ _ _ c.loop-t.invariant.0 c.loop-t-test.false c.requires.room) (going.started x.m _ _ z z)
