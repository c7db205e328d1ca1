-- Each period's blocks lie in their parts; what the period leaves carries the loop one period on.
use mathlib.Core.Path.{◌∙◌}
use Rattle.model.proofs.Steps as steps
use Rattle.laws.specs.Blocks as blocks
use Rattle.mean.proofs.Sizes as sizes
use Rattle.mean.proofs.Going as going
use Rattle.laws.specs.Backward.{block_long}
use Rattle.mean.proofs.mean_loop.Goals as goal

pub loop-t-init : goal.loop-t-init
loop-t-init c = (going.going_none _ _ _ _ _ _ _ _ _ _ _, steps.loaded c.args.x.now.m c.args.x.now.t.now c.args.x.now.ts.now _ c.requires.0.transition c.fill.ensures)

pub mean_period-requires : goal.mean_period-requires
mean_period-requires c =
    let g = c.loop-t.invariant.0 in
    let h = c.loop-t-test.true in
    let lp = block_long _ c.args.x.now.m _ (blocks.part_in c.args.x.now.m h c.requires.1.pm g.pm.0) in
    let lf = block_long _ c.args.x.now.m _ (blocks.part_in c.args.x.now.m h c.requires.1.fm g.fm.0) in
    let lv = block_long _ c.args.x.now.p _ (blocks.part_in c.args.x.now.p h c.requires.1.vs g.vs.0) in
    (lp, (lf, sizes.period_in c.args.x.now.z.now c.args.x.now.zs.now c.requires.0 h c.part-design.ensures lv))

pub loop-t-preserved : goal.loop-t-preserved
loop-t-preserved c =
    let g = c.loop-t.invariant.0 in
    let h = c.loop-t-test.true in
    let lp = block_long _ c.args.x.now.m _ (blocks.part_in c.args.x.now.m h c.requires.1.pm g.pm.0) in
    let lf = block_long _ c.args.x.now.m _ (blocks.part_in c.args.x.now.m h c.requires.1.fm g.fm.0) in
    let lv = block_long _ c.args.x.now.p _ (blocks.part_in c.args.x.now.p h c.requires.1.vs g.vs.0) in
    let w = c.mean_period in (
      going.going_next _ _ _ _ _ _ _ _ _ _ _ g h c.requires.1 (w.auto.pred ∙ lp) (w.auto.filt ∙ lf) (w.auto.v ∙ lv)
          (going.framed c.args.x.now.p c.args.x.now.m _ c.args.x.now.z.now c.args.x.now.zs.now c.args.x.now.t.now c.args.x.now.ts.now _ _ _ _ _ _ c.part-design.ensures c.transition.ensures w.ensures),
      steps.stepped c.args.x.now.m c.loop-t.t c.args.x.now.t.now c.args.x.now.ts.now _ c.transition.ensures,
    )

pub returns : goal.returns
returns c = going.going_all _ _ _ _ _ _ _ _ c.loop-t.invariant.0 c.loop-t-test.false c.requires.1
