-- From sums of zeros on, each period's block lies in the part, and what the period leaves carries the loop one period down.
use mathlib.Core.Path.{◌∙◌}
use Prim.Native.Nat.{◌*◌}
use Rattle.laws.specs.Sizes.{square_le}
use Rattle.laws.specs.Blocks as blocks
use Rattle.laws.specs.Backward.{block_long, one_less, up}
use Rattle.model.proofs.Steps as steps
use Rattle.cov_back.proofs.Sizes as sizes
use Rattle.cov_back.proofs.Going as going
use Rattle.cov_back.proofs.cov_back.Goals as goal

pub loop-t-init : goal.loop-t-init
loop-t-init c = (going.going_none _ _ _ _ _ _ _ _ _ _, steps.loaded c.args.x.now.m c.args.x.now.t.now c.args.x.now.ts.now _ c.requires.0.transition c.fill.ensures)

pub slice_bounds-period-end : goal.slice_bounds-period-end
slice_bounds-period-end c = let m = c.args.x.now.m in blocks.part_in (m * m) (one_less c.loop-t-test.true c.loop-t.invariant.0.low) c.requires.1 c.loop-t.invariant.0.out.0

pub period-requires : goal.period-requires
period-requires c =
    let x = c.args.x.now in
    let g = c.loop-t.invariant.0 in
    let h = one_less c.loop-t-test.true g.low in
    let k = x.m * x.m in
    (sizes.period_in x.z.now x.zs.now c.requires.0 h c.part-design.ensures, sizes.blocks_in c.requires.0 h (block_long _ k _ (blocks.part_in k h c.requires.1 g.out.0)))

pub loop-t-preserved : goal.loop-t-preserved
loop-t-preserved c =
    let x = c.args.x.now in
    let g = c.loop-t.invariant.0 in
    let h = one_less c.loop-t-test.true g.low in
    let k = x.m * x.m in
    let w = c.period in (
      going.going_next _ _ _ _ _ _ _ _ _ _ g (up c.loop-t-test.true) c.requires.1 (w.auto.out ∙ block_long _ k _ (blocks.part_in k h c.requires.1 g.out.0))
          (going.framed x.p x.m _ _ x.z.now x.zs.now x.t.now x.ts.now _ _ _ _ c.part-design.ensures c.before-earlier.ensures c.transition.ensures w.ensures),
      steps.stepped x.m _ x.t.now x.ts.now _ c.transition.ensures,
    )

pub returns : goal.returns
returns c =
    let x = c.args.x.now in
    going.passed x.p x.m _ x.z.now x.zs.now x.t.now x.ts.now _ (square_le _ c.requires.0.design.m8) (going.going_all _ _ _ _ _ _ _ _ _ c.loop-t.invariant.0 c.loop-t-test.false c.requires.1)
