-- Each period's blocks lie in their parts; what the period leaves carries the loop one period on.
use mathlib.Core.Path.{refl}
use Prim.Native.Nat.{◌*◌}
use native.Mathlib.Omega.{arith}
use Rattle.laws.specs.Sizes.{eight, square_le, fits}
use Rattle.laws.specs.Blocks as blocks
use Rattle.model.proofs.Steps as steps
use Rattle.cov.proofs.Counting as counting
use Rattle.cov.proofs.Going as going
use Rattle.dense.proofs.Laws.{area}
use Rattle.cov.proofs.Sizes as sizes
use Rattle.cov.proofs.cov_loop.Goals as goal

pub overflow_mul-mm : goal.overflow_mul-mm
overflow_mul-mm c = fits (square_le c.args.x.now.m c.requires.0.design.m8)

pub overflow_mul-pm : goal.overflow_mul-pm
overflow_mul-pm c = fits (area c.requires.0.design.p8 c.requires.0.design.m8)

pub fill-requires : goal.fill-requires
fill-requires c = (omega arith, steps.loads c.requires.0.transition)

pub loop-t-init : goal.loop-t-init
loop-t-init c = (going.going_none _ _ _ _ _ _ _ _ _ _ _ _ _ _ _ _ _ _ _ _ refl, steps.loaded c.args.x.now.m c.args.x.now.t.now c.args.x.now.ts.now _ c.requires.0.transition c.fill.ensures)

pub part-design-requires : goal.part-design-requires
part-design-requires c = (c.requires.0.design, blocks.early c.requires.0.n4096 c.loop-t-test.true)

pub transition-requires : goal.transition-requires
transition-requires c = (c.requires.0.transition, blocks.early c.requires.0.n4096 c.loop-t-test.true, c.loop-t.invariant.1)

pub overflow_mul-cov : goal.overflow_mul-cov
overflow_mul-cov c = blocks.from_fits (blocks.early c.requires.0.n4096 c.loop-t-test.true) (square_le c.args.x.now.m c.requires.0.design.m8)

pub overflow_add-cov_end : goal.overflow_add-cov_end
overflow_add-cov_end c = blocks.to_fits (blocks.early c.requires.0.n4096 c.loop-t-test.true) (square_le c.args.x.now.m c.requires.0.design.m8)

pub overflow_mul-element : goal.overflow_mul-element
overflow_mul-element c = blocks.from_fits (blocks.early c.requires.0.n4096 c.loop-t-test.true) (eight c.requires.0.design.p8)

pub overflow_add-element_end : goal.overflow_add-element_end
overflow_add-element_end c = blocks.to_fits (blocks.early c.requires.0.n4096 c.loop-t-test.true) (eight c.requires.0.design.p8)

pub overflow_mul-gain : goal.overflow_mul-gain
overflow_mul-gain c = blocks.from_fits (blocks.early c.requires.0.n4096 c.loop-t-test.true) (area c.requires.0.design.p8 c.requires.0.design.m8)

pub overflow_add-gain_end : goal.overflow_add-gain_end
overflow_add-gain_end c = blocks.to_fits (blocks.early c.requires.0.n4096 c.loop-t-test.true) (area c.requires.0.design.p8 c.requires.0.design.m8)

pub offset_bounds-pred_cov-cov : goal.offset_bounds-pred_cov-cov
offset_bounds-pred_cov-cov c = blocks.bytes_fit (blocks.early c.requires.0.n4096 c.loop-t-test.true) (square_le c.args.x.now.m c.requires.0.design.m8)

pub slice_bounds-cov_period-end : goal.slice_bounds-cov_period-end
slice_bounds-cov_period-end c = let a = c.args.x.now in blocks.part_in (a.m * a.m) c.loop-t-test.true c.requires.1.pred c.loop-t.invariant.0.pred.0

pub offset_bounds-pred_inf-cov : goal.offset_bounds-pred_inf-cov
offset_bounds-pred_inf-cov c = blocks.bytes_fit (blocks.early c.requires.0.n4096 c.loop-t-test.true) (square_le c.args.x.now.m c.requires.0.design.m8)

pub slice_bounds-cov_period-end-in-loop-t : goal.slice_bounds-cov_period-end-in-loop-t
slice_bounds-cov_period-end-in-loop-t c = let a = c.args.x.now in blocks.part_in (a.m * a.m) c.loop-t-test.true c.requires.1.pred_inf c.loop-t.invariant.0.pred_inf.0

pub offset_bounds-filt_cov-cov : goal.offset_bounds-filt_cov-cov
offset_bounds-filt_cov-cov c = blocks.bytes_fit (blocks.early c.requires.0.n4096 c.loop-t-test.true) (square_le c.args.x.now.m c.requires.0.design.m8)

pub slice_bounds-cov_period-end-in-loop-t-2 : goal.slice_bounds-cov_period-end-in-loop-t-2
slice_bounds-cov_period-end-in-loop-t-2 c = let a = c.args.x.now in blocks.part_in (a.m * a.m) c.loop-t-test.true c.requires.1.filt c.loop-t.invariant.0.filt.0

pub slice_bounds-cov_period-end-in-loop-t-3 : goal.slice_bounds-cov_period-end-in-loop-t-3
slice_bounds-cov_period-end-in-loop-t-3 c = let a = c.args.x.now in blocks.part_in a.p c.loop-t-test.true c.requires.1.kinds c.loop-t.invariant.0.kinds.0

pub offset_bounds-f_star-element : goal.offset_bounds-f_star-element
offset_bounds-f_star-element c = blocks.bytes_fit (blocks.early c.requires.0.n4096 c.loop-t-test.true) (eight c.requires.0.design.p8)

pub slice_bounds-cov_period-end-in-loop-t-4 : goal.slice_bounds-cov_period-end-in-loop-t-4
slice_bounds-cov_period-end-in-loop-t-4 c = let a = c.args.x.now in blocks.part_in a.p c.loop-t-test.true c.requires.1.stars c.loop-t.invariant.0.stars.0

pub offset_bounds-f_inf-element : goal.offset_bounds-f_inf-element
offset_bounds-f_inf-element c = blocks.bytes_fit (blocks.early c.requires.0.n4096 c.loop-t-test.true) (eight c.requires.0.design.p8)

pub slice_bounds-cov_period-end-in-loop-t-5 : goal.slice_bounds-cov_period-end-in-loop-t-5
slice_bounds-cov_period-end-in-loop-t-5 c = let a = c.args.x.now in blocks.part_in a.p c.loop-t-test.true c.requires.1.infs c.loop-t.invariant.0.infs.0

pub offset_bounds-m_star-gain : goal.offset_bounds-m_star-gain
offset_bounds-m_star-gain c = blocks.bytes_fit (blocks.early c.requires.0.n4096 c.loop-t-test.true) (area c.requires.0.design.p8 c.requires.0.design.m8)

pub slice_bounds-cov_period-end-in-loop-t-6 : goal.slice_bounds-cov_period-end-in-loop-t-6
slice_bounds-cov_period-end-in-loop-t-6 c = let a = c.args.x.now in blocks.part_in (a.p * a.m) c.loop-t-test.true c.requires.1.m_stars c.loop-t.invariant.0.m_stars.0

pub offset_bounds-m_inf-gain : goal.offset_bounds-m_inf-gain
offset_bounds-m_inf-gain c = blocks.bytes_fit (blocks.early c.requires.0.n4096 c.loop-t-test.true) (area c.requires.0.design.p8 c.requires.0.design.m8)

pub slice_bounds-cov_period-end-in-loop-t-7 : goal.slice_bounds-cov_period-end-in-loop-t-7
slice_bounds-cov_period-end-in-loop-t-7 c = let a = c.args.x.now in blocks.part_in (a.p * a.m) c.loop-t-test.true c.requires.1.m_infs c.loop-t.invariant.0.m_infs.0

pub offset_bounds-y-element : goal.offset_bounds-y-element
offset_bounds-y-element c = blocks.bytes_fit (blocks.early c.requires.0.n4096 c.loop-t-test.true) (eight c.requires.0.design.p8)

pub slice_bounds-cov_period-end-in-loop-t-8 : goal.slice_bounds-cov_period-end-in-loop-t-8
slice_bounds-cov_period-end-in-loop-t-8 c = sizes.read_in c.args.x.now.p c.requires.0.readings c.loop-t-test.true

pub cov_period-requires : goal.cov_period-requires
cov_period-requires c =
    let h = c.loop-t-test.true in
    (sizes.period_in c.args.x.now.z.now c.args.x.now.zs.now _ c.requires.0 h c.part-design.ensures, going.blocks_in _ _ _ _ _ _ _ _ _ _ _ c.loop-t.invariant.0 h c.requires.1)

pub overflow_step-t : goal.overflow_step-t
overflow_step-t c = blocks.next_fits c.requires.0.n4096 c.loop-t-test.true

pub loop-t-preserved : goal.loop-t-preserved
loop-t-preserved c = let w = c.cov_period in
    let h = c.loop-t-test.true in
    let long = sizes.kept (going.blocks_in _ _ _ _ _ _ _ _ _ _ _ c.loop-t.invariant.0 h c.requires.1) w.auto.pred w.auto.pred_inf w.auto.filt w.auto.kinds w.auto.f_star w.auto.f_inf w.auto.m_star w.auto.m_inf in
    (going.going_next _ _ _ _ _ _ _ _ _ _ _ w.new.pred w.new.pred_inf w.new.filt w.new.kinds w.new.f_star w.new.f_inf w.new.m_star w.new.m_inf c.loop-t.invariant.0 h c.requires.1 long c.part-design.ensures c.transition.ensures w.ensures (counting.one_if _ w.new.s.live), steps.stepped c.args.x.now.m c.loop-t.t c.args.x.now.t.now c.args.x.now.ts.now _ c.transition.ensures)

pub returns : goal.returns
returns c = going.going_all _ _ _ _ _ _ _ _ _ _ _ _ c.loop-t.invariant.0 c.loop-t-test.false c.requires.1
