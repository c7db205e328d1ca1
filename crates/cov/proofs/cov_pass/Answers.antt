-- The inputs loaded, the state it begins at, the loop, place n, and the state kept.
use Prim.Native.Nat.{◌*◌}
use native.Mathlib.Omega.{arith}
use Rattle.laws.specs.Sizes.{square_le, fits, at_most}
use Rattle.laws.specs.Accepted.{as_long}
use Rattle.laws.specs.Backward.{block_long}
use Rattle.laws.specs.Blocks as blocks
use Rattle.dense.proofs.Laws.{loaded_rect}
use Rattle.cov.proofs.Going as going
use Rattle.cov.proofs.Sizes as sizes
use Rattle.cov.proofs.cov_pass.Goals as goal

pub fill-requires : goal.fill-requires
fill-requires c = (omega arith, at_most c.requires.1.noise (square_le c.args.x.now.p c.requires.1.design.p8))

pub cov_loop-diffuse-requires : goal.cov_loop-diffuse-requires
cov_loop-diffuse-requires c = (sizes.periods c.requires.1, sizes.rooms c.requires.2)

pub overflow_mul-mm : goal.overflow_mul-mm
overflow_mul-mm c = fits (square_le c.args.x.now.m c.requires.1.design.m8)

pub overflow_mul-from : goal.overflow_mul-from
overflow_mul-from c = blocks.from_fits c.requires.1.n4096 (square_le c.args.x.now.m c.requires.1.design.m8)

pub overflow_add-to : goal.overflow_add-to
overflow_add-to c = blocks.to_fits c.requires.1.n4096 (square_le c.args.x.now.m c.requires.1.design.m8)

pub offset_bounds-pred_cov-from : goal.offset_bounds-pred_cov-from
offset_bounds-pred_cov-from c = blocks.bytes_fit c.requires.1.n4096 (square_le c.args.x.now.m c.requires.1.design.m8)

pub slice_bounds-save-end : goal.slice_bounds-save-end
slice_bounds-save-end c = as_long c.requires.2.pred c.cov_loop-diffuse.auto.pred_cov

pub save-requires : goal.save-requires
save-requires c = (omega arith, at_most (block_long _ (c.args.x.now.m * c.args.x.now.m) _ (as_long c.requires.2.pred c.cov_loop-diffuse.auto.pred_cov)) (square_le c.args.x.now.m c.requires.1.design.m8))

pub offset_bounds-pred_inf-from : goal.offset_bounds-pred_inf-from
offset_bounds-pred_inf-from c = blocks.bytes_fit c.requires.1.n4096 (square_le c.args.x.now.m c.requires.1.design.m8)

pub slice_bounds-save-end-2 : goal.slice_bounds-save-end-2
slice_bounds-save-end-2 c = as_long c.requires.2.pred_inf c.cov_loop-diffuse.auto.pred_inf

pub save-requires-2 : goal.save-requires-2
save-requires-2 c = (omega arith, at_most (block_long _ (c.args.x.now.m * c.args.x.now.m) _ (as_long c.requires.2.pred_inf c.cov_loop-diffuse.auto.pred_inf)) (square_le c.args.x.now.m c.requires.1.design.m8))

pub returns : goal.returns
returns c = let z = c.requires in let m = c.args.x.now.m in
    going.finished _ _ _ _ _ _ _ _ _ _ _ _ _ c.save.new.out c.save-2.new.out (loaded_rect _ _ _ _ z.1.noise c.fill.ensures) c.cov_from.ensures c.cov_loop-diffuse.ensures
    (block_long _ (m * m) _ (as_long z.2.pred c.cov_loop-diffuse.auto.pred_cov)) c.save.ensures (block_long _ (m * m) _ (as_long z.2.pred_inf c.cov_loop-diffuse.auto.pred_inf)) c.save-2.ensures c.keep_cov.ensures
