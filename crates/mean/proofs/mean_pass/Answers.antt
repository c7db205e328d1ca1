-- c and the first mean loaded, the loop, place n, and the state kept.
use native.Mathlib.Omega.{arith}
use Rattle.laws.specs.Backward.{block_long}
use Rattle.dense.proofs.Laws as dense
use Rattle.mean.proofs.Going as going
use Rattle.mean.proofs.mean_pass.Goals as goal

pub returns : goal.returns
returns c =
    let g = c.requires.1 in
    let a = c.args in
    let x = a.x.now in
    going.passed x.p x.m x.n x.z.now x.zs.now x.t.now x.ts.now a.o.now.c.now a.o.now.d.now _ _ _ _ a.answer c.save.new.out c.mean_loop.ensures
    (dense.loaded_vec x.m _ g.shift c.load.ensures) c.mean_from.ensures
    (block_long _ x.m _ (omega (arith, c.requires.2.pm, c.mean_loop.auto.pred_mean))) c.save.ensures c.keep_mean.ensures
