-- One square more, then all nine.
use Rattle.std.proofs.Common.{◌≡◌, arith}
use Rattle.definition.specs.Num.{◌⊗◌}
use Rattle.rows.specs.Rows.{square_at, open_of}
use Rattle.laws.specs.Lists.{sum_none, sum_next}
use Rattle.rows.proofs.open.Goals as goal

pub loop-i-init : goal.loop-i-init
loop-i-init c = (omega arith, sum_none _)

pub loop-i-preserved : goal.loop-i-preserved
loop-i-preserved c =
    let a = c.args in
    let v : c.at-x.result ⊗ c.at-x.result ≡ square_at a.pred_inf.now a.k c.loop-i.i = cc in
    (omega arith, sum_next _ _ _ _ c.loop-i.invariant.1 v)

pub returns : goal.returns
unfolding open_of
returns c =
    let w = c.loop-i in
    let e : w.i ≡ 9 = omega arith in
    cc
