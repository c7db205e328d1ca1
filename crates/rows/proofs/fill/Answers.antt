-- One period's eight numbers more.
use Rattle.std.proofs.Common.{arith}
use Rattle.rows.proofs.Filling.{row}
use Rattle.rows.proofs.fill.Goals as goal

pub loop-t-preserved : goal.loop-t-preserved
loop-t-preserved c =
    let w = c.loop-t in
    (omega arith, w.invariant.1, row _ _ _ _ _ _ _ _ w.rows w.t c.offset_open-offset.ensures c.rate_open.ensures c.open-left_open.ensures c.rate_open-rate_left_open.ensures c.fill_half.ensures c.fill_half-in-loop-t.ensures w.invariant.2)
