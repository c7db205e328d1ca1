-- The sum of the first i squares.
use Rattle.std.proofs.Common.{◌≡◌, ◌≤◌}
use Rattle.definition.specs.Num.{sum_to}
use Rattle.rows.specs.Rows.{square_at}
use Rattle.rows.proofs.open.Given as goal

abbrev pub invariant-loop-i : goal.invariant-loop-i
invariant-loop-i l = (l.i ≤ 9) × (l.sum ≡ sum_to l.i (square_at l.pred_inf l.k))
