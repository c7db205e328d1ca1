-- The first t periods' numbers are told.
use Rattle.std.proofs.Common.{◌*◌, ◌≤◌}
use Rattle.definition.specs.Num.{0ᶠ}
use Rattle.rows.specs.Filled.{Filled}
use Rattle.rows.proofs.Filling.{flat}
use Rattle.rows.proofs.fill.Given as goal

abbrev pub invariant-loop-t : goal.invariant-loop-t
invariant-loop-t l = (l.t ≤ l.n) × (l.n ≤ 4096) × Filled 0ᶠ (flat l.n l.pred_inf l.kinds l.filt_mean l.filt_cov l.sm_mean l.sm_cov) (8 * l.t) l.initial.rows l.rows
