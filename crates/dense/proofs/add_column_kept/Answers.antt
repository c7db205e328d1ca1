-- By whether x is 0 at j.
use native.Mathlib.Omega.{arith}
use mathlib.Core.Path.{sym, ap, ◌∙◌}
use Rattle.definition.specs.Num.{is_zero}
use Rattle.definition.specs.Dense.{zero_at}
use Rattle.dense.proofs.Columns as cols
use Rattle.dense.proofs.add_column_kept.Goals as goal

pub returns-then-is_zero : goal.returns-then-is_zero
unfolding zero_at
returns-then-is_zero c = cols.more_none _ _ _ _ _ (omega (arith, c.told-out)) (sym (ap is_zero c.nth.ensures) ∙ sym c.is_zero.ensures ∙ c.if-is_zero.true)

pub returns : goal.returns
unfolding zero_at
returns c = cols.more_kept _ _ _ _ _ _ (sym (ap is_zero c.nth.ensures) ∙ sym c.is_zero.ensures ∙ c.if-is_zero.false) c.add_column.ensures
