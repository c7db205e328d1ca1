-- By whether z is 0 at j.
use mathlib.Core.Path.{sym, ap, ◌∙◌}
use Rattle.definition.specs.Dense.{abs_column}
use Rattle.definition.specs.Num.{is_zero}
use Rattle.dense.proofs.abs_column_kept.Goals as goal

pub returns-then-is_zero : goal.returns-then-is_zero
unfolding abs_column
returns-then-is_zero c = rw (sym (ap is_zero c.nth.ensures) ∙ sym c.is_zero.ensures ∙ c.if-is_zero.true)

pub returns : goal.returns
unfolding abs_column
returns c = rw (sym (ap is_zero c.nth.ensures) ∙ sym c.is_zero.ensures ∙ c.if-is_zero.false) c.abs_column.ensures
