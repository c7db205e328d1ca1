-- By whether b is 0 at j.
use native.Mathlib.Omega.{arith}
use mathlib.Core.Path.{sym, ap, ◌∙◌}
use Rattle.definition.specs.Num.{is_zero}
use Rattle.definition.specs.Dense.{zero_at}
use Rattle.dense.proofs.Laws as laws
use Rattle.dense.proofs.Columns as cols
use Rattle.dense.proofs.sub_column_kept.Goals as goal

pub returns-then-is_zero : goal.returns-then-is_zero
unfolding zero_at
returns-then-is_zero c =
    cols.less_none _ _ _ _ c.requires.1 _ (omega (arith, c.told-p, laws.area c.requires.0 c.requires.0)) (sym (ap is_zero c.nth.ensures) ∙ sym c.is_zero.ensures ∙ c.if-is_zero.true)

pub returns : goal.returns
unfolding zero_at
returns c =
    cols.less_kept _ _ _ _ c.requires.1 _ _ (sym (ap is_zero c.nth.ensures) ∙ sym c.is_zero.ensures ∙ c.if-is_zero.false) c.sub_column.ensures
