-- n·p fits, where the sizes are in range.
use mathlib.Core.Path.{sym, ◌∙◌}
use Rattle.laws.specs.Accepted.{in_range}
use Rattle.records.proofs.Laws.{all_fits, not_few, maybe_few}
use Rattle.records.proofs.too_few.Goals as goal

pub overflow_mul-result : goal.overflow_mul-result
overflow_mul-result c = let h = in_range _ _ _ _ (sym c.outside.ensures ∙ c.if-not-outside.true) in record { fits = all_fits h.p8 h.n4096 }

pub returns-then-not-outside : goal.returns-then-not-outside
returns-then-not-outside c = maybe_few _ _ _ _ _ (sym c.outside.ensures ∙ c.if-not-outside.true)

pub returns-else-not-outside : goal.returns-else-not-outside
returns-else-not-outside c = rw c.if-not-outside.false (not_few _ _ _ _ _ (sym c.outside.ensures ∙ c.if-not-outside.false))
