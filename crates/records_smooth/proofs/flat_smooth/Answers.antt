-- With too few places it is refusal 2; else the smoother's promise is the promise with a list.
use Rattle.std.proofs.Common.{sym, ◌∙◌}
use Rattle.records.proofs.Laws.{few_smooth_so, enough_smooth_so}
use Rattle.records_smooth.proofs.flat_smooth.Goals as goal

pub returns-then-too_few : goal.returns-then-too_few
returns-then-too_few c = few_smooth_so _ _ _ _ _ _ _ _ (sym c.too_few.ensures ∙ c.if-too_few.true)

pub returns : goal.returns
returns c = enough_smooth_so _ _ _ _ _ _ _ _ _ _ _ _ _ (sym c.too_few.ensures ∙ c.if-too_few.false) c.smooth_univariate.ensures
