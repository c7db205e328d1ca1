-- With too few places it is refusal 2; else the filter's promise is the promise with a list.
use Rattle.std.proofs.Common.{sym, ◌∙◌}
use Rattle.records.proofs.Laws.{few_so, enough_so}
use Rattle.records.proofs.flat.Goals as goal

pub returns-then-too_few : goal.returns-then-too_few
returns-then-too_few c = few_so _ _ _ _ _ _ (sym c.too_few.ensures ∙ c.if-too_few.true)

pub returns : goal.returns
returns c = enough_so _ _ _ _ _ _ _ _ _ (sym c.too_few.ensures ∙ c.if-too_few.false) c.filter_univariate.ensures
