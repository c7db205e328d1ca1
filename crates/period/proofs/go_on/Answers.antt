-- P* and P∞ by T; in a diffuse period the root and the unresolved matrix too.
use Rattle.period.proofs.Whole as whole
use Rattle.period.proofs.go_on.Goals as goal

pub returns-then-s : goal.returns-then-s
returns-then-s c = whole.stepped_yes _ _ _ _ _ _ _ c.if-s.true c.step_star.ensures c.step_inf.ensures c.mul_into.ensures.result c.sandwich_in_place.ensures

pub returns-else-s : goal.returns-else-s
returns-else-s c = whole.stepped_no _ _ _ _ _ _ _ c.if-s.false c.step_star.ensures c.step_inf.ensures
