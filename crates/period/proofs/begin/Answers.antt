-- P∞ stays where the period is diffuse, or else is set to zeros.
use mathlib.Core.Path.{refl}
use Rattle.period.proofs.Whole as laws
use Rattle.period.proofs.begin.Goals as goal

pub returns-then-not-s : goal.returns-then-not-s
returns-then-not-s c = record { lasts = c.lasts-s.ensures; pinf = rw c.if-not-s.true (laws.entered_no _ _ c.clear.ensures); star = refl; root = refl; unres = refl }

pub returns-else-not-s : goal.returns-else-not-s
returns-else-not-s c = record { lasts = c.lasts-s.ensures; pinf = rw c.if-not-s.false (laws.entered_yes _ _); star = refl; root = refl; unres = refl }
