-- By the marker.
use mathlib.Core.Path.{refl, ◌∙◌}
use Rattle.saved.proofs.Refused.{need_is}
use Rattle.stretch_checks.proofs.done_before.Goals as goal

pub returns-then-begins : goal.returns-then-begins
returns-then-begins c = rw c.if-begins.true refl

pub done-requires : goal.done-requires
done-requires c = (c.requires.0, c.requires.1 c.if-begins.false ∙ need_is _)

pub returns-else-begins : goal.returns-else-begins
returns-else-begins c = rw c.if-begins.false c.done.ensures
