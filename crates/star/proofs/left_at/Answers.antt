-- By whether the row is used up.
use Rattle.star.proofs.InPlace as place
use Rattle.star.proofs.left_at.Goals as goal

pub returns-then-spent : goal.returns-then-spent
returns-then-spent c = place.left_used _ _ _ _ _ c.requires.row _ c.if-spent.true

pub returns : goal.returns
returns c = place.left_over _ _ _ _ _ c.requires.row _ c.if-spent.false c.nth.ensures c.nth-2.ensures
