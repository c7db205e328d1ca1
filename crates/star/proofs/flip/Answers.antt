-- By the two tests.
use Rattle.star.proofs.InPlace as place
use Rattle.star.proofs.flip.Goals as goal

pub returns-then-x-i : goal.returns-then-x-i
returns-then-x-i c = place.flip_first _ _ _ c.if-x-i.true

pub returns-then-x-j : goal.returns-then-x-j
returns-then-x-j c = place.flip_second _ _ _ c.if-x-i.false c.if-x-j.true

pub returns : goal.returns
returns c = place.flip_third _ _ _ c.if-x-i.false c.if-x-j.false
