-- By whether the row is used up.
use Rattle.star.proofs.Laws as laws
use Rattle.star.proofs.column_at.Goals as goal

pub returns-then-used-i : goal.returns-then-used-i
returns-then-used-i c = laws.column_used _ _ _ _ _ _ c.requires.row c.if-used-i.true

pub returns : goal.returns
returns c = laws.column_free _ _ _ _ _ _ c.requires.row c.if-used-i.false c.get.ensures
