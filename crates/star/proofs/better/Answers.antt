-- By whether place j is used, and whether its entry is larger.
use Rattle.star.proofs.Laws as laws
use Rattle.star.proofs.better.Goals as goal

pub returns-then-used-j : goal.returns-then-used-j
returns-then-used-j c = laws.better_used _ _ _ _ _ c.requires.1 c.if-used-j.true

pub returns-then-x-b : goal.returns-then-x-b
returns-then-x-b c = laws.better_yes _ _ _ _ _ c.requires.1 c.if-used-j.false c.get-x.ensures c.if-x-b.true

pub returns : goal.returns
returns c = laws.better_no _ _ _ _ _ c.requires.1 c.if-used-j.false c.get-x.ensures c.if-x-b.false
