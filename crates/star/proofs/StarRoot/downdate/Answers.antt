-- By whether F is above 0: only then is there an update.
use Rattle.star.proofs.Laws as laws
use Rattle.star.proofs.StarRoot.downdate.Goals as goal

pub returns-then-f : goal.returns-then-f
returns-then-f c = laws.downdated_yes c.args.self.now _ _ c.vector-zs.ensures c.u-u.ensures c.dot.ensures c.if-f.true c.w-w.ensures c.sqrt.ensures c.shrink.ensures

pub returns-else-f : goal.returns-else-f
returns-else-f c = laws.downdated_no _ _ _ c.vector-zs.ensures c.u-u.ensures c.dot.ensures c.if-f.false
