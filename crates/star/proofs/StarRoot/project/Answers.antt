-- F by the root.
use Rattle.star.proofs.Laws as laws
use Rattle.star.proofs.StarRoot.project.Goals as goal

pub returns : goal.returns
returns c = laws.projected_at_lem _ _ _ c.vector-zs.ensures c.u-u.ensures c.dot.ensures
