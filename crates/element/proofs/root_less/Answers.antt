-- B less its part along u.
use Rattle.element.proofs.Laws as laws
use Rattle.element.proofs.root_less.Goals as goal

pub returns : goal.returns
returns c = laws.root_less_lem _ _ _ c.mat_t_vec-u.ensures c.mat_vec.ensures.result c.dot.ensures c.over-g.ensures c.outer_sub.ensures.result
