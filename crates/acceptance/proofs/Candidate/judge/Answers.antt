-- Diffuse where the period is and its test says so, or else by usual acceptance.
use Rattle.acceptance.proofs.Laws as laws
use Rattle.acceptance.proofs.Candidate.judge.Goals as goal

pub returns-then-not-s : goal.returns-then-not-s
returns-then-not-s c = laws.judged_usual _ _ _ _ c.if-not-s.true c.usually.ensures

pub returns-then-is_diffuse : goal.returns-then-is_diffuse
returns-then-is_diffuse c = laws.judged_diffuse _ _ _ _ c.if-not-s.false c.mat_vec.ensures.result c.f_inf-g.ensures c.mat_t_vec-u.ensures c.dot.ensures c.is_diffuse.ensures c.if-is_diffuse.true

pub returns : goal.returns
returns c = laws.judged_not _ _ _ _ c.if-not-s.false c.mat_vec.ensures.result c.f_inf-g.ensures c.mat_t_vec-u.ensures c.dot.ensures c.is_diffuse.ensures c.if-is_diffuse.false c.usually-2.ensures
