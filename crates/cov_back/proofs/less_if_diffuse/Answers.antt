-- P∞ is loaded in a diffuse period alone.
use Rattle.dense.proofs.Laws as dense
use Rattle.cov_back.proofs.less_if_diffuse.Goals as goal

pub returns-then-live : goal.returns-then-live
returns-then-live c = rw (c.if-live.true, ← dense.loaded_rect c.args.m c.args.m _ _ c.requires.1 c.fill.ensures) c.less_diffuse.ensures
