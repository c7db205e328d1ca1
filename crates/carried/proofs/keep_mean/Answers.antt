-- Nothing, or the first m numbers written.
use mathlib.Core.Path.{refl}
use Rattle.carried.proofs.Laws as laws
use Rattle.carried.proofs.keep_mean.Goals as goal

pub returns-then-state-eq0 : goal.returns-then-state-eq0
returns-then-state-eq0 c = laws.mean_none _ _ _ c.if-state-eq0.true

pub returns : goal.returns
returns c = laws.mean_kept_lem _ _ _ c.save.new.out (laws.mean_in_lem c.requires c.if-state-eq0.false refl) c.if-state-eq0.false c.save.ensures
