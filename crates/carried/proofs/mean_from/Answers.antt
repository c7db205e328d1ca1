-- a1, or the first m numbers read.
use mathlib.Core.Path.{refl}
use Rattle.carried.proofs.Laws as laws
use Rattle.carried.proofs.mean_from.Goals as goal

pub returns-then-state-eq0 : goal.returns-then-state-eq0
returns-then-state-eq0 c = laws.mean_begun _ _ _ _ c.requires.1 c.if-state-eq0.true c.load.ensures

pub returns : goal.returns
returns c = laws.mean_resumed _ _ _ _ (laws.mean_in_lem c.requires.0 c.if-state-eq0.false refl) c.if-state-eq0.false c.load-2.ensures
