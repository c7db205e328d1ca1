-- By how far it goes up.
use Rattle.decimal.proofs.Scaling.{topped, raised_far}
use Rattle.decimal.proofs.scaled.raised.Goals as goal

pub returns-then-k-gt33 : goal.returns-then-k-gt33
returns-then-k-gt33 c = let a = c.args in topped _ (raised_far a.high a.k _ c.requires.0 c.if-k-gt33.true)
