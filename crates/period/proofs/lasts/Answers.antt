-- The test of P∞, where the diffuse state lasted until then.
use Rattle.period.proofs.Whole as laws
use Rattle.period.proofs.lasts.Goals as goal

pub returns-then-live : goal.returns-then-live
returns-then-live c = laws.live_yes _ _ c.if-live.true c.frob_sq.ensures

pub returns : goal.returns
returns c = laws.live_no _ _ c.if-live.false
