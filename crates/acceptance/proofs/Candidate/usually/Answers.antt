-- The dust test, where the scale's test holds.
use Rattle.acceptance.proofs.Laws as laws
use Rattle.acceptance.proofs.Candidate.usually.Goals as goal

pub returns-then-is_scaled : goal.returns-then-is_scaled
returns-then-is_scaled c = laws.usually_scaled _ _ _ _ c.is_scaled.ensures c.if-is_scaled.true c.dust_test-d.ensures c.by_dust.ensures

pub returns : goal.returns
returns c = laws.usually_not _ _ _ _ c.is_scaled.ensures c.if-is_scaled.false
