-- The record of a skipped element.
use Rattle.promise.specs.Records.{cause_in}
use Rattle.element.proofs.Laws as laws
use Rattle.element.proofs.Records.skip.Goals as goal

pub returns : goal.returns
returns c = laws.recorded_skipped _ _ c.requires.1 (cause_in c.args.cause) c.from.ensures c.enter.ensures
