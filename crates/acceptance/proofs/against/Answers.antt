-- F* against its reference, by the two tests.
use Rattle.acceptance.specs.Views.{dust_of}
use Rattle.acceptance.proofs.Laws as laws
use Rattle.acceptance.proofs.against.Goals as goal

pub returns-then-f-reference : goal.returns-then-f-reference
unfolding dust_of
returns-then-f-reference c = laws.against-below _ _ c.if-f-reference.true

pub returns-then-f-reference-2 : goal.returns-then-f-reference-2
unfolding dust_of
returns-then-f-reference-2 c = laws.against_clear _ _ c.if-f-reference.false c.if-f-reference-2.true

pub returns : goal.returns
unfolding dust_of
returns c = laws.against-suspect _ _ c.if-f-reference.false c.if-f-reference-2.false
