-- Clear before an update, then by the bound, then by the reference.
use Rattle.acceptance.specs.Views.{dust_of}
use Rattle.acceptance.proofs.Laws as laws
use Rattle.acceptance.proofs.Candidate.dust_test.Goals as goal

pub returns-in-None : goal.returns-in-None
unfolding dust_of
returns-in-None c = laws.dust_fresh _ _ _ _ _ c.in-None.is

pub returns-then-f-b : goal.returns-then-f-b
unfolding dust_of
returns-then-f-b c = laws.dust-bound _ _ _ _ _ _ c.in-Some.is c.bound-b.ensures c.if-f-b.true

pub returns-else-f-b : goal.returns-else-f-b
returns-else-f-b c = laws.dust_rest _ _ _ _ _ _ c.in-Some.is c.bound-b.ensures c.if-f-b.false c.abs_quad_form.ensures c.against.ensures
