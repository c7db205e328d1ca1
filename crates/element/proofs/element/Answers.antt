-- A gap is passed over; else what was found is carried out.
use mathlib.Core.Path.{refl}
use Rattle.element.proofs.Laws as laws
use Rattle.element.proofs.element.Goals as goal

pub returns-then-gap-clause-done : goal.returns-then-gap-clause-done
returns-then-gap-clause-done c = laws.went_gap _ _ _ _ _ _ _ _ c.if-gap.true refl refl refl c.skip.ensures

pub returns-clause-done : goal.returns-clause-done
returns-clause-done c = laws.went _ _ _ _ _ _ _ _ _ _ _ c.if-gap.false c.row_to_vec-z.ensures c.get.ensures c.requires.1.known c.mat_vec.ensures.result c.f_star-f.ensures _ (c.judge-d.ensures.finds, c.judge-d.ensures.doubts) c.settle.ensures.settled
