-- A gap is passed over; else what was found, F by the star root at hand, is carried out.
use mathlib.Core.Path.{refl}
use Rattle.element.proofs.Laws as laws
use Rattle.element.proofs.element_by_root.Goals as goal

pub returns-then-gap : goal.returns-then-gap
returns-then-gap c = laws.by_root_gap c.args.x.now _ _ _ _ _ _ _ c.if-gap.true refl c.skip.ensures

pub returns-in-Err : goal.returns-in-Err
returns-in-Err c = laws.by_root_no c.args.x.now _ _ _ _ _ _ _ c.is_usual.result c.if-gap.false c.row_to_vec-z.ensures c.get.ensures (c.requires.1.known refl) c.mat_vec.ensures.result c.f_star-f.ensures c.is_usual.ensures.finds _ c.in-Err.is refl c.skip-in-Err.ensures

pub returns-in-Ok : goal.returns-in-Ok
returns-in-Ok c = laws.by_root_yes c.args.x.now _ _ _ _ _ _ _ c.is_usual.result c.if-gap.false c.row_to_vec-z.ensures c.get.ensures (c.requires.1.known refl) c.mat_vec.ensures.result c.f_star-f.ensures c.is_usual.ensures.finds c.in-Ok.is c.usual_update.ensures c.usual.ensures
