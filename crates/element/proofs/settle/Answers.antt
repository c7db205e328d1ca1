-- By what was found: the update and the record.
use mathlib.Core.Path.{refl}
use Rattle.element.proofs.Laws as laws
use Rattle.element.proofs.settle.Goals as goal

pub returns-in-Nothing-clause-settled : goal.returns-in-Nothing-clause-settled
returns-in-Nothing-clause-settled c = laws.settled_nothing _ _ _ _ _ _ _ _ _ c.in-Nothing.is (laws.moved_none _ _ _ _ _ _ refl refl refl c.skip.ensures)

pub returns-in-Usual-clause-settled : goal.returns-in-Usual-clause-settled
returns-in-Usual-clause-settled c = laws.settled_usual _ _ _ _ _ _ _ _ c.in-Usual.is (laws.moved_usual _ _ _ _ _ _ _ c.usual_update.ensures refl refl c.usual.ensures)

pub returns-in-Diffuse-clause-settled : goal.returns-in-Diffuse-clause-settled
returns-in-Diffuse-clause-settled c = laws.settled_diffuse _ _ _ _ _ _ _ _ _ c.in-Diffuse.is (laws.moved_diffuse _ _ _ _ _ _ _ _ _ c.diffuse_update.ensures c.root_less.ensures c.enter.ensures)

pub returns-in-Doubtful-clause-settled : goal.returns-in-Doubtful-clause-settled
returns-in-Doubtful-clause-settled c = laws.settled_doubt _ _ _ _ _ _ _ _ _ c.in-Doubtful.is refl refl
