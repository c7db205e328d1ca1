-- One element, by its kind.
use Rattle.mean.proofs.Laws.{heard_none, heard_usual, heard_diffuse}
use Rattle.mean.proofs.hear.Goals as goal

pub returns-in-Skipped : goal.returns-in-Skipped
returns-in-Skipped c = heard_none _ _ _ _ _ _ _ _ _ c.kind_from.ensures c.in-Skipped.is

pub returns-in-Usual : goal.returns-in-Usual
returns-in-Usual c = heard_usual _ _ _ _ _ _ _ _ _ c.kind_from.ensures c.in-Usual.is c.follow_at-v.ensures c.usual_term-mean.ensures

pub returns-in-Diffuse : goal.returns-in-Diffuse
returns-in-Diffuse c = heard_diffuse _ _ _ _ _ _ _ _ _ c.kind_from.ensures c.in-Diffuse.is c.follow_at-v-in-Diffuse.ensures c.diffuse_term-mean.ensures
