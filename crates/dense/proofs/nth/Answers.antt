-- An entry of the view is one of the array.
use mathlib.Core.Path.{sym}
use Rattle.dense.proofs.Laws.{vec-at}
use Rattle.dense.proofs.nth.Goals as goal

pub returns : goal.returns
returns c = sym (vec-at c.args.m c.args.i c.args.x.now c.requires.1)
