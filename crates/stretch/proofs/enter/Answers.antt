-- By the marker.
use mathlib.Core.Path.{◌∙◌}
use Rattle.saved.proofs.Loads.{carried_loaded}
use Rattle.saved.proofs.Refused.{need_is}
use Rattle.stretch.proofs.enter.Goals as goal

pub returns-then-begins : goal.returns-then-begins
returns-then-begins c = rw c.if-begins.true c.begin.ensures

pub load_tallies-requires : goal.load_tallies-requires
load_tallies-requires c = let h = c.requires in (h.0.m8, (h.1 c.if-begins.false).0 ∙ need_is _)

pub returns : goal.returns
returns c = rw c.if-begins.false (carried_loaded _ _ _ _ (c.requires.1 c.if-begins.false).1 c.load_tallies.ensures)
