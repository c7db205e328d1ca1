-- The loop: the numbers passed are flipped.
use mathlib.Core.Path.{◌≡◌}
use Rattle.star.proofs.InPlace.{renamed}
use Rattle.dense.proofs.Laws as laws
use Rattle.star.proofs.renumber.Given as goal

abbrev pub invariant-loop-x : goal.invariant-loop-x
invariant-loop-x l = l.x-items ≡ laws.row (renamed l.i l.j l.initial.x-items) 0 l.x-index l.initial.x-items
