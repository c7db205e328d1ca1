-- The star root has followed those taken of the first i elements.
use Rattle.star.specs.Views.{Sound}
use Rattle.element.specs.Views.{flat_of}
use Rattle.period.proofs.Along as along
use Rattle.period.proofs.by_root.Given as goal

abbrev pub invariant-loop-i : goal.invariant-loop-i
invariant-loop-i l =
    Sound l.x.m l.root × along.Rooted l.x l.ys l.from l.initial.star (flat_of l.initial.records) l.i l.root l.star (flat_of l.records)
