-- The loop over the elements runs along the scan.
use Rattle.mean.specs.View.{mean_of}
use Rattle.record.specs.Decisions.{flat_of}
use Rattle.mean.proofs.Laws as laws
use Rattle.mean.proofs.elements.Given as goal

abbrev pub invariant-loop-i : goal.invariant-loop-i
invariant-loop-i l = laws.Along l.p l.m l.t (flat_of l.left) l.y l.design l.d (mean_of l.m l.initial.mean) l.i l.v (mean_of l.m l.mean)
