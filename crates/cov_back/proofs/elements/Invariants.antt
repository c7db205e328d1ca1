-- The loop over the elements runs along the fold from the back.
use Rattle.record.specs.Decisions.{flat_of}
use Rattle.element_back.specs.View.{ns_of}
use Rattle.cov_back.proofs.Laws as laws
use Rattle.cov_back.proofs.elements.Given as goal

abbrev pub invariant-loop-i : goal.invariant-loop-i
invariant-loop-i l = laws.Along l.p l.m l.t (flat_of l.left) l.live l.design (ns_of l.m l.initial.s) l.i (ns_of l.m l.s)
