-- The loop over the elements goes down along the fold.
use Rattle.record.specs.Decisions.{flat_of}
use Rattle.mean_back.specs.View.{rs_of}
use Rattle.mean_back.proofs.Laws as laws
use Rattle.mean_back.proofs.elements_back.Given as goal

abbrev pub invariant-loop-i : goal.invariant-loop-i
invariant-loop-i l = laws.Down l.p l.m l.t (flat_of l.left) l.v l.design (rs_of l.m l.initial.s) l.i (rs_of l.m l.s)
