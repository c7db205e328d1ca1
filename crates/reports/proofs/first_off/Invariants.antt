-- The loop: none of the blocks passed is off, so what is told of all is told of the rest.
use mathlib.Core.Path.{◌≡◌}
use Prim.Native.Nat.{◌≤◌}
use Rattle.definition.specs.Num.{tabulate}
use Rattle.definition.specs.Reports.{first_from}
use Rattle.laws.specs.Told.{off_at}
use Rattle.reports.proofs.Steps as steps
use Rattle.reports.proofs.first_off.Given as goal

abbrev pub invariant-loop-t : goal.invariant-loop-t
invariant-loop-t l = (l.t ≤ l.n) × (first_from l.done (tabulate l.n (off_at l.k l.a l.b l.c)) ≡ steps.rest l.done l.n (off_at l.k l.a l.b l.c) l.t)
