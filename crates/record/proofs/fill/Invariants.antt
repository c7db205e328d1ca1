-- The first i records are written, as far as the list reaches.
use Rattle.std.proofs.Common.{◌≡◌}
use Rattle.promise.specs.Records.{record_at}
use Rattle.record.proofs.Laying.{laid}
use Rattle.record.proofs.fill.Given as goal

abbrev pub invariant-loop-i : goal.invariant-loop-i
invariant-loop-i l = l.records ≡ laid (record_at l.kinds l.v l.f_star l.f_inf) l.fn.records l.i
