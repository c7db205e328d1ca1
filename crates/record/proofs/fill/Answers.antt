-- A turn writes one record more, and at the end k of them stand.
use Rattle.std.proofs.Common.{◌≡◌, sym, add-one, arith}
use Rattle.promise.specs.Records.{record_at, records_of, filled}
use Rattle.record.proofs.Laying.{none, next}
use Rattle.record.proofs.fill.Goals as goal

pub loop-i-init : goal.loop-i-init
loop-i-init c = sym (none (record_at c.args.kinds.now c.args.v.now c.args.f_star.now c.args.f_inf.now) c.args.records.now)

pub loop-i-preserved : goal.loop-i-preserved
loop-i-preserved c = let e = next (record_at c.args.kinds.now c.args.v.now c.args.f_star.now c.args.f_inf.now) c.args.records.now c.loop-i.i in rw add-one cc (e)

pub returns : goal.returns
unfolding filled records_of
returns c = let k : c.loop-i.i ≡ c.args.k = omega arith in rw (← k) c.loop-i.invariant
