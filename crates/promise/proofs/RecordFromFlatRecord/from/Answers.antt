-- Each kind by its number; the last arm's number is 5 or more.
use Rattle.std.proofs.Common.{◌≡◌, ℕ, suc, ◌-◌, refl, arith}
use Rattle.promise.specs.Records.{kind_from}
use Rattle.promise.specs.declared.Record.{Record}
use Rattle.promise.specs.declared.FlatRecord.{FlatRecord}
use Rattle.promise.proofs.RecordFromFlatRecord.from.Goals as goal

-- x with its number written otherwise
by_number : (x : FlatRecord) {n : ℕ} → x.kind ≡ n → ◌≡◌ {A = Record} (record { kind = kind_from n x.v x.f_star x.f_inf }) (record { kind = kind_from x.kind x.v x.f_star x.f_inf })
by_number x e = rw e refl

pub returns-in-0 : goal.returns-in-0
unfolding kind_from
returns-in-0 c = by_number c.args.x c.in-0.is

pub returns-in-1 : goal.returns-in-1
unfolding kind_from
returns-in-1 c = by_number c.args.x c.in-1.is

pub returns-in-2 : goal.returns-in-2
unfolding kind_from
returns-in-2 c = by_number c.args.x c.in-2.is

pub returns-in-3 : goal.returns-in-3
unfolding kind_from
returns-in-3 c = by_number c.args.x c.in-3.is

pub returns-in-4 : goal.returns-in-4
unfolding kind_from
returns-in-4 c = by_number c.args.x c.in-4.is

pub returns-in_default : goal.returns-in_default
unfolding kind_from
returns-in_default c = by_number c.args.x {n = suc (suc (suc (suc (suc (c.args.x.kind - 5)))))} (omega arith)
