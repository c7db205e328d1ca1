-- Two places, where the line has checks.
use Rattle.std.proofs.Common.{◌≡◌, ◌<◌, true, arith, rules}
use Rattle.sheet.specs.Kinds.{has_checks}
use Rattle.sheet.proofs.Walking.{store_none, store_two}
use Rattle.sheet.proofs.sheets.store.Goals as goal

pub returns-then-not-has_checks : goal.returns-then-not-has_checks
returns-then-not-has_checks c =
    let a = c.args in
    let e = store_none a.table a.t a.periods a.y.now (search rules) in
    record { value = e.0; laid = e.1 }

pub returns : goal.returns
returns c =
    let a = c.args in
    let h : has_checks a.t.first ≡ true = search rules in
    let k : a.periods < 4096 = c.requires.1 h in
    let e = store_two a.table a.t a.periods a.y.now c.reading.result c.reading-2.result h (omega arith) c.reading.ensures c.reading-2.ensures in
    record { value = e.0; laid = e.1 }
