-- By the first byte.
use Rattle.std.proofs.Common.{◌≡◌, ◌≢◌, true, false, get_or, sym, ap, ◌∙◌, arith, eq-eqb, ne_eqb}
use Rattle.decimal.specs.Reading.{number_of}
use Rattle.decimal.proofs.Numbers.{read_none, read_by, all_after}
use Rattle.decimal.proofs.reading.read_all.Goals as goal

pub returns-in-empty : goal.returns-in-empty
returns-in-empty c = sym (read_none c.args.s.now (omega arith))

pub returns-in-45 : goal.returns-in-45
returns-in-45 c =
    let s = c.args.s.now in
    let minus : get_or s 0 0 ≡ 45 = omega arith in
    c.number.ensures ∙ ap (number_of true) (all_after s 1) ∙ sym (read_by s true (omega arith) (eq-eqb _ _ minus))

pub returns-in_default : goal.returns-in_default
returns-in_default c =
    let s = c.args.s.now in
    let plus : get_or s 0 0 ≢ 45 = omega arith in
    c.number-in_default.ensures ∙ sym (read_by s false (omega arith) (ne_eqb _ _ plus))
