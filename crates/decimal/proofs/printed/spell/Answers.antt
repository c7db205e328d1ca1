-- A turn writes one digit before those that stand.
use Rattle.std.proofs.Common.{◌-◌, ◌/◌, ap, ◌∙◌, arith, length-set}
use Rattle.decimal.specs.Printed.{digits_onto}
use Rattle.decimal.proofs.Printing.{digit_on, byte_on, at_last}
use Rattle.decimal.proofs.printed.spell.Goals as goal

pub loop-i-preserved : goal.loop-i-preserved
loop-i-preserved c =
    let w = c.loop-i in
    let a = c.args in
    let h = c.loop-i-test.true in
    let l = w.invariant.1 in
    let p = c.requires in
    let b = byte_on a.out.now w.out a.from w.i c.figure.result h (omega arith) w.invariant.2 in
    (omega arith, simp length-set l, b.0, ap (digits_onto (w.i - 1) (w.rest / 10)) b.1 ∙ digit_on w.i w.rest c.figure.result _ h c.figure.ensures ∙ w.invariant.3)

pub returns : goal.returns
returns c =
    let w = c.loop-i in
    let a = c.args in
    at_last a.out.now w.out a.from a.k w.i a.n w.rest (omega arith) w.invariant.1 w.invariant.2 w.invariant.3
