-- By cases.
use mathlib.Core.Path.{refl, ap, ◌∙◌}
use mathlib.Core.Bool.{true, false}
use Rattle.decimal.specs.declared.answers.Units.TheVariants as units
use Rattle.decimal.specs.Printed.{sign_of}
use Rattle.cells.specs.Cells.{said_of, no_number, infinite, too_large}
use Rattle.cells.proofs.Laws.{says}
use Rattle.cells.proofs.numbers.said.Goals as goal

pub returns-in-NotANumber : goal.returns-in-NotANumber
unfolding said_of no_number
returns-in-NotANumber c =
    let w = c.word_right in
    let a = c.args in
    let h = says a.at a.width a.decimals a.u units.NotANumber _ a.out.now w.result w.new.out c.in-NotANumber.is refl (w.ensures.value, w.ensures.out_after) in
    record { value = h.0; out_after = h.1 }

pub returns-in-Infinite-true : goal.returns-in-Infinite-true
unfolding said_of infinite sign_of
returns-in-Infinite-true c =
    let w = c.word_right-in-Infinite-true in
    let a = c.args in
    let h = says a.at a.width a.decimals a.u (units.Infinite true) _ a.out.now w.result w.new.out (c.in-Infinite-true.is ∙ ap units.Infinite c.in-Infinite-true.field-0-test) refl (w.ensures.value, w.ensures.out_after) in
    record { value = h.0; out_after = h.1 }

pub returns-in-Infinite-false : goal.returns-in-Infinite-false
unfolding said_of infinite sign_of
returns-in-Infinite-false c =
    let w = c.word_right-in-Infinite-false in
    let a = c.args in
    let h = says a.at a.width a.decimals a.u (units.Infinite false) _ a.out.now w.result w.new.out (c.in-Infinite-false.is ∙ ap units.Infinite c.in-Infinite-false.field-0-test) refl (w.ensures.value, w.ensures.out_after) in
    record { value = h.0; out_after = h.1 }

pub returns-in-TooLarge : goal.returns-in-TooLarge
unfolding said_of too_large
returns-in-TooLarge c =
    let w = c.word_right-in-TooLarge in
    let a = c.args in
    let h = says a.at a.width a.decimals a.u _ _ a.out.now w.result w.new.out c.in-TooLarge.is refl (w.ensures.value, w.ensures.out_after) in
    record { value = h.0; out_after = h.1 }
