-- By the length and the tests.
use Rattle.std.proofs.Common.{ℕ, true, false, Ok, refl, sym, ap, ◌∙◌}
use borrow.Author.Tests.{eqb-true, eqb-false, le-leb, lt-leb}
use Rattle.decimal.specs.Reading.{whole}
use Rattle.decimal.proofs.Numbers.{number_none, number_by}
use Rattle.decimal.proofs.reading.number.Goals.{then-is_empty-via-then-is_empty, then-is_empty-via-else-is_empty+then-not-all_digits}
use Rattle.decimal.proofs.reading.number.Goals as goal

pub returns-then-is_empty : goal.returns-then-is_empty
returns-then-is_empty c =
    let a = c.args in
    elim c.then-is_empty.branch [
      | then-is_empty-via-then-is_empty w ↦ sym (number_none a.minus a.s.now (eqb-true _ _ (sym c.is_empty.ensures ∙ w.if-is_empty.true)))
      | then-is_empty-via-else-is_empty+then-not-all_digits w ↦
          sym (number_by a.minus a.s.now false _ (eqb-false _ _ (sym c.is_empty.ensures ∙ w.if-is_empty.false)) (sym w.all_digits.ensures ∙ w.if-not-all_digits.true) refl)
    ]

pub returns-then-s-gt15 : goal.returns-then-s-gt15
returns-then-s-gt15 c =
    let a = c.args in
    sym (number_by a.minus a.s.now true false (eqb-false _ _ (sym c.is_empty.ensures ∙ c.if-is_empty.false)) (sym c.all_digits.ensures ∙ c.if-not-all_digits.false) (lt-leb _ _ c.if-s-gt15.true))

pub returns : goal.returns
returns c =
    let a = c.args in
    ap (λ (n : ℕ). Ok (whole a.minus n)) c.value.ensures
    ∙ sym (number_by a.minus a.s.now true true (eqb-false _ _ (sym c.is_empty.ensures ∙ c.if-is_empty.false)) (sym c.all_digits.ensures ∙ c.if-not-all_digits.false) (le-leb _ _ c.if-s-gt15.false))
