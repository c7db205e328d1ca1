-- Each part before what stands.
use Rattle.decimal.proofs.Printing.{field_by}
use Rattle.decimal.proofs.printed.field.Goals as goal

pub returns : goal.returns
returns c =
    let a = c.args in
    field_by a.out.now c.fraction.new.out c.spell.new.out c.sign.new.out c.blanks.new.out
    a.at a.pad c.sign_width.result a.k a.whole a.decimals a.part a.minus
    c.sign_width.ensures.0 c.fraction.ensures c.spell.ensures c.sign.ensures c.blanks.ensures
