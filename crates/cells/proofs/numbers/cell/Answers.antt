-- By the test: a wide field holds what is said.
use Rattle.cells.proofs.Laws.{too_long, wide}
use Rattle.cells.proofs.numbers.cell.Goals as goal

pub returns-then-width-lt9 : goal.returns-then-width-lt9
returns-then-width-lt9 c =
    let a = c.args in
    let h = too_long 9 a.at a.width _ a.out.now c.if-width-lt9.true in
    record { value = h.0; out_after = h.1 }

pub returns : goal.returns
returns c =
    let a = c.args in
    let h = wide a.at a.width a.decimals a.u a.out.now c.said.result c.said.new.out c.if-width-lt9.false (c.said.ensures.value, c.said.ensures.out_after) in
    record { value = h.0; out_after = h.1 }
