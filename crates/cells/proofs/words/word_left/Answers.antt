-- By the test.
use lib.ListN.{length}
use Rattle.cells.specs.Cells.{left_of}
use Rattle.cells.proofs.Laws.{too_long, alike, left_is}
use Rattle.cells.proofs.words.word_left.Goals as goal

pub returns-then-width-text : goal.returns-then-width-text
returns-then-width-text c =
    let a = c.args in
    let h = too_long (length a.text.now) a.at a.width _ a.out.now c.if-width-text.true in
    record { value = h.0; out_after = h.1 }

pub returns : goal.returns
returns c =
    let a = c.args in
    let h = alike (length a.text.now) a.at a.width _ (left_of a.width a.text.now) a.out.now c.word.result c.word.new.out (left_is a.width a.text.now) (c.word.ensures.value, c.word.ensures.out_after) in
    record { value = h.0; out_after = h.1 }
