-- By what `put` answers.
use mathlib.Core.Path.{sym, ◌∙◌}
use Rattle.cells.proofs.Laws.{put_yes, put_no}
use Rattle.cells.specs.Cells.{too_large}
use Rattle.cells.proofs.numbers.whole.Goals as goal

pub returns-then-put : goal.returns-then-put
returns-then-put c =
    let p = c.put in
    let a = c.args in
    let h = put_yes a.at a.width a.decimals a.n a.out.now p.new.out (sym c.if-put.true ∙ p.ensures.value) p.ensures.out_after in
    record { value = h.0; out_after = h.1 }

pub returns : goal.returns
unfolding too_large
returns c =
    let w = c.word_right in
    let p = c.put in
    let a = c.args in
    let h = put_no a.at a.width a.decimals a.n a.out.now p.new.out w.result w.new.out (sym c.if-put.false ∙ p.ensures.value) p.ensures.out_after (w.ensures.value, w.ensures.out_after) in
    record { value = h.0; out_after = h.1 }
