-- A field as wide as the words.
use mathlib.Core.Path.{refl}
use Rattle.cells.proofs.Laws.{bare}
use Rattle.cells.proofs.words.text.Goals as goal

pub returns : goal.returns
returns c =
    let a = c.args in
    bare a.at _ a.words.now a.out.now c.word_left.new.out c.requires refl c.word_left.ensures.out_after
