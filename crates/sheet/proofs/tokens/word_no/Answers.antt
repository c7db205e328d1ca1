-- Word by word, each from where the one before ends.
use Rattle.std.proofs.Common.{refl, arith}
use Rattle.sheet.specs.Tokens.{start_no}
use Rattle.sheet.proofs.Laws.{start_next, word_at_lem}
use Rattle.sheet.proofs.tokens.word_no.Goals as goal

pub loop-init : goal.loop-init
unfolding start_no
loop-init c = refl

pub loop-preserved : goal.loop-preserved
loop-preserved c = start_next c.args.line.now c.loop.at c.loop.counter c.word-at.result c.loop.invariant c.word-at.ensures

pub returns : goal.returns
returns c = word_at_lem c.args.line.now c.args.k c.loop.at c.loop.counter c.word.result (omega arith) c.loop.invariant c.word.ensures
