-- Two runs: blanks, then what is no blank.
use Rattle.decimal.proofs.Runs.{word_by}
use Rattle.decimal.proofs.words.word.Goals as goal

pub returns : goal.returns
returns c = let a = c.args in word_by a.line.now a.at c.min-start.result c.run.result c.run-2.result c.min-start.ensures c.run.ensures.0 c.run-2.ensures.0
