-- By what `count` says of the bytes that `take_while` gives.
use Rattle.std.proofs.Common.{rules, ◌≡◌, length, take, length-take, ◌∙◌, arith}
use Rattle.std.proofs.lemmas.Iterator.{YieldsList-from_slice}
use Rattle.std.proofs.lemmas.Iterator.Consumers.{count_from_yields_List}
use Rattle.std.proofs.lemmas.Iterator.Search.{YieldsList-from_take_while}
use Rattle.std.specs.List.{prefix_len}
use Rattle.std.proofs.lemmas.List.Folds.{length-prefix_len}
use Rattle.decimal.proofs.Runs.{run_is}
use Rattle.decimal.specs.Words.{keeps, run_of}
use Rattle.decimal.proofs.words.run.Goals as goal

pub returns : goal.returns
returns c =
    let a = c.args in
    let bs = a.bytes.now in
    let h = count_from_yields_List c.take_while.result _ c.count.ensures.ran (YieldsList-from_take_while _ (keeps a.blanks) (YieldsList-from_slice bs cc) c.take_while.ensures.closure c.take_while.ensures.done (λ x r q k. search rules)) in
    let l : length (take (prefix_len (keeps a.blanks) bs) bs) ≡ run_of a.blanks bs = length-prefix_len (keeps a.blanks) bs ∙ run_is a.blanks bs in
    (h ∙ l, let t = length-take (prefix_len (keeps a.blanks) bs) bs in omega arith)
