-- The next word is looked for where the last one ends.
use Rattle.std.proofs.Common.{◌≡◌}
use Rattle.sheet.specs.Tokens.{start_no}
use Rattle.sheet.proofs.tokens.word_no.Given as goal

abbrev pub invariant-loop : goal.invariant-loop
invariant-loop l = l.at ≡ start_no l.line l.counter
