-- The word's bytes.
use Rattle.std.proofs.Common.{ap, ◌∙◌}
use Rattle.decimal.specs.declared.answers.Span.{Span}
use Rattle.decimal.specs.Reading.{stretch}
use Rattle.sheet.specs.Tokens.{token_of, token_no}
use Rattle.sheet.proofs.tokens.token_no.Goals as goal

pub returns : goal.returns
unfolding token_no stretch
returns c = c.token.ensures ∙ ap (λ (w : Span). token_of (stretch c.args.line.now w.from w.to)) c.word_no-w.ensures.0
