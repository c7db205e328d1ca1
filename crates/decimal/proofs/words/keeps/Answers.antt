-- By what `is_blank` says.
use Rattle.std.proofs.Common.{Bool, ap, ◌∙◌}
use mathlib.Core.Bool.{beq}
use Rattle.decimal.specs.Words.{keeps}
use Rattle.decimal.proofs.Runs.{same_is}
use Rattle.decimal.proofs.words.keeps.Goals as goal

pub returns : goal.returns
unfolding keeps
returns c = ap (λ (x : Bool). beq x c.args.blanks) c.is_blank.ensures ∙ same_is _ c.args.blanks
