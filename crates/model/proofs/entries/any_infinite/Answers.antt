-- By the test of each reading; its class tells it.
use mathlib.Core.Path.{sym, ◌∙◌}
use Rattle.std.proofs.Common.{rules}
use Rattle.definition.specs.Num.{is_infinite}
use Rattle.laws.specs.Any.{infinite_classes}
use Rattle.model.proofs.entries.any_infinite.Goals as goal

pub returns : goal.returns
returns c = c.any_of.ensures is_infinite (λ v b p. search rules) ∙ sym (infinite_classes c.args.y.now)
