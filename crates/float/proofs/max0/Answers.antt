-- By the test.
use mathlib.Core.Path.{sym, ap}
use mathlib.Core.Bool.{Bool, cond}
use Rattle.definition.specs.Num.{max0, 0ᶠ}
use Rattle.float.proofs.max0.Goals as goal

pub returns-then-x : goal.returns-then-x
unfolding max0
returns-then-x c = sym (ap (λ (t : Bool). cond t c.args.x 0ᶠ) c.if-x.true)

pub returns-else-x : goal.returns-else-x
unfolding max0
returns-else-x c = sym (ap (λ (t : Bool). cond t c.args.x 0ᶠ) c.if-x.false)
