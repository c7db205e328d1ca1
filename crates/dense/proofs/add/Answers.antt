-- Each place is a sum, so the whole is.
use Rattle.definition.specs.Num.{◌⊕◌}
use Rattle.definition.specs.Dense.{plus, plus_at}
use Rattle.dense.specs.Views.{vec, rect}
use Rattle.dense.proofs.Laws as laws
use Rattle.dense.proofs.add.Goals as goal

pub returns : goal.returns
unfolding plus plus_at vec rect
returns c = laws.flat_both ◌⊕◌ c.args.m _ _ _ (c.combine.ensures ◌⊕◌ (λ x y v p. cc))
