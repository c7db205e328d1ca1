-- The part read is the block.
use mathlib.Core.Path.{ap, ◌∙◌}
use mathlib.Core.List.{List}
use lib.Ieee.{Float}
use Rattle.definition.specs.Refusals.{not_finite}
use Rattle.laws.specs.Backward.{part_block}
use Rattle.reports.proofs.block_off.Goals as goal

pub returns : goal.returns
returns c = c.not_finite.ensures ∙ ap (λ (l : List Float). not_finite l) (part_block c.args.t c.args.k c.args.a.now c.requires.inside)
