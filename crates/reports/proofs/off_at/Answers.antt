-- The parts looked at are the blocks.
use mathlib.Core.Path.{◌∙◌, sym, ap, ap₂}
use mathlib.Core.Bool.{◌||◌}
use Rattle.definition.specs.Refusals.{not_finite}
use Rattle.laws.specs.Told.{off_at}
use Rattle.laws.specs.Backward.{part_block, block_long}
use Rattle.reports.proofs.off_at.Goals as goal

pub some_off-requires : goal.some_off-requires
some_off-requires c =
    let t = c.args.t in
    let k = c.args.k in
    let one = block_long t k c.args.a.now c.requires.0.inside in (
      block_long t k c.args.b.now c.requires.1.inside ∙ sym one,
      block_long t k c.args.c.now c.requires.2.inside ∙ sym one,
    )

pub returns : goal.returns
unfolding off_at
returns c =
    let t = c.args.t in
    let k = c.args.k in
    c.some_off.ensures
    ∙ ap₂ ◌||◌
    (ap₂ ◌||◌ (ap not_finite (part_block t k c.args.a.now c.requires.0.inside)) (ap not_finite (part_block t k c.args.b.now c.requires.1.inside)))
    (ap not_finite (part_block t k c.args.c.now c.requires.2.inside))
