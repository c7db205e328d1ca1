-- The test and the entering P∞, and the two predicted matrices saved.
use native.Mathlib.Omega.{arith}
use Rattle.laws.specs.Sizes.{square_le, at_most}
use Rattle.cov.proofs.Steps as steps
use Rattle.cov.proofs.enter.Goals as goal

pub save-requires : goal.save-requires
save-requires c = (omega arith, at_most c.requires.1.0 (square_le c.args.m c.requires.0))

pub save-requires-2 : goal.save-requires-2
save-requires-2 c = (omega arith, at_most c.requires.1.1 (square_le c.args.m c.requires.0))

pub returns : goal.returns
returns c = steps.entering _ c.begin.ensures c.requires.1.0 c.save.ensures c.requires.1.1 c.save-2.ensures
