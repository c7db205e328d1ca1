-- The filtered matrix saved, and the state gone on.
use native.Mathlib.Omega.{arith}
use Rattle.laws.specs.Sizes.{square_le, at_most}
use Rattle.cov.proofs.Steps as steps
use Rattle.cov.proofs.leave.Goals as goal

pub save-requires : goal.save-requires
save-requires c = (omega arith, at_most c.requires.1 (square_le c.args.m c.requires.0))

pub returns : goal.returns
returns c = steps.left _ _ _ _ _ _ c.symmetrize_in_place.ensures c.symmetrize_in_place-2.ensures c.requires.1 c.save.ensures c.go_on.ensures
