-- The records are saved from arrays of 8 elements.
use native.Mathlib.Omega.{arith}
use Rattle.laws.specs.Sizes.{at_most}
use Rattle.dense.proofs.Laws.{area}
use Rattle.cov.proofs.Steps as steps
use Rattle.cov.proofs.absorb.Goals as goal

pub fill-requires : goal.fill-requires
fill-requires c = (omega arith, at_most c.requires.0.designed (area c.requires.0.p8 c.requires.0.m8))

pub returns-clause-absorbed : goal.returns-clause-absorbed
returns-clause-absorbed c = steps.absorbed _ _ _ _ _ _ _ _ _ c.requires.0.designed c.fill.ensures c.elements.ensures.ran c.requires.1 c.save.ensures c.save-2.ensures c.save-3.ensures c.save-4.ensures c.save-5.ensures
