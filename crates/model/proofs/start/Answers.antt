-- Each array as its maker leaves it.
use native.Mathlib.Omega.{arith}
use Rattle.dense.proofs.Laws.{area}
use Rattle.model.proofs.Laws.{started}
use Rattle.model.proofs.start.Goals as goal

pub fill-requires : goal.fill-requires
fill-requires c = omega (arith, area c.requires.m8 c.requires.m8)

pub returns : goal.returns
returns c = started _ _ _ _ _ c.requires c.fill.ensures c.diffuse_cov-s.ensures c.diffuse_root-s.ensures c.any_flag-s.ensures
