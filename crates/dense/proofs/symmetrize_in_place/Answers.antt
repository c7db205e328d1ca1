-- One column more is mirrored, then all of them.
use native.Mathlib.Omega.{arith}
use Rattle.dense.proofs.Laws as laws
use Rattle.dense.proofs.Pairs as pairs
use Rattle.dense.proofs.symmetrize_in_place.Goals as goal

pub loop-j-init : goal.loop-j-init
loop-j-init c = (omega arith, pairs.pair_start _ _)

pub loop-j-preserved : goal.loop-j-preserved
loop-j-preserved c = (omega arith, c.mirror_column.ensures _ c.loop-j.invariant.1)

pub returns : goal.returns
returns c =
    pairs.pair_all _ _ _ _ c.loop-j-test.false (omega (arith, c.told-p, laws.area c.requires c.requires)) c.loop-j.invariant.1
