-- One pair more is mirrored, then all of the column.
use native.Mathlib.Omega.{arith}
use mathlib.Core.Path.{refl}
use Rattle.dense.proofs.Laws as laws
use Rattle.dense.proofs.Pairs as pairs
use Rattle.dense.proofs.mirror_column.Goals as goal

pub loop-i-init : goal.loop-i-init
loop-i-init c = (omega arith, λ q h. h)

pub loop-i-preserved : goal.loop-i-preserved
loop-i-preserved c = (
  omega arith,
  λ q h. pairs.pair_next _ _ _ q _ _ _ c.loop-i-test.true c.requires.1 (omega (arith, c.told-p, h.kept, laws.area c.requires.0 c.requires.0)) (c.loop-i.invariant.1 q h) c.mirror.ensures refl,
)

pub returns : goal.returns
returns c = λ q h. pairs.pair_column _ _ _ _ _ (omega arith) (c.loop-i.invariant.1 q h)
