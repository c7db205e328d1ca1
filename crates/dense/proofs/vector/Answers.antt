-- One entry more, then all of them.
use native.Mathlib.Omega.{arith}
use mathlib.Core.Path.{refl}
use Rattle.dense.proofs.Laws as laws
use Rattle.dense.proofs.vector.Goals as goal

pub loop-i-init : goal.loop-i-init
loop-i-init g c = (omega arith, refl, λ f h. laws.row_none _ _ _ _ refl)

pub loop-i-preserved : goal.loop-i-preserved
loop-i-preserved g c = (omega arith, refl, λ f h. laws.vec_next _ _ _ _ _ (c.loop-i.invariant.2 f h) (h _ _ c.loop-i-test.true c.entry.ensures))

pub returns : goal.returns
returns g c = λ f h. laws.vec-row _ _ _ _ (omega arith) (laws.row_end _ _ _ (c.loop-i.invariant.2 f h) c.loop-i.invariant.0 c.loop-i-test.false)
