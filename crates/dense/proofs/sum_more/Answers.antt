-- One term more, then all of them.
use native.Mathlib.Omega.{arith}
use Rattle.dense.proofs.Laws as laws
use Rattle.dense.proofs.sum_more.Goals as goal

pub loop-i-init : goal.loop-i-init
loop-i-init g c = (omega arith, λ f h. laws.from_none _ _)

pub loop-i-preserved : goal.loop-i-preserved
loop-i-preserved g c = (omega arith, λ f h. laws.from_next _ _ _ _ _ (c.loop-i.invariant.1 f h) (h _ _ c.loop-i-test.true c.term-s.ensures))

pub returns : goal.returns
returns g c = λ f h. laws.from_end _ _ (c.loop-i.invariant.1 f h) c.loop-i.invariant.0 c.loop-i-test.false
