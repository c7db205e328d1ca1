-- Whether the test holds at a place passed; after the last, at any.
use native.Mathlib.Omega.{arith}
use Rattle.laws.specs.Any as any
use Rattle.dense.proofs.any.Goals as goal

pub loop-i-init : goal.loop-i-init
loop-i-init g c = (omega arith, λ q h. any.any_none q)

pub loop-i-preserved : goal.loop-i-preserved
loop-i-preserved g c = let w = c.loop-i in (omega arith, λ q h. any.any_next q _ _ _ (w.invariant.1 q h) (h _ _ c.loop-i-test.true c.test-found.ensures))

pub returns : goal.returns
returns g c = let w = c.loop-i in λ q h. any.any_end q (w.invariant.1 q h) w.invariant.0 c.loop-i-test.false
