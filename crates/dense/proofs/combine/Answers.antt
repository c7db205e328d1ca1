-- A place not yet written is as it was.
use native.Mathlib.Omega.{arith}
use mathlib.Core.Path.{refl, ap, ◌∙◌}
use lib.ListN.{set}
use Rattle.dense.proofs.Laws as laws
use Rattle.dense.proofs.combine.Goals as goal

pub loop-k-init : goal.loop-k-init
loop-k-init g c = (omega arith, λ f h. laws.row_none _ _ _ _ refl)

pub loop-k-preserved : goal.loop-k-preserved
loop-k-preserved g c = (omega arith, λ f h. ap (set c.loop-k.p c.loop-k.k) (h _ _ _ c.of.ensures) ∙ laws.both_next f _ _ _ _ (c.loop-k.invariant.1 f h))

pub returns : goal.returns
unfolding laws.both
returns g c = λ f h. laws.both-vec f _ _ _ _ (omega (arith, c.told-p, c.requires.room)) (laws.row_end _ _ _ (c.loop-k.invariant.1 f h) c.loop-k.invariant.0 c.loop-k-test.false)
