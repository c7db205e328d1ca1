-- Whether the test holds of an entry passed; after the last, of any.
use mathlib.Core.Path.{ap, ◌∙◌}
use Rattle.laws.specs.Any as any
use Rattle.dense.proofs.any_of.Goals as goal

pub loop-v-init : goal.loop-v-init
loop-v-init g c = λ q h. any.of_none q c.args.s.now

pub loop-v-preserved : goal.loop-v-preserved
loop-v-preserved g c =
    let w = c.loop-v in
    λ q h. any.of_next q c.args.s.now w.v-index c.v-item.result w.found _ c.loop-v-test.true (w.invariant q h) (h _ _ c.test-found.ensures ∙ ap q c.v-item.is)

pub returns : goal.returns
returns g c = let w = c.loop-v in λ q h. any.of_end q c.args.s.now {k = w.v-index} (w.invariant q h) w.auto.v-index-end c.loop-v-test.false
