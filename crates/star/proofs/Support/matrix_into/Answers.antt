-- Each entry is that of two states of the support.
use lib.ListN.{take}
use Rattle.dense.specs.Views.{mat}
use Rattle.definition.specs.Star.{sub, sub_at}
use Rattle.star.proofs.Laws as laws
use Rattle.star.proofs.Support.matrix_into.Goals as goal

pub returns : goal.returns
unfolding sub
returns c = let s = c.args.self.now in c.matrix_into.ensures (sub_at c.args.m (take s.count s.places) (mat c.args.m c.args.a.now)) (λ i j v h k p. laws.sub_at_lem _ _ _ _ _ _ h k (cc))
