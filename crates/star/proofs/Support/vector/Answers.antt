-- Each entry is that of a state of the support.
use lib.ListN.{take}
use Rattle.dense.specs.Views.{vec}
use Rattle.definition.specs.Star.{on, on_at}
use Rattle.star.proofs.Laws as laws
use Rattle.star.proofs.Support.vector.Goals as goal

pub returns : goal.returns
unfolding on
returns c = let s = c.args.self.now in c.vector.ensures (on_at (take s.count s.places) (vec c.args.m c.args.x.now)) (λ i v h p. laws.on_at_lem _ _ _ _ _ h (cc))
