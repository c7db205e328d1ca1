-- Each entry is a product, so the whole is.
use Rattle.definition.specs.Dense.{scaled, scaled_at}
use Rattle.dense.specs.Views.{vec}
use Rattle.dense.proofs.scaled.Goals as goal

pub returns : goal.returns
unfolding scaled scaled_at
returns c = c.vector.ensures (scaled_at (vec c.args.m c.args.x.now) c.args.s) (λ i v h p. cc)
