-- Each entry is that of w.
use Rattle.dense.specs.Views.{vec}
use Rattle.definition.specs.Star.{w_at}
use Rattle.star.specs.Views.{cols_of}
use Rattle.star.proofs.StarRoot.w.Goals as goal

pub returns : goal.returns
returns c = let s = c.args.self.now in c.vector.ensures (w_at s.support.count s.rank (cols_of s) (vec s.rank c.args.u.now)) (λ i v h p. cc)
