-- Each entry is that of u.
use Rattle.dense.specs.Views.{vec}
use Rattle.definition.specs.Star.{u_at}
use Rattle.star.specs.Views.{cols_of}
use Rattle.star.proofs.StarRoot.u.Goals as goal

pub returns : goal.returns
returns c = let s = c.args.self.now in c.vector.ensures (u_at s.support.count (cols_of s) (vec s.support.count c.args.z.now)) (λ i v h p. cc)
