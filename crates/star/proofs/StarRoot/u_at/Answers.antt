-- Each term is a product.
use Rattle.dense.specs.Views.{vec}
use Rattle.definition.specs.Star.{u_at, u_term}
use Rattle.star.specs.Views.{cols_of}
use Rattle.star.proofs.StarRoot.u_at.Goals as goal

pub returns : goal.returns
unfolding u_at u_term
returns c = let s = c.args.self.now in c.sum.ensures (u_term s.support.count (cols_of s) (vec s.support.count c.args.z.now) c.args.l) (λ i v h p. cc)
