-- Each term is a product.
use Rattle.dense.specs.Views.{vec}
use Rattle.definition.specs.Star.{w_at, w_term}
use Rattle.star.specs.Views.{cols_of}
use Rattle.star.proofs.StarRoot.w_at.Goals as goal

pub returns : goal.returns
unfolding w_at w_term
returns c = let s = c.args.self.now in c.sum.ensures (w_term s.support.count (cols_of s) (vec s.rank c.args.u.now) c.args.a) (λ i v h p. cc)
