-- Each term is a product.
use Rattle.definition.specs.Dense.{product_at, product_term}
use Rattle.products.proofs.entry.Goals as goal

pub returns : goal.returns
unfolding product_at product_term
returns g c =
    let a = c.args in
    c.sum.ensures (product_term a.k a.c (g.A.Seen.view a.r a.k a.a.now) (g.B.Seen.view a.k a.c a.b.now) a.i a.j) (λ l v h p. cc)
