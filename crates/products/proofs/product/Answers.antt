-- Each entry is that of the product; and a look through it.
use Rattle.definition.specs.Dense.{product_at, product}
use Rattle.dense.specs.Told.{told}
use Rattle.products.proofs.product.Goals as goal

pub returns : goal.returns
unfolding product
returns g c =
    let a = c.args in
    told
    (c.matrix_into.ensures (product_at a.k a.c (g.A.Seen.view a.r a.k a.a.now) (g.B.Seen.view a.k a.c a.b.now)) (λ i j v h k p. cc))
    c.rect_not_finite.ensures
