-- The column, scaled, and its outer product with itself.
use Rattle.model.proofs.Disturbances.{more}
use Rattle.model.proofs.noise.add_disturbance.Goals as goal

pub returns : goal.returns
returns c =
    let a = c.args in
    more a.m a.r a.l a.rr.now _ _ a.out.now _ a.q c.requires.m8 c.column-a.ensures c.axpy.ensures.result c.outer_add.ensures
