-- Each entry moves by v times its entry of the gain, so the whole does.
use Rattle.definition.specs.Dense.{axpy, axpy_at, over}
use Rattle.dense.specs.Views.{vec}
use Rattle.mean.proofs.Laws as laws
use Rattle.mean.proofs.move_by.Goals as goal

pub returns : goal.returns
unfolding axpy
returns c =
    let a = c.args in
    c.vector-moved.ensures (axpy_at (vec a.m a.a.now) a.v (over a.m a.gain.now a.f)) (λ i x h p. laws.moved a.v a.f a.m a.a.now a.gain.now i h cc)
