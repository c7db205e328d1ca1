-- Each entry is that of K1, so the whole is.
use Rattle.dense.specs.Views.{vec}
use Rattle.definition.specs.Cov.{k1_of, k1_at}
use Rattle.element.proofs.k1.Goals as goal

pub returns : goal.returns
unfolding k1_of k1_at
returns c = let a = c.args in c.vector.ensures (k1_at (vec a.m a.m_star.now) (vec a.m a.k0.now) a.f a.f_inf) (λ i v h p. cc)
