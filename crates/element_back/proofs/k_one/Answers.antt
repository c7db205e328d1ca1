-- Each entry is that of K1, so the whole is.
use Rattle.dense.specs.Views.{vec}
use Rattle.definition.specs.Smooth.{f_one, f_two, k_one, k_one_at}
use Rattle.element_back.proofs.k_one.Goals as goal

pub returns : goal.returns
unfolding k_one k_one_at
returns c = let a = c.args in let g = a.g.now in c.vector.ensures (k_one_at (vec a.m g.m_star.now) (vec a.m g.m_inf.now) (f_one g.f_inf) (f_two g.f g.f_inf)) (λ i v h p. cc)
