-- The run from the start: no state is carried.
use mathlib.Core.Path.{refl}
use Rattle.promise.specs.Lent.{model_in, offsets_in, cov_parts, mean_parts}
use Rattle.filter.proofs.Judged as judged
use Rattle.filter.proofs.run.Goals as goal

pub run-requires : goal.run-requires
run-requires c = c.requires

pub returns : goal.returns
unfolding cov_parts mean_parts
returns c =
    let a = c.args in
    judged.run_told {x = model_in a.x.now} {o = offsets_in a.o.now} {y = a.y.now} {w = cov_parts a.pred_cov.now a.pred_inf.now a.filt_cov.now a.kinds.now a.f_star.now a.f_inf.now a.m_star.now a.m_inf.now} {w' = mean_parts a.pred_mean.now a.filt_mean.now a.v.now} refl c.run.ensures c.told.ensures
