-- Checked, then run.
use mathlib.Core.Path.{refl}
use Rattle.std.proofs.lemmas.Result.{err_from_is_err_and}
use Rattle.definition.specs.Inputs.{noise}
use Rattle.promise.specs.Lent.{model_in, offsets_in, cov_parts, mean_parts}
use Rattle.filter.proofs.Judged as judged
use Rattle.filter.proofs.filter_univariate.Goals as goal

pub returns-in_err-refusal : goal.returns-in_err-refusal
unfolding cov_parts mean_parts
returns-in_err-refusal c =
    let p = err_from_is_err_and c.from_residual.result c.from_residual.ensures.1 in
    rw (p.1, p.2) (judged.refused (judged.checked c.in_err-refusal.ensures.number (rw c.of-have.ensures at c.room-room.ensures)))

pub run-requires : goal.run-requires
unfolding cov_parts mean_parts noise
run-requires c = judged.fit_begun {y = c.args.y.now} (judged.checked c.in_ok-refusal.ensures.number (rw c.of-have.ensures at c.room-room.ensures)) (c.in_ok-refusal.ensures.noise refl)

pub returns : goal.returns
unfolding cov_parts mean_parts
returns c =
    let a = c.args in
    judged.told {x = model_in a.x.now} {o = offsets_in a.o.now} {y = a.y.now} {w = cov_parts a.pred_cov.now a.pred_inf.now a.filt_cov.now a.kinds.now a.f_star.now a.f_inf.now a.m_star.now a.m_inf.now} {w' = mean_parts a.pred_mean.now a.filt_mean.now a.v.now} (judged.checked c.in_ok-refusal.ensures.number (rw c.of-have.ensures at c.room-room.ensures)) c.run.ensures
