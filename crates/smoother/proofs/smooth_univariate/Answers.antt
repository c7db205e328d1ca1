-- Checked; then the filter's run, and what it ended with told the same way.
use mathlib.Core.Path.{refl}
use Rattle.std.proofs.lemmas.Result.{err_from_is_err_and}
use Rattle.definition.specs.Inputs.{noise}
use Rattle.filter.specs.Ends as ends
use Rattle.promise.specs.Lent.{model_in, offsets_in, cov_parts, mean_parts}
use Rattle.smoother.proofs.Looked as looked
use Rattle.smoother.proofs.Judged as judged
use Rattle.smoother.proofs.smooth_univariate.Goals as goal

pub returns-in_err-refusal : goal.returns-in_err-refusal
unfolding cov_parts mean_parts
returns-in_err-refusal c =
    let p = err_from_is_err_and c.from_residual.result c.from_residual.ensures.1 in
    rw (p.1, p.2) (judged.refused (judged.checked c.in_err-refusal.ensures.number (rw c.of-have.ensures at c.room-room.ensures) c.room_smoothed-both.ensures))

pub run-outcome-requires : goal.run-outcome-requires
unfolding cov_parts mean_parts noise
run-outcome-requires c = ends.begun (looked.fit (judged.past (judged.checked c.in_ok-refusal.ensures.number (rw c.of-have.ensures at c.room-room.ensures) c.room_smoothed-both.ensures))) (c.in_ok-refusal.ensures.noise refl)

pub smoothed-requires : goal.smoothed-requires
unfolding cov_parts mean_parts
smoothed-requires c =
    let a = c.args in
    let w = cov_parts a.pred_cov.now a.pred_inf.now a.filt_cov.now a.kinds.now a.f_star.now a.f_inf.now a.m_star.now a.m_inf.now in
    let w' = mean_parts a.pred_mean.now a.filt_mean.now a.v.now in
    looked.smoothed_room {w = w} {w' = w'} (judged.past (judged.checked c.in_ok-refusal.ensures.number (rw c.of-have.ensures at c.room-room.ensures) c.room_smoothed-both.ensures)) refl refl

pub back-requires : goal.back-requires
unfolding cov_parts mean_parts
back-requires c =
    let a = c.args in
    let w = cov_parts a.pred_cov.now a.pred_inf.now a.filt_cov.now a.kinds.now a.f_star.now a.f_inf.now a.m_star.now a.m_inf.now in
    let w' = mean_parts a.pred_mean.now a.filt_mean.now a.v.now in
    looked.ready {w = w} {w' = w'} (judged.past (judged.checked c.in_ok-refusal.ensures.number (rw c.of-have.ensures at c.room-room.ensures) c.room_smoothed-both.ensures)) _ _ _ _ _ c.run-outcome.auto.pred_mean c.run-outcome.auto.pred_cov c.run-outcome.auto.pred_inf c.run-outcome.auto.v c.run-outcome.auto.kinds c.run-outcome.auto.f_star c.run-outcome.auto.f_inf c.run-outcome.auto.m_star c.run-outcome.auto.m_inf refl refl

pub returns-in-Err : goal.returns-in-Err
unfolding cov_parts mean_parts
returns-in-Err c =
    let a = c.args in
    let x = model_in a.x.now in
    let o = offsets_in a.o.now in
    let w = cov_parts a.pred_cov.now a.pred_inf.now a.filt_cov.now a.kinds.now a.f_star.now a.f_inf.now a.m_star.now a.m_inf.now in
    let w' = mean_parts a.pred_mean.now a.filt_mean.now a.v.now in
    let b = cov_parts c.run-outcome.new.pred_cov c.run-outcome.new.pred_inf c.run-outcome.new.filt_cov c.run-outcome.new.kinds c.run-outcome.new.f_star c.run-outcome.new.f_inf c.run-outcome.new.m_star c.run-outcome.new.m_inf in
    let b' = mean_parts c.run-outcome.new.pred_mean c.run-outcome.new.filt_mean c.run-outcome.new.v in
    judged.silenced {x = x} {o = o} {y = a.y.now} {w = w} {w' = w'} {sm = a.sm_mean.now} {sc = a.sm_cov.now} (judged.checked c.in_ok-refusal.ensures.number (rw c.of-have.ensures at c.room-room.ensures) c.room_smoothed-both.ensures) {r = c.run-outcome.result} {b = b} {b' = b'} c.run-outcome.ensures {sm' = c.smoothed.new.sm_mean} {sc' = c.smoothed.new.sm_cov} c.in-Err.is c.smoothed.ensures

pub returns-in-Ok : goal.returns-in-Ok
unfolding cov_parts mean_parts
returns-in-Ok c =
    let a = c.args in
    let x = model_in a.x.now in
    let o = offsets_in a.o.now in
    let w = cov_parts a.pred_cov.now a.pred_inf.now a.filt_cov.now a.kinds.now a.f_star.now a.f_inf.now a.m_star.now a.m_inf.now in
    let w' = mean_parts a.pred_mean.now a.filt_mean.now a.v.now in
    let b = cov_parts c.run-outcome.new.pred_cov c.run-outcome.new.pred_inf c.run-outcome.new.filt_cov c.run-outcome.new.kinds c.run-outcome.new.f_star c.run-outcome.new.f_inf c.run-outcome.new.m_star c.run-outcome.new.m_inf in
    let b' = mean_parts c.run-outcome.new.pred_mean c.run-outcome.new.filt_mean c.run-outcome.new.v in
    judged.heard {x = x} {o = o} {y = a.y.now} {w = w} {w' = w'} {sm = a.sm_mean.now} {sc = a.sm_cov.now} (judged.checked c.in_ok-refusal.ensures.number (rw c.of-have.ensures at c.room-room.ensures) c.room_smoothed-both.ensures) {r = c.run-outcome.result} {b = b} {b' = b'} c.run-outcome.ensures {sm' = c.back.new.sm_mean} {sc' = c.back.new.sm_cov} c.in-Ok.is c.back.ensures
