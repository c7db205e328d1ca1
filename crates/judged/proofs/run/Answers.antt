-- The run, and refusal 12.
use mathlib.Core.Path.{sym, ◌∙◌}
use Rattle.promise.specs.Lent.{model_in, offsets_in, cov_parts, mean_parts}
use Rattle.judged.specs.Blanked as blanked
use Rattle.judged.specs.Went as went
use Rattle.judged.proofs.run.Goals as goal

pub run-end-requires : goal.run-end-requires
run-end-requires c = c.requires

pub filtered-requires : goal.filtered-requires
unfolding cov_parts mean_parts
filtered-requires c = blanked.rooms c.requires c.run-end.auto.pred_mean c.run-end.auto.pred_cov c.run-end.auto.pred_inf c.run-end.auto.filt_mean c.run-end.auto.filt_cov c.run-end.auto.kinds c.run-end.auto.v c.run-end.auto.f_star c.run-end.auto.f_inf c.run-end.auto.m_star c.run-end.auto.m_inf

pub returns-then-is_silent : goal.returns-then-is_silent
unfolding cov_parts mean_parts
returns-then-is_silent c =
    let a = c.args in
    let b = c.filtered.ensures in
    went.silenced {x = model_in a.x.now} {o = offsets_in a.o.now} {y = a.y.now} {s = a.state.now} {w = cov_parts a.pred_cov.now a.pred_inf.now a.filt_cov.now a.kinds.now a.f_star.now a.f_inf.now a.m_star.now a.m_inf.now} {w' = mean_parts a.pred_mean.now a.filt_mean.now a.v.now} a.last c.run-end.ensures (sym c.is_silent.ensures ∙ c.if-is_silent.true) (blanked.blanked (model_in a.x.now) b.1 b.2 b.0)

pub returns : goal.returns
unfolding cov_parts mean_parts
returns c =
    let a = c.args in
    went.heard {x = model_in a.x.now} {o = offsets_in a.o.now} {y = a.y.now} {s = a.state.now} {w = cov_parts a.pred_cov.now a.pred_inf.now a.filt_cov.now a.kinds.now a.f_star.now a.f_inf.now a.m_star.now a.m_inf.now} {w' = mean_parts a.pred_mean.now a.filt_mean.now a.v.now} a.last c.run-end.ensures (sym c.is_silent.ensures ∙ c.if-is_silent.false)
