-- Checked, entered, run, kept, told.
use mathlib.Core.Path.{refl, sym, ◌∙◌}
use native.Mathlib.Omega.{arith}
use Rattle.std.proofs.lemmas.Result.{err_from_is_err_and}
use Rattle.definition.specs.Inputs.{noise}
use Rattle.promise.specs.Lent.{model_in, offsets_in, cov_parts, mean_parts}
use Rattle.stretch.proofs.Called as called
use Rattle.stretch.proofs.stretch.Goals as goal

pub returns-in_err-refusal : goal.returns-in_err-refusal
unfolding cov_parts mean_parts
returns-in_err-refusal c =
    let a = c.args in
    let x = model_in a.x.now in
    let o = offsets_in a.o.now in
    let w = cov_parts a.pred_cov.now a.pred_inf.now a.filt_cov.now a.kinds.now a.f_star.now a.f_inf.now a.m_star.now a.m_inf.now in
    let w' = mean_parts a.pred_mean.now a.filt_mean.now a.v.now in
    let p = err_from_is_err_and c.from_residual.result c.from_residual.ensures.1 in
    rw (p.1, p.2) (called.refused x o a.y.now a.begins a.saved.now a.last w w' a.save.now (rw c.of-have.ensures at c.in_err-refusal.ensures.number))

pub enter-stands-requires : goal.enter-stands-requires
unfolding cov_parts mean_parts
enter-stands-requires c =
    let a = c.args in
    let x = model_in a.x.now in
    let o = offsets_in a.o.now in
    let w = cov_parts a.pred_cov.now a.pred_inf.now a.filt_cov.now a.kinds.now a.f_star.now a.f_inf.now a.m_star.now a.m_inf.now in
    let w' = mean_parts a.pred_mean.now a.filt_mean.now a.v.now in
    called.may_enter x o a.y.now a.begins a.saved.now a.last w w' a.save.now (rw c.of-have.ensures at c.in_ok-refusal.ensures.number) c.refusal.auto.state (c.in_ok-refusal.ensures.state refl)

pub run-e-requires : goal.run-e-requires
unfolding cov_parts mean_parts noise
run-e-requires c =
    let a = c.args in
    let x = model_in a.x.now in
    let o = offsets_in a.o.now in
    let w = cov_parts a.pred_cov.now a.pred_inf.now a.filt_cov.now a.kinds.now a.f_star.now a.f_inf.now a.m_star.now a.m_inf.now in
    let w' = mean_parts a.pred_mean.now a.filt_mean.now a.v.now in
    called.may_run x o a.y.now a.begins a.saved.now a.last w w' a.save.now (rw c.of-have.ensures at c.in_ok-refusal.ensures.number) _ c.enter-stands.result c.enter-stands.ensures (c.enter-stands.auto.state ∙ c.refusal.auto.state) (c.in_ok-refusal.ensures.noise refl)

pub overflow_add-done : goal.overflow_add-done
unfolding cov_parts mean_parts
overflow_add-done c =
    let a = c.args in
    let x = model_in a.x.now in
    let o = offsets_in a.o.now in
    let w = cov_parts a.pred_cov.now a.pred_inf.now a.filt_cov.now a.kinds.now a.f_star.now a.f_inf.now a.m_star.now a.m_inf.now in
    let w' = mean_parts a.pred_mean.now a.filt_mean.now a.v.now in
    omega (arith, called.early x o a.y.now a.begins a.saved.now a.last w w' a.save.now (rw c.of-have.ensures at c.in_ok-refusal.ensures.number) _ c.enter-stands.result c.enter-stands.ensures (c.enter-stands.auto.state ∙ c.refusal.auto.state))

pub slice_bounds-keep-end : goal.slice_bounds-keep-end
slice_bounds-keep-end c = sym (c.run-e.auto.state ∙ c.enter-stands.auto.state ∙ c.refusal.auto.state)

pub keep-requires : goal.keep-requires
unfolding cov_parts mean_parts
keep-requires c =
    let a = c.args in
    let x = model_in a.x.now in
    let o = offsets_in a.o.now in
    let w = cov_parts a.pred_cov.now a.pred_inf.now a.filt_cov.now a.kinds.now a.f_star.now a.f_inf.now a.m_star.now a.m_inf.now in
    let w' = mean_parts a.pred_mean.now a.filt_mean.now a.v.now in
    called.may_keep x o a.y.now a.begins a.saved.now a.last w w' a.save.now (rw c.of-have.ensures at c.in_ok-refusal.ensures.number) _ c.enter-stands.result c.enter-stands.ensures (c.enter-stands.auto.state ∙ c.refusal.auto.state) (c.run-e.auto.state ∙ c.enter-stands.auto.state ∙ c.refusal.auto.state)

pub returns : goal.returns
unfolding cov_parts mean_parts
returns c =
    let a = c.args in
    let x = model_in a.x.now in
    let o = offsets_in a.o.now in
    let w = cov_parts a.pred_cov.now a.pred_inf.now a.filt_cov.now a.kinds.now a.f_star.now a.f_inf.now a.m_star.now a.m_inf.now in
    let w' = mean_parts a.pred_mean.now a.filt_mean.now a.v.now in
    called.told x o a.y.now a.begins a.saved.now a.last w w' a.save.now (rw c.of-have.ensures at c.in_ok-refusal.ensures.number) _ c.enter-stands.result c.enter-stands.ensures (c.enter-stands.auto.state ∙ c.refusal.auto.state) c.run-e.ensures c.keep.ensures c.told.ensures

pub refusal-requires : goal.refusal-requires
refusal-requires c = refl
