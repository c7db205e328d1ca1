-- The covariance pass, the counts, what ran off; the mean pass, what ran off.
use native.Mathlib.Omega.{arith}
use Rattle.promise.specs.Lent.{model_in, offsets_in, cov_parts, mean_parts}
use Rattle.forward.proofs.Ran as ran
use Rattle.forward.proofs.run.Goals as goal

pub cov_pass-ended-requires : goal.cov_pass-ended-requires
unfolding cov_parts
cov_pass-ended-requires c = (c.requires.state, ran.cov_ready c.requires, ran.cov_rooms c.requires)

pub heard-heard-requires : goal.heard-heard-requires
heard-heard-requires c = ran.few c.requires

pub overflow_mul-x : goal.overflow_mul-x
overflow_mul-x c = omega (arith, ran.few_records c.requires)

pub news-news-requires : goal.news-news-requires
unfolding cov_parts
news-news-requires c = (ran.few_records c.requires, ran.records c.requires c.cov_pass-ended.auto.kinds)

pub covs-cov_off-requires : goal.covs-cov_off-requires
unfolding cov_parts
covs-cov_off-requires c =
    let a = c.args in
    ran.cov_looks c.requires _ _ _ _ (ran.few_diffuse (model_in a.x.now) (offsets_in a.o.now) a.y.now a.rqr.now a.state.now _ a.state.now a.t.live a.t.done a.t.answer _ a.x.now.n a.x.now.n a.x.now.n a.x.now.n a.t.answer a.t.answer a.pred_mean.now a.pred_mean.now a.filt_mean.now a.filt_mean.now a.v.now a.v.now _ _ _ _ _ _ _ _ _ _ _ _ _ _ _ _ c.requires c.cov_pass-ended.ensures) c.cov_pass-ended.auto.pred_cov c.cov_pass-ended.auto.pred_inf c.cov_pass-ended.auto.filt_cov

pub counted-requires : goal.counted-requires
unfolding cov_parts
counted-requires c =
    let a = c.args in
    ran.few_counts (model_in a.x.now) (offsets_in a.o.now) a.y.now a.rqr.now a.state.now _ a.state.now a.t.live a.t.done a.t.answer _ _ _ a.x.now.n a.x.now.n a.t.answer a.t.answer a.pred_mean.now a.pred_mean.now a.filt_mean.now a.filt_mean.now a.v.now a.v.now _ _ _ _ _ _ _ _ _ _ _ _ _ _ _ _ c.requires c.cov_pass-ended.ensures c.heard-heard.ensures c.news-news.ensures (ran.records c.requires c.cov_pass-ended.auto.kinds)

pub mean_pass-answer-requires : goal.mean_pass-answer-requires
unfolding cov_parts mean_parts
mean_pass-answer-requires c = (ran.state_again c.requires c.cov_pass-ended.auto.state, ran.mean_ready c.requires _ _ _ _ _ c.cov_pass-ended.auto.kinds c.cov_pass-ended.auto.f_star c.cov_pass-ended.auto.f_inf c.cov_pass-ended.auto.m_star c.cov_pass-ended.auto.m_inf, ran.mean_rooms c.requires)

pub means-mean_off-requires : goal.means-mean_off-requires
unfolding mean_parts
means-mean_off-requires c = ran.mean_looks_lem c.requires _ _ c.mean_pass-answer.auto.pred_mean c.mean_pass-answer.auto.filt_mean

pub returns : goal.returns
returns c =
    let a = c.args in
    ran.ran (model_in a.x.now) (offsets_in a.o.now) a.y.now a.rqr.now a.state.now _ _ a.t.live a.t.done a.t.answer _ _ _ _ _ _ _ _ _ _ _ _ _ _ _ _ _ _ _ _ _ _ _ _ _ _ _ _ _ _ c.requires c.cov_pass-ended.ensures c.heard-heard.ensures c.news-news.ensures c.covs-cov_off.ensures c.counted.ensures c.mean_pass-answer.ensures c.means-mean_off.ensures c.reported.ensures
