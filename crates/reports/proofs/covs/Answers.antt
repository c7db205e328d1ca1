-- What place n says, then the search.
use mathlib.Core.Path.{ap, ◌∙◌}
use Prim.Native.Nat.{ℕ, ◌*◌}
use Rattle.definition.specs.Num.{tabulate}
use Rattle.definition.specs.Refusals.{not_finite}
use Rattle.definition.specs.Reports.{first_from}
use Rattle.laws.specs.Flat.{block_at}
use Rattle.laws.specs.Told.{off_at}
use Rattle.reports.proofs.Steps as steps
use Rattle.reports.proofs.covs.Goals as goal

pub until-requires : goal.until-requires
until-requires c = steps.cov_place_n c.requires

pub first_off-requires : goal.first_off-requires
first_off-requires c = let a = c.args in steps.cov_blocks_lem c.requires _ (not_finite (block_at (a.m * a.m) a.pred_cov.now a.n)) c.until.ensures

pub returns : goal.returns
returns c = let a = c.args in c.first_off.ensures ∙ ap (λ (u : ℕ). first_from a.done (tabulate u (off_at (a.m * a.m) a.pred_cov.now a.pred_inf.now a.filt_cov.now))) c.until.ensures
