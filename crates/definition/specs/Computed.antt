-- For theorems by computation: every definition of this crate opened at once (such a theorem says `unfolding opened`), and rows of numbers compared.
use Rattle.std.specs.Prelude.{ℕ, Bool, true, false, ◌&&◌, List, [], ◌∷◌, map, eqb, pos, Float}
use Rattle.definition.specs.Num
use Rattle.definition.specs.Run
use Rattle.definition.specs.Dense
use Rattle.definition.specs.Root
use Rattle.definition.specs.Log
use Rattle.definition.specs.Star
use Rattle.definition.specs.Cov
use Rattle.definition.specs.Mean
use Rattle.definition.specs.Smooth
use Rattle.definition.specs.Inputs
use Rattle.definition.specs.Refusals
use Rattle.definition.specs.Reports
use Rattle.definition.specs.Parts
use Rattle.definition.specs.Outcome
use Rattle.std.specs.Float.{binary64}
use Rattle.std.specs.Float.Ieee.{add, sub, mul, div, neg, lt, le, eq, ne, of_int, of_bits, to_bits, size, round, units}

-- a whole number, and doubles by their bits
abbrev pub num : ℕ → Float
num k = of_int binary64 (pos k)

abbrev pub bits : List Float → List ℕ
bits a = map (to_bits binary64) a

-- rows of what was worked out and what it should be
abbrev pub same : List ℕ → List ℕ → Bool
same [] [] = true
same [] (b ∷ bs) = false
same (a ∷ ls) [] = false
same (a ∷ ls) (b ∷ bs) = eqb a b && same ls bs

abbrev pub hold : List (List ℕ × List ℕ) → Bool
hold [] = true
hold (r ∷ rs) = same r.0 r.1 && hold rs

-- ---- opened, file by file

unfoldable ieee : Unit {0}
unfolding add sub mul div neg lt le eq ne of_int of_bits to_bits size round units
ieee = tt

unfoldable of_num : Unit {0}
unfolding Num.is_finite Num.is_infinite Num.abs_of Num.max0 Num.tab_from Num.sum_to Num.sum_but Num.sum_from
of_num = tt

unfoldable of_run : Unit {0}
unfolding Run.scan Run.scan_back Run.fold_back Run.pairs Run.chunks Run.join Run.count Run.any_of Run.any_to
of_run = tt

unfoldable of_dense : Unit {0}
unfolding Dense.dot_at Dense.dot Dense.axpy_at Dense.axpy Dense.over_at Dense.over Dense.scaled_at Dense.scaled Dense.row_at Dense.row Dense.zero_at Dense.mat_vec_term Dense.mat_vec_at Dense.mat_vec Dense.mat_tVec_term Dense.mat_tVec_at Dense.mat_tVec Dense.less_of Dense.outer_sub_at Dense.outer_sub Dense.outer_scaled_at Dense.outer_scaled Dense.product_term Dense.product_at Dense.product Dense.transpose_at Dense.transpose Dense.sandwich Dense.quad Dense.plus_at Dense.plus Dense.minus_at Dense.minus Dense.sym_at Dense.symmetrise Dense.sq_term Dense.sq_to Dense.frob_sq Dense.abs_term Dense.abs_column Dense.abs_to Dense.abs_quad_form
of_dense = tt

unfoldable of_root : Unit {0}
unfolding Root.cut_root Root.isqrt Root.smallests_in Root.root_of Root.sqrt_in
of_root = tt

unfoldable of_log : Unit {0}
unfolding Log.coefficient Log.series Log.log_of Log.reduced Log.log_count Log.ln_of Log.ln_two_pi
of_log = tt

unfoldable of_star : Unit {0}
unfolding Star.better Star.pivot_to Star.column_at Star.column Star.left_at Star.left_of Star.grown Star.grow Star.grow_to Star.seed Star.pivoted_root Star.loads Star.support_to Star.on_at Star.on Star.sub_at Star.sub Star.u_term Star.u_at Star.u_of Star.f_of Star.projected Star.w_term Star.w_at Star.w_of Star.shrunk_at Star.shrunk Star.downdate Star.replay Star.again_on Star.again_of
of_star = tt

unfoldable of_cov : Unit {0}
unfolding Cov.sd_at Cov.sd_of Cov.f_star_by Cov.f_inf_by Cov.diffuse_test Cov.scaled_test Cov.bound_term Cov.bound Cov.against Cov.dust Cov.by_dust Cov.usually Cov.diffusely Cov.judge Cov.k1_at Cov.k1_of Cov.root_less Cov.apply Cov.candidate Cov.verdict Cov.element_of Cov.is_live Cov.entered Cov.step_star Cov.step_inf Cov.stepped Cov.ended Cov.period_of Cov.cov_run
of_cov = tt

unfoldable of_mean : Unit {0}
unfolding Mean.innovation Mean.v_of Mean.usual_term Mean.diffuse_term Mean.heed Mean.hear Mean.mean_step Mean.mean_ended Mean.mean_period_of Mean.mean_run
of_mean = tt

unfoldable of_smooth : Unit {0}
unfolding Smooth.l_zero_at Smooth.l_zero Smooth.l_one_at Smooth.l_one Smooth.f_one Smooth.f_two Smooth.k_one_at Smooth.k_one Smooth.l_usual Smooth.l_diffuse Smooth.usual_n0 Smooth.diffuse_n1 Smooth.diffuse_n2 Smooth.back_n Smooth.usual_r Smooth.diffuse_r Smooth.back_r Smooth.back_element Smooth.elements_n Smooth.back_mean_element Smooth.elements_r Smooth.between Smooth.diffuse_v Smooth.back_v Smooth.back_a Smooth.step_ns Smooth.step_rs Smooth.back_cov_of Smooth.back_mean_of Smooth.no_ns Smooth.no_rs Smooth.smooth_cov Smooth.smooth_mean
of_smooth = tt

unfoldable of_inputs : Unit {0}
unfolding Inputs.class_of Inputs.gap_rows Inputs.part_from Inputs.noise_of Inputs.noise Inputs.system_from Inputs.frame_from Inputs.system_of Inputs.frame_of Inputs.flags_before Inputs.start_inf_at Inputs.start_inf Inputs.start_root_at Inputs.start_root Inputs.start_from Inputs.start_of
of_inputs = tt

unfoldable of_refusals : Unit {0}
unfolding Refusals.outside Refusals.part_fits Refusals.inputs_fit Refusals.bad_length Refusals.outrun Refusals.list_short Refusals.bad_system Refusals.bad_start Refusals.negative_at Refusals.negative Refusals.not_psd Refusals.off_at Refusals.off_row Refusals.off_diagonal Refusals.shape_at Refusals.shape_row Refusals.shape_of Refusals.start_shape Refusals.driven_at Refusals.driven_row Refusals.mixed_driven Refusals.first_of Refusals.tests Refusals.refusal
of_refusals = tt

unfoldable of_reports : Unit {0}
unfolding Reports.first_from Reports.cov_is_off Reports.mean_is_off Reports.cov_report Reports.mean_report Reports.told_before
of_reports = tt

unfoldable of_parts : Unit {0}
unfolding Parts.kind_block Parts.cov_block Parts.mean_block
of_parts = tt

unfoldable of_outcome : Unit {0}
unfolding Outcome.kinds_need Outcome.cov_need Outcome.mean_need Outcome.smoothed_cov_need Outcome.smoothed_mean_need Outcome.roomy Outcome.roomy_smoothed Outcome.kinds_written Outcome.cov_written Outcome.mean_written Outcome.cov_of Outcome.mean_of Outcome.counts_of Outcome.no_information Outcome.ending_of Outcome.number_of Outcome.after Outcome.counts_in Outcome.loglik_in Outcome.report_in Outcome.ending Outcome.cov_outcome Outcome.mean_outcome Outcome.outcome_at Outcome.outcome Outcome.smoothed_cov Outcome.smoothed_mean Outcome.smooth_outcome_at Outcome.smooth_outcome
of_outcome = tt

unfoldable pub opened : Unit {0}
unfolding ieee of_num of_run of_dense of_root of_log of_star of_cov of_mean of_smooth of_inputs of_refusals of_reports of_parts of_outcome
opened = tt
