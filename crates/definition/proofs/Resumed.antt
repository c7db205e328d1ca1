-- A run in stretches: two periods' report is that of the first, and then of the second.
use Rattle.std.specs.Prelude.{◌≡◌, ℕ, suc, [], ◌∷◌}
use Rattle.std.proofs.Common.{sym, ap, ◌∙◌, add-one}
use Rattle.definition.specs.Run.{scan, chunks}
use Rattle.definition.specs.Cov.{period, cov_run}
use Rattle.definition.specs.Inputs.{Model, Class, is_gap, noise, system_of, gap_rows}
use Rattle.definition.specs.Reports.{first_from, cov_is_off, cov_report, told_before}
use Rattle.definition.specs.Carried.{Past, cov_from, past_on}
use Rattle.definition.specs.Resumed.{lone, two_told}

pub two_reports : (x : Model) (s : Past) (k l : Class) → (past_on (lone 2 x) s (k ∷ l ∷ [])).cov_off ≡ (past_on (lone 1 x) (past_on (lone 1 x) s (k ∷ [])) (l ∷ [])).cov_off
unfolding past_on cov_from cov_run gap_rows system_of noise chunks scan cov_report
two_reports x s k l =
    let y = system_of (lone 1 x) in
    let a = period y s.done s.cov (is_gap k ∷ []) in
    let then_at : ℕ → ℕ = λ t. told_before (told_before s.cov_off (first_from s.done (cov_is_off a.0 ∷ []))) (first_from t (cov_is_off (period y t a.1 (is_gap l ∷ [])).0 ∷ [])) in
    two_told s.cov_off s.done (cov_is_off a.0) (cov_is_off (period y (suc s.done) a.1 (is_gap l ∷ [])).0) ∙ ap then_at (sym (add-one s.done))
