-- The state as the definition's, of m states: the places in use of its arrays.
use Rattle.std.specs.Prelude.{ℕ, Bool, List, Float}
use Rattle.definition.specs.Cov.{Cov}
use Rattle.dense.specs.Views.{mat}
use Rattle.track.specs.declared.State.{State}

abbrev pub cov_of : ℕ → List Float → List Float → List Float → List Float → Bool → Cov
cov_of m star p∞ root unres live = record { star = mat m star; pinf = mat m p∞; root = mat m root; unres = mat m unres; live = live }

abbrev pub cov_in : ℕ → State → Cov
cov_in m s = cov_of m s.star s.p_inf s.root s.unres s.live
