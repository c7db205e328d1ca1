-- A verdict's values as the definition's, and what each test finds.
use Rattle.std.specs.Prelude.{ℕ, ◌≡◌, Bool, true, false, cond, List, [], Float, Option, None, Some, Result, Ok, Err}
use Rattle.std.specs.Borrow.{Bor}
use Rattle.definition.specs.Num.{◌>ᶠ◌, ◌⊗◌, cancel_tol}
use Rattle.definition.specs.Cov as cov
use Rattle.definition.specs.Cov.{Decision, skipped, usual, diffuse, by_dust, usually, diffusely}
use Rattle.promise.specs.declared.Cause.{Cause}
use Rattle.promise.specs.Records.{cause_in}
use Rattle.dense.specs.Views.{vec, mat}
use Rattle.track.specs.declared.State.{State}
use Rattle.acceptance.specs.declared.Candidate.{Candidate}
use Rattle.acceptance.specs.declared.Dust.{Dust}
use Rattle.acceptance.specs.declared.Dust.TheVariants.{Clear, Below, Suspect}
use Rattle.acceptance.specs.declared.Finding.{Finding}
use Rattle.acceptance.specs.declared.Finding.TheVariants as finding

-- the standard deviations, and whether there are none yet
abbrev pub sd_in : ℕ → Option (Bor (List Float)) → List Float
sd_in m None = []
sd_in m (Some sd) = vec m sd.now

abbrev pub fresh_in : Option (Bor (List Float)) → Bool
fresh_in None = true
fresh_in (Some sd) = false

unfoldable pub dust_of : Dust → cov.Dust
dust_of Clear = cov.clear
dust_of Below = cov.below
dust_of (Suspect r) = cov.suspect r

-- a finding as a decision: F by the star root, F*, and the arrays of M* and M∞ at hand
unfoldable pub decision_by : ℕ → Float → Float → Finding → List Float → List Float → Decision
decision_by m again f (finding.Nothing c) a b = skipped (cause_in c)
decision_by m again f finding.Usual a b = usual f (vec m a)
decision_by m again f (finding.Diffuse g) a b = diffuse f g (vec m a) (vec m b)
decision_by m again f (finding.Doubtful r) a b =
    cond (again >ᶠ cancel_tol ⊗ r) (usual f (vec m a)) (skipped cov.failedReplay)

-- What each test finds, in two parts. `finds`: as a decision, whatever F by the star root is, it is the definition's.
-- `doubts`: an element is doubtful only in a period that is not diffuse, and after an update.

-- by the dust test
pub record ByDust (live : Bool) (d : Dust) (r : Finding) : Type 0 where
  pub finds : (m : ℕ) (again f : Float) (a b : List Float)
      → decision_by m again f r a b ≡ by_dust live again f (vec m a) (dust_of d)
  pub doubts : (x : Float) → r ≡ finding.Doubtful x → (live ≡ false) × (dust_of d ≡ cov.suspect x)

-- an element as the definition judges it
abbrev pub judged_as : Candidate → Bool → Float → List Float → List Float → List Float → List Float → cov.Candidate
judged_as e live again star pinf root unres =
    record {
      z = vec e.m e.z.now;
      h = e.h;
      live = live;
      pre = mat e.m e.pre.now;
      sd = sd_in e.m e.sd;
      unres = unres;
      fresh = fresh_in e.sd;
      again = again;
      star = star;
      pinf = pinf;
      root = root;
    }

abbrev pub judged_in : Candidate → State → Float → cov.Candidate
judged_in e s again = judged_as e s.live again (mat e.m s.star) (mat e.m s.p_inf) (mat e.m s.root) (mat e.m s.unres)

-- by usual acceptance, which asks nothing of P∞
pub record Usually (e : Candidate) (live : Bool) (star : List Float) (f : Float) (r : Finding) : Type 0 where
  pub finds : (again : Float) (pinf root unres a b : List Float)
      → decision_by e.m again f r a b ≡ usually e.m (judged_as e live again (mat e.m star) pinf root unres) f (vec e.m a)
  pub doubts : (x : Float) → r ≡ finding.Doubtful x → (live ≡ false) × (fresh_in e.sd ≡ false)

-- the definition's verdict, F* and M* at hand
unfoldable pub judged_by : ℕ → cov.Candidate → Float → List Float → Decision
judged_by m e f m* = cond e.live (diffusely m e f m*) (usually m e f m*)

pub record Judged (e : Candidate) (s : State) (f : Float) (b : List Float) (r : Finding) : Type 0 where
  pub finds : (again : Float) (a : List Float) → decision_by e.m again f r a b ≡ judged_by e.m (judged_in e s again) f (vec e.m a)
  pub doubts : (x : Float) → r ≡ finding.Doubtful x → (s.live ≡ false) × (fresh_in e.sd ≡ false)

-- ---- in a period that is not diffuse, F by the star root at hand

-- what is found as a decision, F* and M* at hand
unfoldable pub decision_on : Float → List Float → Result (Unit {0}) Cause → Decision
decision_on f m* (Ok _) = usual f m*
decision_on f m* (Err c) = skipped (cause_in c)

-- by the dust test
pub record DustBy (again : Float) (d : Dust) (r : Result (Unit {0}) Cause) : Type 0 where
  pub finds : (f : Float) (m* : List Float) → decision_on f m* r ≡ by_dust false again f m* (dust_of d)

-- by usual acceptance
pub record UsualBy (e : Candidate) (again : Float) (star : List Float) (f : Float) (r : Result (Unit {0}) Cause) : Type 0 where
  pub finds : (pinf root unres m* : List Float)
      → decision_on f m* r ≡ usually e.m (judged_as e false again (mat e.m star) pinf root unres) f m*
