-- The covariance track of the exact diffuse filter: Durbin and Koopman, 5.2 (exact diffuse start) and 6.4 (element by element), as
-- `filter_univariate` takes the steps, with document 01's tests ("One period forward"). Of the readings it sees which are gaps, and it sees no
-- mean and no intercept. The Rust works out v and the mean in between; they reach nothing here, so the order of these operations and their
-- operands are the Rust's, bit for bit.
use Rattle.std.specs.Prelude.{ℕ, ◌*◌, Bool, true, false, ◌&&◌, ◌||◌, cond, List, [], ◌∷◌, ◌++◌, Float}
use Rattle.std.specs.Float.Ieee.{neg}
use Rattle.definition.specs.Num.{◌⊕◌, ◌⊗◌, ◌⊘◌, ◌>ᶠ◌, ◌≤ᶠ◌, rank_tol, cancel_tol, suspect_tol, abs_of, max0, tabulate, zeros, at, ent, sum_to}
use Rattle.definition.specs.Dense.{dot, over, mat_vec, mat_tVec, outer_sub, mul, plus, sandwich, symmetrise, frob_sq, abs_quad_form, row}
use Rattle.definition.specs.Root.{sqrt_of}
use Rattle.definition.specs.Star.{again_of}
use Rattle.definition.specs.Run.{scan}

-- what the covariances go by. A design is p by m, H is p by p, all else m by m.
pub record System : Type 0 where
  pub p : ℕ
  pub m : ℕ
  pub design_at : ℕ → List Float
  pub transition_at : ℕ → List Float
  pub h : List Float
  pub rqr : List Float

-- the state between periods: P*, P∞, the root B of P∞, P∞ with nothing resolved, and whether the diffuse state still lasts
pub record Cov : Type 0 where
  pub star : List Float
  pub pinf : List Float
  pub root : List Float
  pub unres : List Float
  pub live : Bool

-- what stays the same through a period
pub record Fixed : Type 0 where
  pub diffuse : Bool
  pub z : List Float
  pub pre : List Float
  pub unres : List Float

-- the state between the elements of a period: P*, P∞, B, and the elements taken so far
pub record Inner : Type 0 where
  pub star : List Float
  pub pinf : List Float
  pub root : List Float
  pub taken : List ℕ

-- why an element is passed over: its reading is a gap; F* is too small against its scale, or below the dust line; or the replay failed it
pub data Cause : Type 0 where
  atGap tooSmall belowDust failedReplay : Cause

-- what becomes of an element: passed over, with the cause; or taken, with F*, F∞, M* and M∞
pub data Decision : Type 0 where
  skipped : Cause → Decision
  usual : Float → List Float → Decision
  diffuse : Float → Float → List Float → List Float → Decision

-- the dust test's verdict
pub data Dust : Type 0 where
  clear below : Dust
  suspect : Float → Dust

-- what a period leaves
pub record CovPeriod : Type 0 where
  pub diffuse : Bool
  pub pred : List Float
  pub pred_inf : List Float
  pub decisions : List Decision
  pub filt : List Float

abbrev pub none_yet : List ℕ → Bool
none_yet [] = true
none_yet (i ∷ is) = false

-- the standard deviations of the predicted P*
unfoldable pub sd_at : ℕ → List Float → ℕ → Float
sd_at m pre j = sqrt_of (max0 (ent m pre j j))

unfoldable pub sd_of : ℕ → List Float → List Float
sd_of m pre = tabulate m (sd_at m pre)

-- F* = z' M* + h, F∞ = z' M∞
unfoldable pub f_star_by : ℕ → List Float → Float → List Float → Float
f_star_by m z h m* = max0 (dot m z m* ⊕ h)

unfoldable pub f_inf_by : ℕ → List Float → List Float → Float
f_inf_by m z m∞ = max0 (dot m z m∞)

-- the three tests: diffuse acceptance, F* against its scale, F* against the period's predicted P*
unfoldable pub diffuse_test : ℕ → List Float → List Float → List Float → Float → Float → Bool
diffuse_test m z pinf unres f∞ fRoot = (f∞ >ᶠ rank_tol ⊗ abs_quad_form m z pinf) && (fRoot >ᶠ cancel_tol ⊗ abs_quad_form m z unres)

unfoldable pub scaled_test : ℕ → List Float → Float → List Float → Float → Bool
scaled_test m z h star f* = f* >ᶠ rank_tol ⊗ (abs_quad_form m z star ⊕ h)

unfoldable pub bound_term : List Float → List Float → ℕ → Float
bound_term z sd j = abs_of (at z j) ⊗ at sd j

unfoldable pub bound : ℕ → List Float → List Float → Float
bound m z sd = sum_to m (bound_term z sd)

unfoldable pub against : Float → Float → Dust
against f* reference = cond (f* ≤ᶠ cancel_tol ⊗ reference) below (cond (f* >ᶠ suspect_tol ⊗ reference) clear (suspect reference))

unfoldable pub dust : ℕ → List Float → Float → List Float → List Float → Bool → Float → Dust
dust m z h pre sd fresh f* =
    let b = bound m z sd in
    let rest = against f* (abs_quad_form m z pre ⊕ h) in
    cond fresh clear (cond (f* >ᶠ suspect_tol ⊗ (b ⊗ b ⊕ h)) clear rest)

-- the dust test's part, F* and M* at hand: a suspect is accepted in a diffuse period, and else by the root replayed over the elements taken
unfoldable pub by_dust : Bool → Float → Float → List Float → Dust → Decision
by_dust live again f* m* clear = usual f* m*
by_dust live again f* m* below = skipped belowDust
by_dust live again f* m* (suspect reference) = cond (live || (again >ᶠ cancel_tol ⊗ reference)) (usual f* m*) (skipped failedReplay)

-- What an element is judged by: its row z of the design and its noise h; of its period whether it is diffuse, the predicted P* with its standard
-- deviations, and P∞ with nothing resolved; whether no element of the period is taken yet, and F by the star root after those that are; and P*,
-- P∞ and B as they stand.
pub record Candidate : Type 0 where
  pub z : List Float
  pub h : Float
  pub live : Bool
  pub pre : List Float
  pub sd : List Float
  pub unres : List Float
  pub fresh : Bool
  pub again : Float
  pub star : List Float
  pub pinf : List Float
  pub root : List Float

-- the usual verdict, with F* and M* at hand. The first test that fails is the cause: an element that fails its scale test is named for that, even if
-- it would also fall to the dust line
unfoldable pub usually : ℕ → Candidate → Float → List Float → Decision
usually m e f* m* =
    let d = dust m e.z e.h e.pre e.sd e.fresh f* in
    cond (scaled_test m e.z e.h e.star f*) (by_dust e.live e.again f* m* d) (skipped tooSmall)

-- the diffuse verdict or else the usual one, F* and M* at hand; then the verdict on an element that is there
unfoldable pub diffusely : ℕ → Candidate → Float → List Float → Decision
diffusely m e f* m* =
    let m∞ = mat_vec m e.pinf e.z in
    let f∞ = f_inf_by m e.z m∞ in
    let u = mat_tVec m e.root e.z in
    cond (diffuse_test m e.z e.pinf e.unres f∞ (dot m u u)) (diffuse f* f∞ m* m∞) (usually m e f* m*)

unfoldable pub judge : ℕ → Candidate → Decision
judge m e =
    let m* = mat_vec m e.star e.z in
    let f* = f_star_by m e.z e.h m* in
    cond e.live (diffusely m e f* m*) (usually m e f* m*)

-- K1
unfoldable pub k1_at : List Float → List Float → Float → Float → ℕ → Float
k1_at m* k0 f* f∞ j = at m* j ⊘ f∞ ⊕ at k0 j ⊗ (neg f* ⊘ f∞)

unfoldable pub k1_of : ℕ → List Float → List Float → Float → Float → List Float
k1_of m m* k0 f* f∞ = tabulate m (k1_at m* k0 f* f∞)

-- P* - M* K', and in the diffuse case P* - M* K0' - M∞ K1', P∞ - M∞ K0', B (I - u u' / u' u)
unfoldable pub root_less : ℕ → List Float → List Float → List Float
root_less m z root = let u = mat_tVec m root z in outer_sub m root (mat_vec m root u) (over m u (dot m u u))

unfoldable pub apply : ℕ → List Float → ℕ → Inner → Decision → Inner
apply m z i s (skipped c) = s
apply m z i s (usual f* m*) = record { star = outer_sub m s.star m* (over m m* f*); pinf = s.pinf; root = s.root; taken = s.taken ++ (i ∷ []) }
apply m z i s (diffuse f* f∞ m* m∞) =
    let k0 = over m m∞ f∞ in
    record {
      star = outer_sub m (outer_sub m s.star m* k0) m∞ (k1_of m m* k0 f* f∞);
      pinf = outer_sub m s.pinf m∞ k0;
      root = root_less m z s.root;
      taken = s.taken ++ (i ∷ []);
    }

-- element i of a period of p elements; a gap is passed over
unfoldable pub candidate : ℕ → ℕ → List Float → Fixed → ℕ → Inner → Candidate
candidate p m h f i s =
    record {
      z = row m f.z i;
      h = ent p h i i;
      live = f.diffuse;
      pre = f.pre;
      sd = sd_of m f.pre;
      unres = f.unres;
      fresh = none_yet s.taken;
      again = again_of p m f.z h f.pre i s.taken;
      star = s.star;
      pinf = s.pinf;
      root = s.root;
    }

unfoldable pub verdict : ℕ → ℕ → List Float → Fixed → ℕ → Inner → Bool → Decision
verdict p m h f i s true = skipped atGap
verdict p m h f i s false = judge m (candidate p m h f i s)

unfoldable pub element_of : ℕ → ℕ → List Float → Fixed → ℕ → Inner → Bool → Decision × Inner
element_of p m h f i s gap = let d = verdict p m h f i s gap in (d, apply m (row m f.z i) i s d)

abbrev pub element : System → Fixed → ℕ → Inner → Bool → Decision × Inner
element y f i s gap = element_of y.p y.m y.h f i s gap

-- ---- one period: its test, its elements in order, and the step by T

-- whether a period is diffuse; the first that fails the test sets P∞ to zeros for good
unfoldable pub is_live : ℕ → Bool → List Float → Bool
is_live m live pinf = live && (frob_sq m pinf >ᶠ rank_tol)

unfoldable pub entered : ℕ → Bool → List Float → List Float
entered m lasts pinf = cond lasts pinf (zeros (m * m))

unfoldable pub step_star : ℕ → List Float → List Float → List Float → List Float
step_star m tr rqr star = symmetrise m (plus m (sandwich m tr star) rqr)

unfoldable pub step_inf : ℕ → List Float → List Float → List Float
step_inf m tr pinf = symmetrise m (sandwich m tr pinf)

-- the filtered P* and P∞ go on by T, symmetrised; B and the unresolved matrix go on only while the diffuse state lasts
unfoldable pub stepped : ℕ → List Float → List Float → Bool → List Float → List Float → List Float → List Float → Cov
stepped m tr rqr lasts star pinf root unres =
    let root' = mul m tr root in
    let unres' = sandwich m tr unres in
    record { star = step_star m tr rqr star; pinf = step_inf m tr pinf; root = cond lasts root' root; unres = cond lasts unres' unres; live = lasts }

unfoldable pub ended : ℕ → List Float → List Float → Cov → List Float → Bool → List Decision × Inner → CovPeriod × Cov
ended m tr rqr c pred_inf lasts e =
    let filt = symmetrise m e.1.star in
    let filtInf = symmetrise m e.1.pinf in
    (record { diffuse = lasts; pred = c.star; pred_inf = pred_inf; decisions = e.0; filt = filt }, stepped m tr rqr lasts filt filtInf e.1.root c.unres)

unfoldable pub period_of : ℕ → ℕ → List Float → List Float → List Float → List Float → Cov → List Bool → CovPeriod × Cov
period_of p m h tr rqr z c gaps =
    let lasts = is_live m c.live c.pinf in
    let pinf = entered m lasts c.pinf in
    let f : Fixed = record { diffuse = lasts; z = z; pre = c.star; unres = c.unres } in
    let s : Inner = record { star = c.star; pinf = pinf; root = c.root; taken = [] } in
    ended m tr rqr c pinf lasts (scan (element_of p m h f) 0 s gaps)

abbrev pub period : System → ℕ → Cov → List Bool → CovPeriod × Cov
period y t c gaps = period_of y.p y.m y.h (y.transition_at t) y.rqr (y.design_at t) c gaps

-- the run over the periods from t on
unfoldable pub cov_run : System → ℕ → Cov → List (List Bool) → List CovPeriod × Cov
cov_run y t c gaps = scan (period y) t c gaps
