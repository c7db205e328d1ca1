-- What the calls of a test give, put together: equations over plain variables.
use Prim.Native.Nat.{ℕ}
use mathlib.Core.Path.{◌≡◌, refl, sym, ap, ◌∙◌}
use mathlib.Core.Bool.{Bool, true, false}
use mathlib.Core.List.{List}
use native.Mathlib.Omega.{arith}
use lib.Ieee.{Float}
use Rattle.definition.specs.Num.{◌⊕◌, ◌⊗◌, ◌>ᶠ◌, ◌≤ᶠ◌, rank_tol, cancel_tol, suspect_tol}
use Rattle.definition.specs.Dense.{mat_vec, mat_tVec, dot, abs_quad_form}
use Rattle.definition.specs.Cov as cov
use Rattle.definition.specs.Cov.{diffuse_test, scaled_test, dust, against, bound, clear, by_dust, usually, diffusely, f_inf_by}
use Rattle.std.proofs.Common.{Option, None, Some, Result, Ok, Err, Bor}
use Rattle.promise.specs.declared.Cause.{Cause}
use Rattle.promise.specs.declared.Cause.TheVariants.{TooSmall, BelowDust, FailedReplay}
use Rattle.dense.specs.Views.{vec, mat}
use Rattle.track.specs.declared.State.{State}
use Rattle.acceptance.specs.declared.Candidate.{Candidate}
use Rattle.acceptance.specs.declared.Dust.{Dust}
use Rattle.acceptance.specs.declared.Dust.TheVariants.{Clear, Below, Suspect}
use Rattle.acceptance.specs.declared.Finding.{Finding}
use Rattle.acceptance.specs.declared.Finding.TheVariants as finding
use Rattle.acceptance.specs.Views.{fresh_in, sd_in, dust_of, decision_by, decision_on, judged_by, ByDust, Usually, Judged, DustBy, UsualBy}

module _ (m : ℕ) (z p n : List Float) (f g : Float) {a b : Float} where
  pub diffuse_both : a ≡ abs_quad_form m z p → b ≡ abs_quad_form m z n → (f >ᶠ rank_tol ⊗ a) ≡ true → (g >ᶠ cancel_tol ⊗ b) ≡ diffuse_test m z p n f g
  unfolding diffuse_test
  diffuse_both d e t = rw (sym d, sym e, t)

module _ (m : ℕ) (z p n : List Float) (f g : Float) {a : Float} where
  pub diffuse_first : a ≡ abs_quad_form m z p → (f >ᶠ rank_tol ⊗ a) ≡ false → false ≡ diffuse_test m z p n f g
  unfolding diffuse_test
  diffuse_first d t = rw (sym d, t)

module _ (m : ℕ) (z star : List Float) (h f : Float) {a : Float} where
  pub scaled_by : a ≡ abs_quad_form m z star → (f >ᶠ rank_tol ⊗ (a ⊕ h)) ≡ scaled_test m z h star f
  unfolding scaled_test
  scaled_by e = rw (sym e)

module _ (f r : Float) where
  pub against-below : (f ≤ᶠ cancel_tol ⊗ r) ≡ true → cov.below ≡ against f r
  unfolding against
  against-below t = rw t

  pub against_clear : (f ≤ᶠ cancel_tol ⊗ r) ≡ false → (f >ᶠ suspect_tol ⊗ r) ≡ true → clear ≡ against f r
  unfolding against
  against_clear n t = rw (n, t)

  pub against-suspect : (f ≤ᶠ cancel_tol ⊗ r) ≡ false → (f >ᶠ suspect_tol ⊗ r) ≡ false → cov.suspect r ≡ against f r
  unfolding against
  against-suspect n t = rw (n, t)

module _ (m : ℕ) (z pre : List Float) (h f : Float) {o : Option (Bor (List Float))} where
  pub dust_fresh : o ≡ None → clear ≡ dust m z h pre (sd_in m o) (fresh_in o) f
  unfolding dust
  dust_fresh n = rw n

  module _ (sd : Bor (List Float)) {b : Float} (n : o ≡ Some sd) (e : b ≡ bound m z (vec m sd.now)) where
    pub dust-bound : (f >ᶠ suspect_tol ⊗ (b ⊗ b ⊕ h)) ≡ true → clear ≡ dust m z h pre (sd_in m o) (fresh_in o) f
    unfolding dust
    dust-bound t = rw (n, sym e, t)

    pub dust_rest : {a : Float} {d : cov.Dust} → (f >ᶠ suspect_tol ⊗ (b ⊗ b ⊕ h)) ≡ false → a ≡ abs_quad_form m z pre → d ≡ against f (a ⊕ h) → d ≡ dust m z h pre (sd_in m o) (fresh_in o) f
    unfolding dust
    dust_rest t g w = rw (n, sym e, t, sym g) w

-- an element that is not fresh: the dust test has no suspect before the period's first update
suspect_stale : (m : ℕ) (z : List Float) (h : Float) (pre sd : List Float) (fresh : Bool) (f x : Float) → dust m z h pre sd fresh f ≡ cov.suspect x → fresh ≡ false
unfolding dust
suspect_stale m z h pre sd true f x e = absurd (let n : ◌≡◌ {A = ℕ} 0 1 = cc in omega arith)
suspect_stale m z h pre sd false f x e = refl

-- ---- a finding by the dust test, whatever the star root says
module _ (live : Bool) (d : Dust) where
  pub ruled_clear : d ≡ Clear → ByDust live d finding.Usual
  unfolding decision_by by_dust dust_of
  ruled_clear e = record { finds = λ m again f a b. rw e; doubts = λ x e'. absurd (let n : ◌≡◌ {A = ℕ} 0 1 = cc in omega arith) }

  pub ruled_below : d ≡ Below → ByDust live d (finding.Nothing BelowDust)
  unfolding decision_by by_dust dust_of
  ruled_below e = record { finds = λ m again f a b. rw e; doubts = λ x e'. absurd (let n : ◌≡◌ {A = ℕ} 0 1 = cc in omega arith) }

  pub ruled_live : (r : Float) → d ≡ Suspect r → live ≡ true → ByDust live d finding.Usual
  unfolding decision_by by_dust dust_of
  ruled_live r e l = record { finds = λ m again f a b. rw (e, l); doubts = λ x e'. absurd (let n : ◌≡◌ {A = ℕ} 0 1 = cc in omega arith) }

  pub ruled_doubt : (r : Float) → d ≡ Suspect r → live ≡ false → ByDust live d (finding.Doubtful r)
  unfolding decision_by by_dust dust_of
  ruled_doubt r e l = record { finds = λ m again f a b. rw (e, l); doubts = λ x e'. (l, rw e (let n : r ≡ x = cc in ap cov.suspect n)) }

-- ---- usual acceptance
module _ (e : Candidate) (live : Bool) (star : List Float) (f : Float) {t : Bool} (et : t ≡ scaled_test e.m (vec e.m e.z.now) e.h (mat e.m star) f) where
  pub usually_scaled : {d : Dust} {r : Finding} → t ≡ true → dust_of d ≡ dust e.m (vec e.m e.z.now) e.h (mat e.m e.pre.now) (sd_in e.m e.sd) (fresh_in e.sd) f → ByDust live d r → Usually e live star f r
  unfolding usually
  usually_scaled w d b = record {
    finds = λ again pinf root unres a c. rw (sym et, w, sym d) (b.finds e.m again f a c);
    doubts = λ x k. ((b.doubts x k).0, suspect_stale e.m (vec e.m e.z.now) e.h (mat e.m e.pre.now) (sd_in e.m e.sd) (fresh_in e.sd) f x (sym d ∙ (b.doubts x k).1));
  }

  pub usually_not : t ≡ false → Usually e live star f (finding.Nothing TooSmall)
  unfolding usually decision_by
  usually_not w = record { finds = λ again pinf root unres a c. rw (sym et, w); doubts = λ x k. absurd (let n : ◌≡◌ {A = ℕ} 0 1 = cc in omega arith) }

-- ---- the verdict
module _ (e : Candidate) (s : State) (f : Float) (b : List Float) where
  module _ {t : Bool} {g r : Float} {u : List Float} (live : s.live ≡ true) (e1 : vec e.m b ≡ mat_vec e.m (mat e.m s.p_inf) (vec e.m e.z.now)) (e2 : g ≡ f_inf_by e.m (vec e.m e.z.now) (vec e.m b))
      (e3 : u ≡ mat_tVec e.m (mat e.m s.root) (vec e.m e.z.now)) (e4 : r ≡ dot e.m u u) (e5 : t ≡ diffuse_test e.m (vec e.m e.z.now) (mat e.m s.p_inf) (mat e.m s.unres) g r) where
    pub judged_diffuse : t ≡ true → Judged e s f b (finding.Diffuse g)
    unfolding judged_by diffusely decision_by
    judged_diffuse w = record { finds = λ again a. rw (live, sym e1, sym e2, sym e3, sym e4, sym e5, w); doubts = λ x k. absurd (let n : ◌≡◌ {A = ℕ} 0 1 = cc in omega arith) }

    pub judged_not : {d : Finding} → t ≡ false → Usually e s.live s.star f d → Judged e s f b d
    unfolding judged_by diffusely
    judged_not w u = record { finds = λ again a. let v = rw live at (u.finds again (mat e.m s.p_inf) (mat e.m s.root) (mat e.m s.unres) a b) in rw (live, sym e1, sym e2, sym e3, sym e4, sym e5, w) v; doubts = u.doubts }

  pub judged_usual : {d : Finding} → s.live ≡ false → Usually e s.live s.star f d → Judged e s f b d
  unfolding judged_by
  judged_usual w u = record { finds = λ again a. let v = rw w at (u.finds again (mat e.m s.p_inf) (mat e.m s.root) (mat e.m s.unres) a b) in rw w v; doubts = u.doubts }

-- ---- with F by the star root at hand
module _ (again : Float) (d : Dust) where
  pub root_clear : d ≡ Clear → DustBy again d (Ok tt)
  unfolding decision_on by_dust dust_of
  root_clear e = record { finds = λ f m*. rw e }

  pub root_below : d ≡ Below → DustBy again d (Err BelowDust)
  unfolding decision_on by_dust dust_of
  root_below e = record { finds = λ f m*. rw e }

  pub root_yes : (y : Float) → d ≡ Suspect y → (again >ᶠ cancel_tol ⊗ y) ≡ true → DustBy again d (Ok tt)
  unfolding decision_on by_dust dust_of
  root_yes y e t = record { finds = λ f m*. rw (e, t) }

  pub root_no : (y : Float) → d ≡ Suspect y → (again >ᶠ cancel_tol ⊗ y) ≡ false → DustBy again d (Err FailedReplay)
  unfolding decision_on by_dust dust_of
  root_no y e t = record { finds = λ f m*. rw (e, t) }

module _ (e : Candidate) (again : Float) (star : List Float) (f : Float) {t : Bool} (et : t ≡ scaled_test e.m (vec e.m e.z.now) e.h (mat e.m star) f) where
  pub usual_scaled : {d : Dust} {r : Result (Unit {0}) Cause} → t ≡ true → dust_of d ≡ dust e.m (vec e.m e.z.now) e.h (mat e.m e.pre.now) (sd_in e.m e.sd) (fresh_in e.sd) f → DustBy again d r → UsualBy e again star f r
  unfolding usually
  usual_scaled w d b = record { finds = λ pinf root unres m*. rw (sym et, w, sym d) (b.finds f m*) }

  pub usual_not : t ≡ false → UsualBy e again star f (Err TooSmall)
  unfolding usually decision_on
  usual_not w = record { finds = λ pinf root unres m*. rw (sym et, w) }
