-- Verdicts by cases: what holds of each thing that a verdict can be holds of the verdict; and which test names the cause of a skip.
use Rattle.std.specs.Prelude.{◌≡◌, refl, ℕ, ◌<◌, Bool, true, false, ◌||◌, cond, List, eqb, Float}
use Rattle.std.proofs.Common.{ap, arith}
use Rattle.definition.specs.Num.{◌⊗◌, ◌>ᶠ◌, cancel_tol}
use Rattle.definition.specs.Dense.{dot, mat_vec, mat_tVec}
use Rattle.definition.specs.Cov.{Fixed, Inner, Cause, tooSmall, belowDust, failedReplay, Decision, skipped, usual, diffuse, Dust, clear, below, suspect, Candidate, f_star_by, f_inf_by, diffuse_test, scaled_test, dust, by_dust, usually, diffusely, judge, candidate, verdict}
use Rattle.definition.specs.Parts.{kind_no, is_news}

pub cond_by : {A : Type 0} (P : A → Type 0) (b : Bool) (d e : A) → (b ≡ true → P d) → P e → P (cond b d e)
cond_by P true d e h g = h refl
cond_by P false d e h g = g

module _ (P : Decision → Type 0) where
  dust_by : (live : Bool) (again f : Float) (m* : List Float) (d : Dust) → P (usual f m*) → P (skipped belowDust) → P (skipped failedReplay) → P (by_dust live again f m* d)
  unfolding by_dust
  dust_by live again f m* clear u b r = u
  dust_by live again f m* below u b r = b
  dust_by live again f m* (suspect x) u b r = cond_by P (live || (again >ᶠ cancel_tol ⊗ x)) (usual f m*) (skipped failedReplay) (λ q. u) r

  pub usually_by : (m : ℕ) (e : Candidate) (f : Float) (m* : List Float) → P (usual f m*) → P (skipped tooSmall) → P (skipped belowDust) → P (skipped failedReplay) → P (usually m e f m*)
  unfolding usually
  usually_by m e f m* u s b r =
      let d = dust m e.z e.h e.pre e.sd e.fresh f in
      cond_by P (scaled_test m e.z e.h e.star f) (by_dust e.live e.again f m* d) (skipped tooSmall) (λ q. dust_by e.live e.again f m* d u b r) s

  -- M* and M∞ of a verdict are P* z and P∞ z
  pub judge_by : (m : ℕ) (e : Candidate) → ((f f∞ : Float) → P (diffuse f f∞ (mat_vec m e.star e.z) (mat_vec m e.pinf e.z))) → ((f : Float) → P (usual f (mat_vec m e.star e.z)))
      → P (skipped tooSmall) → P (skipped belowDust) → P (skipped failedReplay) → P (judge m e)
  unfolding judge diffusely
  judge_by m e d u s b r =
      let m* = mat_vec m e.star e.z in
      let f = f_star_by m e.z e.h m* in
      let m∞ = mat_vec m e.pinf e.z in
      let f∞ = f_inf_by m e.z m∞ in
      let v = mat_tVec m e.root e.z in
      let else = usually_by m e f m* (u f) s b r in
      cond_by P e.live (diffusely m e f m*) (usually m e f m*) (λ q. cond_by P (diffuse_test m e.z e.pinf e.unres f∞ (dot m v v)) (diffuse f f∞ m* m∞) (usually m e f m*) (λ q. d f f∞) else) else

-- ---- a decision that is no news is a skip

pub skip_of : (d : Decision) → is_news d ≡ false → (c : Cause) × (d ≡ skipped c)
skip_of (skipped c) e = (c, refl)
skip_of (usual f m*) e = absurd (let z : ◌≡◌ {A = ℕ} 0 1 = cc in omega arith)
skip_of (diffuse f f∞ m* m∞) e = absurd (let z : ◌≡◌ {A = ℕ} 0 1 = cc in omega arith)

pub skip_by_kind : (d : Decision) → 2 < kind_no d → is_news d ≡ false
skip_by_kind (skipped c) h = refl
skip_by_kind (usual f m*) h = absurd (omega arith)
skip_by_kind (diffuse f f∞ m* m∞) h = absurd (omega arith)

-- ---- which test names the cause

module _ (m : ℕ) (e : Candidate) (f : Float) (m* : List Float) where
  -- an element that fails its scale test is named for that, whatever the dust test would say
  pub scale_first : scaled_test m e.z e.h e.star f ≡ false → usually m e f m* ≡ skipped tooSmall
  unfolding usually
  scale_first h = rw h

  -- before any element is taken, the dust test passes everything
  pub fresh_taken : e.fresh ≡ true → scaled_test m e.z e.h e.star f ≡ true → usually m e f m* ≡ usual f m*
  unfolding usually by_dust dust
  fresh_taken h g = rw (g, h)

-- in a diffuse period none is failed on replay
pub no_replay : (again f : Float) (m* : List Float) (d : Dust) → by_dust true again f m* d ≡ skipped failedReplay → ⊥
unfolding by_dust
no_replay again f m* clear e = absurd (let z : ◌≡◌ {A = ℕ} 1 5 = ap kind_no e in omega arith)
no_replay again f m* below e = absurd (let z : ◌≡◌ {A = ℕ} 4 5 = ap kind_no e in omega arith)
no_replay again f m* (suspect r) e = absurd (let z : ◌≡◌ {A = ℕ} 1 5 = ap kind_no e in omega arith)

-- the cause gap stands at a gap, and at nothing else
abbrev pub gapped : Decision → Bool
gapped d = eqb (kind_no d) 0

pub verdict_gap : (p m : ℕ) (h : List Float) (f : Fixed) (i : ℕ) (s : Inner) (g : Bool) → gapped (verdict p m h f i s g) ≡ g
unfolding verdict
verdict_gap p m h f i s true = refl
verdict_gap p m h f i s false = judge_by (λ d. gapped d ≡ false) m (candidate p m h f i s) (λ f f∞. refl) (λ f. refl) refl refl refl
