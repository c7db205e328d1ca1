-- A run in stretches: the facts of the definition that one wrong line would break. The theorems on whole runs are in crates/demands.
use Rattle.std.specs.Prelude.{◌≡◌, ℕ, zero, suc, ◌+◌, ◌<◌, Bool, not, ◌&&◌, cond, List, [], ◌∷◌, ◌++◌, ltb, length, Float}
use Rattle.std.proofs.Math.Path.{refl}
use Rattle.std.proofs.Common.{sym, ap, ◌∙◌, add-one, arith, ne_eqb}
use Rattle.std.proofs.Math.Bool.{true, false}
use Rattle.std.proofs.Math.Dec.{eqb, eqb-suc-zero}
use Rattle.definition.specs.Run.{any_of, scan, chunks, pairs}
use Rattle.definition.specs.Cov.{Cov, CovPeriod, period, cov_run}
use Rattle.definition.specs.Mean.{mean_run}
use Rattle.definition.specs.Inputs.{Model, Offsets, Class, is_gap, is_infinity, noise, transition_from, system_of, frame_of, gap_rows}
use Rattle.definition.specs.Reports.{first_from, told_before}
use Rattle.definition.specs.Refusals.{not_finite, mixed_driven, first_of, of_lengths, of_reach, of_system, of_start, of_h, of_readings}
use Rattle.definition.specs.Outcome.{Ending, turned, silent, answered, ending_of, after, no_information}
use Rattle.definition.specs.Carried.{Past, Carried, cov_from, mean_from, plus, past_on, mean_on, went}
use Rattle.definition.specs.Stretch.{outside_stretch, bad_from, stretch_tests, stretch_refusal, stretch_ending, save_stretch}

-- ---- two periods of one element are one period, and one more from there: its index, its design, its transition, its mean

abbrev pub lone : ℕ → Model → Model
lone n x =
    record { p = 1; m = x.m; r = x.r; n = n; z_once = x.z_once; z_list = x.z_list; repeats = x.repeats; h = x.h; t_once = x.t_once; t_list = x.t_list; rr = x.rr; q = x.q; flags = x.flags; p_star = x.p_star }

pub two_covs : (x : Model) (s : Past) (k l : Class)
    → cov_from (lone 2 x) s (k ∷ l ∷ [])
    ≡ ((cov_from (lone 1 x) s (k ∷ [])).0 ++ (cov_from (lone 1 x) (past_on (lone 1 x) s (k ∷ [])) (l ∷ [])).0, (cov_from (lone 1 x) (past_on (lone 1 x) s (k ∷ [])) (l ∷ [])).1)
unfolding cov_from past_on cov_run gap_rows system_of noise chunks scan
two_covs x s k l =
    let y = system_of (lone 1 x) in
    let a = period y s.done s.cov (is_gap k ∷ []) in
    let then_at : ℕ → List CovPeriod × Cov = λ t. let b = period y t a.1 (is_gap l ∷ []) in (a.0 ∷ b.0 ∷ [], b.1) in
    ap then_at (sym (add-one s.done))

pub two_means : (x : Model) (o : Offsets) (s : Carried) (u v : Float)
    → mean_on (lone 2 x) o s (u ∷ v ∷ [])
    ≡ ((mean_on (lone 1 x) o s (u ∷ [])).0 ++ (mean_on (lone 1 x) o (went (lone 1 x) o s (u ∷ [])) (v ∷ [])).0, (mean_on (lone 1 x) o (went (lone 1 x) o s (u ∷ [])) (v ∷ [])).1)
unfolding mean_on mean_from mean_run went cov_from past_on cov_run gap_rows system_of frame_of noise chunks pairs scan
two_means x o s u v = rw add-one

-- ---- its report: what was told before stays, and a period counts from the run's first

pub two_told : (k t : ℕ) (a b : Bool) → told_before k (first_from t (a ∷ b ∷ [])) ≡ told_before (told_before k (first_from t (a ∷ []))) (first_from (suc t) (b ∷ []))
unfolding told_before first_from
two_told (suc k) t a b = refl
two_told zero t true b = refl
two_told zero t false b = refl

-- ---- the refusals

-- 1 lets 0 periods pass
pub no_periods : outside_stretch 1 1 1 0 ≡ false
unfolding outside_stretch
no_periods = refl

-- 15: a run that begins is given no bytes
pub begins_bare : (x : Model) (b : ℕ) (bs : List ℕ) → bad_from x (record { begins = true; saved = b ∷ bs }) ≡ true
unfolding bad_from
begins_bare x b bs = ap not (eqb-suc-zero (length bs))

-- 15 comes after 11
abbrev Others : List (ℕ × Bool) → Type 0
Others [] = Unit {0}
Others (e ∷ es) = (e.0 ≡ 15 → ⊥) × Others es

stands : (es rest : List (ℕ × Bool)) (b : Bool) → b ≡ true → Others es → first_of (es ++ ((11, b) ∷ rest)) ≡ 15 → ⊥
unfolding first_of
stands [] rest b t h e = let z : ◌≡◌ {A = ℕ} 11 15 = ap (λ (c : Bool). cond c 11 (first_of rest)) (sym t) ∙ e in omega arith
stands (f ∷ es) rest b t h e = pick f.1 (stands es rest b t h.1) e
  where
    pick : (c : Bool) → (first_of (es ++ ((11, b) ∷ rest)) ≡ 15 → ⊥) → cond c f.0 (first_of (es ++ ((11, b) ∷ rest))) ≡ 15 → ⊥
    pick true below q = h.0 q
    pick false below q = below q

pub eleven_first : (x : Model) (o : Offsets) (readings : ℕ) (infinity room bad : Bool) (done : ℕ) → not_finite (noise x) ≡ true → stretch_refusal x o readings infinity room bad done ≡ 15 → ⊥
unfolding stretch_refusal stretch_tests
eleven_first x o readings infinity room bad done e =
    let low : (k : ℕ) → k < 15 → k ≡ 15 → ⊥ = λ k l q. omega arith in
    stands
    (((1, outside_stretch x.p x.m x.r x.n) ∷ []) ++ of_lengths x o readings room ++ of_system x ++ of_start x o ++ of_h x ++ of_readings infinity ++ ((10, mixed_driven x.m (transition_from x.m x.t_once x.t_list 0) x.flags) ∷ []))
    ((15, bad) ∷ of_reach x (done + x.n))
    (not_finite (noise x))
    e
    (low 1 (omega arith), (low 2 (omega arith), (low 3 (omega arith), (low 4 (omega arith), (low 5 (omega arith), (low 6 (omega arith), (low 7 (omega arith), (low 8 (omega arith), (low 9 (omega arith), (low 10 (omega arith), tt))))))))))

-- ---- 12: only the last stretch is silent, and none of a run that had news before

heard_out : (r : ℕ) (q : Bool) → q ≡ false → ending_of r q ≡ silent → ⊥
unfolding ending_of
heard_out zero true e h = let z : ◌≡◌ {A = ℕ} 0 1 = cc in omega arith
heard_out zero false e h = let z : ◌≡◌ {A = ℕ} 0 1 = cc in omega arith
heard_out (suc r) q e h = let z : ◌≡◌ {A = ℕ} 0 1 = cc in omega arith

module _ (x : Model) (o : Offsets) (s : Past) (bad : Bool) (ks : List Class) (room : Bool) where
  pub last_alone : stretch_ending x o s bad false ks room ≡ silent → ⊥
  unfolding stretch_ending
  last_alone h = heard_out (stretch_refusal x o (length ks) (any_of is_infinity ks) room bad s.done) false refl h

  pub news_before : (last : Bool) → 0 < s.counts.news → stretch_ending x o s bad last ks room ≡ silent → ⊥
  unfolding stretch_ending past_on plus no_information
  news_before last l h =
      let c = (past_on x s ks).counts in
      heard_out (stretch_refusal x o (length ks) (any_of is_infinity ks) room bad s.done) (last && (ltb 0 c.heard && eqb c.news 0))
      (ap (λ (b : Bool). last && (ltb 0 c.heard && b)) (ne_eqb c.news 0 (λ z. omega arith)) ∙ none last (ltb 0 c.heard))
      h
    where
      none : (a b : Bool) → (a && (b && false)) ≡ false
      none true true = refl
      none true false = refl
      none false b = refl

-- ---- the last one saves nothing

pub last_saves_nothing : (x : Model) (f : Ending) (o : Offsets) (s : Carried) (y : List Float) (save : List ℕ) → save_stretch x f o s true y save ≡ save
unfolding save_stretch after
last_saves_nothing x (turned k) o s y save = refl
last_saves_nothing x silent o s y save = refl
last_saves_nothing x answered o s y save = refl
