-- The first period that ran off: what a report names (`first_names`), its range, the report of a run that is cut, and where none did.
use Rattle.std.specs.Prelude.{◌≡◌, refl, ◌⊎◌, ℕ, zero, suc, ◌+◌, ◌≤◌, ◌<◌, Bool, true, false, List, [], ◌∷◌, ◌++◌, map, length, take, get_or}
use Rattle.std.proofs.Common.{sym, ap, ◌∙◌, inl, inr, add-zero, arith}
use Rattle.std.proofs.lemmas.List.{length-map}
use Rattle.definition.specs.Cov.{CovPeriod}
use Rattle.definition.specs.Mean.{MeanPeriod}
use Rattle.definition.specs.Reports.{first_from, cov_is_off, mean_is_off, cov_report, mean_report, told_before}
use Rattle.laws.specs.All.{AllOf}
use Rattle.laws.specs.Passes.{map-append}

abbrev pub None : List Bool → Type 0
None l = AllOf (λ b. b ≡ false) l

-- k is what is told of a list whose places count from t: 0 where nothing is off; else the place plus 1 of what is off, with nothing off before it
pub record Names (t k : ℕ) (l : List Bool) : Type 0 where
  pub none : k ≡ 0 → None l
  pub some : (i : ℕ) → k ≡ suc (t + i) → (i < length l) × (get_or l i false ≡ true) × None (take i l)

-- ---- one list

pub first_none : (t : ℕ) (l : List Bool) → None l → first_from t l ≡ 0
unfolding first_from
first_none t [] h = refl
first_none t (true ∷ l) h = absurd (let z : ◌≡◌ {A = ℕ} 0 1 = cc in omega arith)
first_none t (false ∷ l) h = first_none (suc t) l h.1

pub first_le : (t : ℕ) (l : List Bool) → first_from t l ≤ t + length l
unfolding first_from
first_le t [] = omega arith
first_le t (true ∷ l) = omega arith
first_le t (false ∷ l) = omega (arith, first_le (suc t) l)

-- 0, or above t
above : (t : ℕ) (l : List Bool) → (first_from t l ≡ 0) ⊎ (t < first_from t l)
unfolding first_from
above t [] = inl refl
above t (true ∷ l) = inr (omega arith)
above t (false ∷ l) = more (above (suc t) l)
  where
    more : (first_from (suc t) l ≡ 0) ⊎ (suc t < first_from (suc t) l) → (first_from (suc t) l ≡ 0) ⊎ (t < first_from (suc t) l)
    more (inl e) = inl e
    more (inr h) = inr (omega arith)

pub first_names : (t : ℕ) (l : List Bool) → Names t (first_from t l) l
unfolding first_from
first_names t [] = record { none = λ e. tt; some = λ i e. absurd (omega arith) }
first_names t (true ∷ l) =
    record {
      none = λ e. absurd (omega arith);
      some = λ i e. here i (omega (arith, e));
    }
  where
    here : (i : ℕ) → i ≡ 0 → (i < suc (length l)) × (get_or (true ∷ l) i false ≡ true) × None (take i (true ∷ l))
    here zero e = (omega arith, refl, tt)
    here (suc i) e = absurd (omega arith)
first_names t (false ∷ l) =
    let rest = first_names (suc t) l in
    record { none = λ e. (refl, rest.none e); some = λ i e. there rest i e (above (suc t) l) }
  where
    there : Names (suc t) (first_from (suc t) l) l → (i : ℕ) → first_from (suc t) l ≡ suc (t + i) → (first_from (suc t) l ≡ 0) ⊎ (suc t < first_from (suc t) l) → (i < suc (length l)) × (get_or (false ∷ l) i false ≡ true) × None (take i (false ∷ l))
    there rest zero e (inl z) = absurd (omega arith)
    there rest zero e (inr h) = absurd (omega arith)
    there rest (suc i) e h = let r = rest.some i (omega (arith, e)) in (omega (arith, r.0), r.1, (refl, r.2))

-- ---- a list that is cut

pub told_none : (k : ℕ) → told_before k 0 ≡ k
unfolding told_before
told_none zero = refl
told_none (suc k) = refl

pub told_assoc : (a b c : ℕ) → told_before (told_before a b) c ≡ told_before a (told_before b c)
unfolding told_before
told_assoc zero b c = refl
told_assoc (suc a) b c = refl

pub told_le : (a b k : ℕ) → a ≤ k → b ≤ k → told_before a b ≤ k
unfolding told_before
told_le zero b k h g = g
told_le (suc a) b k h g = h

first_append : (t : ℕ) (l r : List Bool) → first_from t (l ++ r) ≡ told_before (first_from t l) (first_from (t + length l) r)
unfolding first_from told_before
first_append t [] r = ap (λ (i : ℕ). first_from i r) (sym (add-zero t))
first_append t (true ∷ l) r = refl
first_append t (false ∷ l) r =
    let e : suc t + length l ≡ t + suc (length l) = omega arith in
    first_append (suc t) l r ∙ ap (λ (i : ℕ). told_before (first_from (suc t) l) (first_from i r)) e

pub cov_append : (t n : ℕ) (cs cs' : List CovPeriod) → length cs ≡ n → cov_report t (cs ++ cs') ≡ told_before (cov_report t cs) (cov_report (t + n) cs')
unfolding cov_report
cov_append t n cs cs' e =
    ap (first_from t) (map-append cov_is_off cs cs')
    ∙ first_append t (map cov_is_off cs) (map cov_is_off cs')
    ∙ ap (λ (i : ℕ). told_before (first_from t (map cov_is_off cs)) (first_from (t + i) (map cov_is_off cs'))) (length-map cs cov_is_off ∙ e)

pub mean_append : (t n : ℕ) (ss ss' : List MeanPeriod) → length ss ≡ n → mean_report t (ss ++ ss') ≡ told_before (mean_report t ss) (mean_report (t + n) ss')
unfolding mean_report
mean_append t n ss ss' e =
    ap (first_from t) (map-append mean_is_off ss ss')
    ∙ first_append t (map mean_is_off ss) (map mean_is_off ss')
    ∙ ap (λ (i : ℕ). told_before (first_from t (map mean_is_off ss)) (first_from (t + i) (map mean_is_off ss'))) (length-map ss mean_is_off ∙ e)

-- ---- the range

pub cov_report_le : (t n : ℕ) (cs : List CovPeriod) → length cs ≡ n → cov_report t cs ≤ t + n
unfolding cov_report
cov_report_le t n cs e = omega (arith, first_le t (map cov_is_off cs), length-map cs cov_is_off)

pub mean_report_le : (t n : ℕ) (ss : List MeanPeriod) → length ss ≡ n → mean_report t ss ≤ t + n
unfolding mean_report
mean_report_le t n ss e = omega (arith, first_le t (map mean_is_off ss), length-map ss mean_is_off)
