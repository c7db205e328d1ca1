-- The kinds of a run's records: which of them are gaps, and how they count.
use Rattle.std.specs.Prelude.{◌≡◌, refl, ℕ, zero, suc, ◌+◌, ◌*◌, ◌<◌, Bool, ◌||◌, cond, List, [], ◌∷◌, map, eqb, length, replicate}
use Rattle.std.proofs.Common.{sym, ap, ap₂, ◌∙◌, arith, ne_eqb}
use Rattle.std.proofs.lemmas.List.{length-map}
use Rattle.definition.specs.Run.{count, join}
use Rattle.definition.specs.Cov.{System, Cov, atGap, tooSmall, belowDust, failedReplay, Decision, skipped, usual, diffuse, CovPeriod, element_of, ended, period_of, period, cov_run}
use Rattle.definition.specs.Inputs.{Class, is_gap, gap_rows}
use Rattle.definition.specs.Parts.{kind_no, is_news}
use Rattle.laws.specs.Lists.{scan_says, join-chunks}
use Rattle.laws.specs.All.{AllOf}
use Rattle.laws.specs.ReadBack.{map-map, map-join}
use Rattle.laws.specs.Verdicts.{gapped, verdict_gap}

-- ---- a record is a gap exactly where the reading is one

map_id : {A : Type 0} (l : List A) → map (λ a. a) l ≡ l
map_id [] = refl
map_id {A} (x ∷ l) = ap (λ (r : List A). x ∷ r) (map_id l)

period_gaps : (y : System) (t : ℕ) (c : Cov) (gs : List Bool) → map gapped (period y t c gs).0.decisions ≡ gs
unfolding period_of ended element_of
period_gaps y t c gs = scan_says _ gapped (λ g. g) (λ i s g. verdict_gap y.p y.m y.h _ i s g) gs 0 _ ∙ map_id gs

-- of the run from any period t on
pub run_gaps : (y : System) (t : ℕ) (c : Cov) (n p : ℕ) (ks : List Class) → length ks ≡ n * p → map gapped (join (map (λ c. c.decisions) (cov_run y t c (gap_rows n p ks)).0)) ≡ map is_gap ks
unfolding cov_run gap_rows
run_gaps y t c n p ks e =
    let cs = (cov_run y t c (gap_rows n p ks)).0 in
    sym (map-join gapped (map (λ (c : CovPeriod). c.decisions) cs))
    ∙ ap join (map-map (map gapped) (λ (c : CovPeriod). c.decisions) cs ∙ scan_says (period y) (λ (c : CovPeriod). map gapped c.decisions) (λ gs. gs) (period_gaps y) (gap_rows n p ks) t c ∙ map_id (gap_rows n p ks))
    ∙ join-chunks n p (map is_gap ks) (length-map ks is_gap ∙ e)

-- ---- the six kinds add up

-- how many are of kind k, and of all six
abbrev pub of_kind : ℕ → List ℕ → ℕ
of_kind k ks = count (λ (j : ℕ). eqb j k) ks

abbrev pub of_six_kinds : List ℕ → ℕ
of_six_kinds ks = of_kind 0 ks + of_kind 1 ks + of_kind 2 ks + of_kind 3 ks + of_kind 4 ks + of_kind 5 ks

abbrev one : ℕ → ℕ → ℕ
one k j = cond (eqb j k) 1 0

ones : (k : ℕ) → k < 6 → one 0 k + one 1 k + one 2 k + one 3 k + one 4 k + one 5 k ≡ 1
ones zero h = refl
ones (suc zero) h = refl
ones (suc (suc zero)) h = refl
ones (suc (suc (suc zero))) h = refl
ones (suc (suc (suc (suc zero)))) h = refl
ones (suc (suc (suc (suc (suc zero))))) h = refl
ones (suc (suc (suc (suc (suc (suc k)))))) h = absurd (omega arith)

pub six_kinds : (ks : List ℕ) → AllOf (λ k. k < 6) ks → of_six_kinds ks ≡ length ks
unfolding count
six_kinds [] h = refl
six_kinds (k ∷ ks) h = omega (arith, ones k h.0, six_kinds ks h.1)

kind_below : (d : Decision) → kind_no d < 6
kind_below (skipped atGap) = omega arith
kind_below (skipped tooSmall) = omega arith
kind_below (skipped belowDust) = omega arith
kind_below (skipped failedReplay) = omega arith
kind_below (usual f m*) = omega arith
kind_below (diffuse f f∞ m* m∞) = omega arith

pub kinds_below : (ds : List Decision) → AllOf (λ k. k < 6) (map kind_no ds)
kinds_below [] = tt
kinds_below (d ∷ ds) = (kind_below d, kinds_below ds)

pub gaps_below : (n : ℕ) → AllOf (λ k. k < 6) (replicate n 0)
gaps_below zero = tt
gaps_below (suc n) = (omega arith, gaps_below n)

-- ---- news is what is usual or diffuse

abbrev pub news_kind : ℕ → Bool
news_kind k = eqb k 1 || eqb k 2

-- of a decision's record it says what the definition says of the decision
pub news_kind_lem : (d : Decision) → news_kind (kind_no d) ≡ is_news d
news_kind_lem (skipped atGap) = refl
news_kind_lem (skipped tooSmall) = refl
news_kind_lem (skipped belowDust) = refl
news_kind_lem (skipped failedReplay) = refl
news_kind_lem (usual f m*) = refl
news_kind_lem (diffuse f f∞ m* m∞) = refl

pub news_counted : (ds : List Decision) → count news_kind (map kind_no ds) ≡ count is_news ds
unfolding count
news_counted [] = refl
news_counted (d ∷ ds) = ap₂ (λ (b : Bool) (n : ℕ). cond b 1 0 + n) (news_kind_lem d) (news_counted ds)

either_one : (k : ℕ) → cond (news_kind k) 1 0 ≡ one 1 k + one 2 k
either_one zero = refl
either_one (suc zero) = refl
either_one (suc (suc zero)) = refl
either_one (suc (suc (suc k))) = rw (ne_eqb (suc (suc (suc k))) 1 (λ e. omega arith), ne_eqb (suc (suc (suc k))) 2 (λ e. omega arith)) refl

ones_and_twos : (ks : List ℕ) → count news_kind ks ≡ of_kind 1 ks + of_kind 2 ks
unfolding count
ones_and_twos [] = refl
ones_and_twos (k ∷ ks) = omega (arith, either_one k, ones_and_twos ks)

pub news_kinds : (ds : List Decision) → count is_news ds ≡ of_kind 1 (map kind_no ds) + of_kind 2 (map kind_no ds)
news_kinds ds = sym (news_counted ds) ∙ ones_and_twos (map kind_no ds)
