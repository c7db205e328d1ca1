-- A stretch that begins, is the last and has a period is the filter's call (`whole`), unless its list of designs or of transitions is short. The
-- filter's call tells that right after 2, a stretch after 15: so of a short list and a refusal from 3 to 11 the one tells 14 or 2, the other that
-- refusal. Either way both are turned away (`reaches`, `reaches_stretch`).
use Rattle.std.proofs.Math.Path.{◌≡◌, refl, ap, ap₂, subst}
use Rattle.std.proofs.Common.{◌∙◌, inl, inr, arith, ne_eqb}
use Rattle.std.specs.Prelude.{◌⊎◌, ℕ, ◌+◌, ◌*◌, ◌<◌, Bool, ◌&&◌, length, eqb, Float}
use Rattle.std.proofs.Math.Logic.{⊎_elim}
use Rattle.std.proofs.Math.Nat.{zero-add}
use Rattle.std.proofs.Math.Bool.{true, false}
use mathlib.Core.List.{List, [], map}
use Rattle.std.proofs.Math.Dec.{T}
use Rattle.definition.specs.Run.{any_of}
use Rattle.definition.specs.Inputs.{Model, Offsets, Class, class_of, is_infinity}
use Rattle.definition.specs.Refusals.{outside, first_of, tests, refusal}
use Rattle.definition.specs.Reports.{cov_report, told_before}
use Rattle.definition.specs.Outcome.{CovParts, MeanParts, CovOutcome, MeanOutcome, Counts, Ending, turned, silent, answered, ending_of, ending, after, counts_of, cov_of, mean_of, cov_ended, cov_outcome, mean_outcome, no_information, outcome, outcome_at, roomy}
use Rattle.definition.specs.Carried.{begun_past, begun_mean, cov_from, mean_from, plus, past_on, mean_on, mean_off_on}
use Rattle.definition.specs.Stretch.{From, StretchOutcome, past_in, mean_in, mean_told_in, outside_stretch, bad_from, stretch_tests, stretch_refusal, roomy_stretch, stretch_ending, cov_stretch, mean_stretch, save_stretch, stretch_outcome}
use Rattle.laws.specs.Numbered.{first_none, not_twelve}
use Rattle.laws.specs.Kept.{begun}
use Rattle.laws.specs.AcceptedStretch.{passes, not_turned, free}
use Rattle.demands.specs.Conditions.{SomeShort}
use Rattle.demands.specs.Refusals.{says_outrun, not_outrun, says_short, not_short}

-- a run's start
abbrev pub start : From
start = record { begins = true; saved = [] }

and_yes : (a : Bool) → (a && true) ≡ a
and_yes true = refl
and_yes false = refl

-- with a period, refusal 1 is document 01's
pub same_outside : (p m r n : ℕ) → 0 < n → outside_stretch p m r n ≡ outside p m r n
unfolding outside_stretch outside
same_outside p m r n h = let e : eqb n 0 ≡ false = ne_eqb n 0 (λ z. omega arith) in rw e

pub same_refusal : (x : Model) (o : Offsets) (n : ℕ) (infinity room : Bool) → 0 < x.n → (SomeShort x x.n → ⊥) → stretch_refusal x o n infinity room false 0 ≡ refusal x o n infinity room
unfolding stretch_refusal stretch_tests refusal tests first_of
same_refusal x o n infinity room h reaches =
    rw (zero-add x.n, not_outrun (x.m * x.m) x.t_list x.n (λ s. reaches (inl s)), not_short x x.n (λ s. reaches (inr s)), same_outside x.p x.m x.r x.n h) refl

module _ (x : Model) (o : Offsets) (some : 0 < x.n) (reaches : SomeShort x x.n → ⊥) where
  same_counts : (ks : List Class) → (past_on x (begun_past x) ks).counts ≡ counts_of (cov_of x ks).0 ks
  unfolding past_on plus begun_past cov_from cov_of
  same_counts ks = rw (zero-add (counts_of (cov_of x ks).0 ks).d_diffuse, zero-add (counts_of (cov_of x ks).0 ks).heard, zero-add (counts_of (cov_of x ks).0 ks).news)

  same_ending : (ks : List Class) (b : CovParts) (b' : MeanParts) (save : List ℕ) → stretch_ending x o (begun_past x) false true ks (roomy_stretch x true b b' save) ≡ ending x o ks (roomy x b b')
  unfolding stretch_ending ending roomy_stretch begun_past
  same_ending ks b b' save =
      ap₂ ending_of
      (ap (λ (room : Bool). stretch_refusal x o (length ks) (any_of is_infinity ks) room false 0) (and_yes (roomy x b b')) ∙ same_refusal x o (length ks) (any_of is_infinity ks) (roomy x b b') some reaches)
      (ap no_information (same_counts ks))

  same_cov : (f : Ending) (ks : List Class) (b : CovParts) → cov_stretch x f (begun_past x) ks b ≡ cov_outcome x f ks b
  unfolding cov_stretch cov_outcome past_on cov_from begun_past cov_of told_before
  same_cov f ks b = ap (λ (l : Counts). cov_ended x f (cov_of x ks) l (cov_report 0 (cov_of x ks).0) b) (same_counts ks)

  same_mean : (f : Ending) (y : List Float) (b : MeanParts) → mean_stretch x f o (begun x o) y b ≡ mean_outcome x f o (map class_of y) y b
  unfolding mean_stretch mean_outcome mean_on mean_off_on mean_from begun_mean cov_from begun_past cov_of mean_of told_before
  same_mean f y b = refl

  same_save : (f : Ending) (y : List Float) (save : List ℕ) → save_stretch x f o (begun x o) true y save ≡ save
  unfolding save_stretch after
  same_save (turned k) y save = refl
  same_save silent y save = refl
  same_save answered y save = refl

  pub whole : (y : List Float) (b : CovParts) (b' : MeanParts) (save : List ℕ) → stretch_outcome x o start true y b b' save ≡ record { cov = (outcome x o y b b').0; mean = (outcome x o y b b').1; save = save }
  unfolding stretch_outcome past_in mean_in mean_told_in bad_from outcome outcome_at
  whole y b b' save =
      let ks = map class_of y in
      let f = ending x o ks (roomy x b b') in
      let s = begun x o in
      ap (λ (f : Ending). record { cov = cov_stretch x f (begun_past x) ks b; mean = mean_stretch x f o s y b'; save = save_stretch x f o s true y save }) (same_ending ks b b' save)
      ∙ made (cov_stretch x f (begun_past x) ks b) (cov_outcome x f ks b) (mean_stretch x f o s y b') (mean_outcome x f o ks y b') (save_stretch x f o s true y save) save (same_cov f ks b) (same_mean f y b') (same_save f y save)
    where
      made : (c c' : CovOutcome) (s s' : MeanOutcome) (v v' : List ℕ) → c ≡ c' → s ≡ s' → v ≡ v' → ◌≡◌ {A = StretchOutcome} (record { cov = c; mean = s; save = v }) (record { cov = c'; mean = s'; save = v' })
      made c c' s s' v v' p q r = cc

-- ---- of a call that is not turned away no list is short

module _ (x : Model) (o : Offsets) (y : List Float) (b : CovParts) (b' : MeanParts) where
  pub reaches : ((outcome x o y b b').0.refused ≡ 0) ⊎ ((outcome x o y b b').0.refused ≡ 12) → SomeShort x x.n → ⊥
  unfolding outcome outcome_at cov_outcome ending refusal tests
  reaches e short =
      let none = first_none (tests x o (length (map class_of y)) (any_of is_infinity (map class_of y)) (roomy x b b')) tt (not_turned _ _ (not_twelve x o _ _ _) e) in
      ⊎_elim (λ s. subst T none.1.1.0 ((says_outrun (x.m * x.m) x.t_list x.n).from s)) (λ s. subst T none.1.1.1.0 ((says_short x x.n).from s)) short

  pub reaches_stretch : (w : From) (last : Bool) (save : List ℕ) → ((stretch_outcome x o w last y b b' save).cov.refused ≡ 0) ⊎ ((stretch_outcome x o w last y b b' save).cov.refused ≡ 12)
      → SomeShort x ((past_in x w).done + x.n) → ⊥
  reaches_stretch w last save e short =
      let past = passes x o _ _ _ _ _ (free x o w last y b b' save e) in
      let long = (past_in x w).done + x.n in
      ⊎_elim (λ s. subst T past.steps ((says_outrun (x.m * x.m) x.t_list long).from s)) (λ s. subst T past.reach ((says_short x long).from s)) short
