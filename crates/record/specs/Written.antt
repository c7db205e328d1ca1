-- The flat parts as records, and what `fill` leaves: the records of the elements' decisions and their v.
use Rattle.std.specs.Prelude.{◌≡◌, refl, ℕ, zero, suc, ◌≤◌, ◌<◌, List, [], ◌∷◌, ◌++◌, map, Float, length, get_or, replicate}
use Rattle.std.proofs.Common.{ap, ap₂, ◌∙◌, arith, zero-add}
use Rattle.std.proofs.Math.Nat.{min-eq_left, suc_inj}
use Rattle.std.proofs.lemmas.List.{length-replicate, get_or-replicate}
use Rattle.std.proofs.Math.ListN.{get_or-append}
use Rattle.definition.specs.Num.{tab_from}
use Rattle.definition.specs.Run.{lay, pairs}
use Rattle.definition.specs.Cov.{Decision}
use Rattle.definition.specs.Parts.{kind_no, f_star_of, f_inf_of}
use Rattle.laws.specs.Lists.{tab_cong}
use Rattle.promise.specs.Records.{records_by, gap_record, kind_from, record_from, record_at, records_of, filled}
use Rattle.record.specs.RoundTrip.{by_decision}
use Rattle.promise.specs.declared.Record.{Record}

tab_shift : {A : Type 0} (n k : ℕ) (f : ℕ → A) → tab_from (suc k) n f ≡ tab_from k n (λ i. f (suc i))
unfolding tab_from
tab_shift zero k f = refl
tab_shift {A} (suc n) k f = ap (λ (l : List A). f (suc k) ∷ l) (tab_shift n (suc k) f)

cons : (n : ℕ) (k : ℕ) (ks : List ℕ) (v f f∞ : Float) (vs fs f∞s : List Float)
    → records_of (suc n) (k ∷ ks) (v ∷ vs) (f ∷ fs) (f∞ ∷ f∞s) ≡ record_from (record { kind = k; v = v; f_star = f; f_inf = f∞ }) ∷ records_of n ks vs fs f∞s
unfolding records_of record_at tab_from
cons n k ks v f f∞ vs fs f∞s = ap (λ (l : List Record). record_from (record { kind = k; v = v; f_star = f; f_inf = f∞ }) ∷ l) (tab_shift n 0 (record_at (k ∷ ks) (v ∷ vs) (f ∷ fs) (f∞ ∷ f∞s)))

-- where the flat parts begin with what the run wrote, they tell these
pub records_written : (ds : List Decision) (vs : List Float) (ks : List ℕ) (r s t : List Float) → length vs ≡ length ds
    → records_of (length ds) (map kind_no ds ++ ks) (vs ++ r) (map f_star_of ds ++ s) (map f_inf_of ds ++ t) ≡ records_by ds vs
unfolding records_by records_of tab_from pairs
records_written [] vs ks r s t e = refl
records_written (d ∷ ds) [] ks r s t e = absurd (omega (arith, e))
records_written (d ∷ ds) (v ∷ vs) ks r s t e =
    cons (length ds) (kind_no d) (map kind_no ds ++ ks) v (f_star_of d) (f_inf_of d) (vs ++ r) (map f_star_of ds ++ s) (map f_inf_of ds ++ t)
    ∙ ap₂ (λ (x : Record) (l : List Record). x ∷ l) (by_decision d v) (records_written ds vs ks r s t (suc_inj e))

same : (n k : ℕ) → tab_from k n (λ _. gap_record) ≡ replicate n gap_record
unfolding tab_from
same zero k = refl
same (suc n) k = ap (λ (l : List Record). gap_record ∷ l) (same n (suc k))

blank_at : (n i : ℕ) (ks : List ℕ) (vs fs f∞s : List Float) → i < n → record_at (replicate n 0 ++ ks) vs fs f∞s i ≡ gap_record
unfolding record_at kind_from
blank_at n i ks vs fs f∞s h =
    let z : get_or (replicate n 0 ++ ks) i 0 ≡ 0 = get_or-append (replicate n 0) ks 0 i (rw length-replicate h) ∙ get_or-replicate n i 0 0 h in
    rw z

-- refusal 12: where the kinds begin with zeros, every record is that of a gap
pub records_blank : (n : ℕ) (ks : List ℕ) (vs fs f∞s : List Float) → records_of n (replicate n 0 ++ ks) vs fs f∞s ≡ replicate n gap_record
unfolding records_of
records_blank n ks vs fs f∞s = tab_cong n 0 (record_at (replicate n 0 ++ ks) vs fs f∞s) (λ _. gap_record) (λ i u h. blank_at n i ks vs fs f∞s (rw zero-add at h)) ∙ same n 0

-- a list that is long enough: the first k records, and the rest as it was
pub filled_all : (k : ℕ) (kinds : List ℕ) (vs fs f∞s : List Float) (old : List Record) → k ≤ length old → filled k kinds vs fs f∞s old ≡ lay (records_of k kinds vs fs f∞s) old
unfolding filled
filled_all k kinds vs fs f∞s old h = ap (λ (n : ℕ). lay (records_of n kinds vs fs f∞s) old) (min-eq_left h)
