-- The two forms of a record tell the same: from a record to its numbers and back, and from the numbers that a run writes to a record and back.
use Rattle.std.specs.Prelude.{◌≡◌, refl, ℕ, zero, suc, List, Float}
use Rattle.std.proofs.Common.{sym, ap, ◌∙◌}
use Rattle.definition.specs.Num.{0ᶠ}
use Rattle.definition.specs.Cov as cov
use Rattle.definition.specs.Cov.{Decision, skipped, usual, diffuse}
use Rattle.definition.specs.Mean.{v_of}
use Rattle.definition.specs.Parts.{cause_no, kind_no, f_star_of, f_inf_of}
use Rattle.promise.specs.Records.{record_of, record_from, flat_of, flat_kind, kind_from}
use Rattle.promise.specs.declared.Cause.TheVariants.{Gap, TooSmall, BelowDust, FailedReplay}
use Rattle.promise.specs.declared.Kind.{Kind}
use Rattle.promise.specs.declared.Kind.TheVariants.{Skipped, Usual, Diffuse}
use Rattle.promise.specs.declared.Record.{Record}
use Rattle.promise.specs.declared.FlatRecord.{FlatRecord}

back : (k : Kind) → (record_from (flat_kind k)).kind ≡ k
unfolding kind_from
back (Skipped Gap) = refl
back (Skipped TooSmall) = refl
back (Skipped BelowDust) = refl
back (Skipped FailedReplay) = refl
back (Usual v f) = refl
back (Diffuse v f f∞) = refl

-- every record is told by its numbers
pub flat_and_back : (r : Record) → record_from (flat_of r) ≡ r
flat_and_back r = rw back

-- the flat form of document 01, and of document 02's causes: the kind is at most 5, and the unused numbers are +0.0
abbrev Unused : Float → Float → Float → Type 0
Unused v f f∞ = (v ≡ 0ᶠ) × (f ≡ 0ᶠ) × (f∞ ≡ 0ᶠ)

abbrev pub Proper : ℕ → Float → Float → Float → Type 0
Proper zero v f f∞ = Unused v f f∞
Proper (suc zero) v f f∞ = f∞ ≡ 0ᶠ
Proper (suc (suc zero)) v f f∞ = Unit {0}
Proper (suc (suc (suc zero))) v f f∞ = Unused v f f∞
Proper (suc (suc (suc (suc zero)))) v f f∞ = Unused v f f∞
Proper (suc (suc (suc (suc (suc zero))))) v f f∞ = Unused v f f∞
Proper (suc (suc (suc (suc (suc (suc k)))))) v f f∞ = ⊥

abbrev of : ℕ → Float → Float → Float → FlatRecord
of k v f f∞ = record { kind = k; v = v; f_star = f; f_inf = f∞ }

forth : (k : ℕ) (v f f∞ : Float) → Proper k v f f∞ → flat_kind (kind_from k v f f∞) ≡ of k v f f∞
unfolding kind_from
forth zero v f f∞ h = rw (h.0, h.1, h.2)
forth (suc zero) v f f∞ h = rw h
forth (suc (suc zero)) v f f∞ h = refl
forth (suc (suc (suc zero))) v f f∞ h = rw (h.0, h.1, h.2)
forth (suc (suc (suc (suc zero)))) v f f∞ h = rw (h.0, h.1, h.2)
forth (suc (suc (suc (suc (suc zero))))) v f f∞ h = rw (h.0, h.1, h.2)
forth (suc (suc (suc (suc (suc (suc k)))))) v f f∞ h = absurd h

-- the numbers of that form are told by the record
pub back_and_flat : (x : FlatRecord) → Proper x.kind x.v x.f_star x.f_inf → flat_of (record_from x) ≡ x
back_and_flat x h = forth x.kind x.v x.f_star x.f_inf h

-- ---- a run writes that form: of each element the four numbers by which `Parts` and `Mean` define the flat parts

abbrev pub flat_by : Decision → Float → FlatRecord
flat_by d v = of (kind_no d) v (f_star_of d) (f_inf_of d)

proper_skip : (c : cov.Cause) → Proper (cause_no c) 0ᶠ 0ᶠ 0ᶠ
proper_skip cov.atGap = (refl, refl, refl)
proper_skip cov.tooSmall = (refl, refl, refl)
proper_skip cov.belowDust = (refl, refl, refl)
proper_skip cov.failedReplay = (refl, refl, refl)

pub proper : (m : ℕ) (z : List Float) (c : Float) (a : List Float) (reading : Float) (d : Decision) → Proper (kind_no d) (v_of m z c a reading d) (f_star_of d) (f_inf_of d)
unfolding v_of
proper m z c a reading (skipped cause) = proper_skip cause
proper m z c a reading (usual f m*) = refl
proper m z c a reading (diffuse f f∞ m* m∞) = tt

-- so what it writes comes back
pub run_and_back : (m : ℕ) (z : List Float) (c : Float) (a : List Float) (reading : Float) (d : Decision) → let x = flat_by d (v_of m z c a reading d) in flat_of (record_from x) ≡ x
run_and_back m z c a reading d = back_and_flat (flat_by d (v_of m z c a reading d)) (proper m z c a reading d)

-- and the record is the element's own
pub by_decision : (d : Decision) (v : Float) → record_from (flat_by d v) ≡ record_of d v
unfolding kind_from record_of
by_decision (skipped cov.atGap) v = refl
by_decision (skipped cov.tooSmall) v = refl
by_decision (skipped cov.belowDust) v = refl
by_decision (skipped cov.failedReplay) v = refl
by_decision (usual f m*) v = refl
by_decision (diffuse f f∞ m* m∞) v = refl

-- so what is written of the element's record is the v that the mean track works out
pub v_told : (m : ℕ) (z : List Float) (c : Float) (a : List Float) (reading : Float) (d : Decision) → (flat_of (record_of d (v_of m z c a reading d))).v ≡ v_of m z c a reading d
v_told m z c a reading d = ap (λ (x : FlatRecord). x.v) (ap flat_of (sym (by_decision d (v_of m z c a reading d))) ∙ run_and_back m z c a reading d)
