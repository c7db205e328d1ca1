-- The record of an element, and its flat form. Document 01, "Sizes and lent parts": skipped; usual (v, F*); diffuse (v, F*, F∞). Document 02, request
-- a: a skip carries its cause. Flat: kind 1 usual, 2 diffuse, and a skip 0, 3, 4 or 5 by its cause; the unused numbers +0.0.
use Rattle.std.specs.Prelude.{ℕ, zero, suc, min, List, map, Float, get_or, length}
use Rattle.definition.specs.Num.{0ᶠ, at, tabulate}
use Rattle.definition.specs.Run.{lay, pairs}
use Rattle.definition.specs.Cov as cov
use Rattle.definition.specs.Cov.{Decision, skipped, usual, diffuse}
use Rattle.definition.specs.Parts.{cause_no}
use Rattle.promise.specs.declared.Cause.{Cause}
use Rattle.promise.specs.declared.Cause.TheVariants.{Gap, TooSmall, BelowDust, FailedReplay}
use Rattle.promise.specs.declared.Kind.{Kind}
use Rattle.promise.specs.declared.Kind.TheVariants.{Skipped, Usual, Diffuse}
use Rattle.promise.specs.declared.Record.{Record}
use Rattle.promise.specs.declared.FlatRecord.{FlatRecord}

-- of a gap, and of refusal 12
abbrev pub gap_record : Record
gap_record = record { kind = Skipped Gap }

-- a cause as the definition has it
abbrev pub cause_of : cov.Cause → Cause
cause_of cov.atGap = Gap
cause_of cov.tooSmall = TooSmall
cause_of cov.belowDust = BelowDust
cause_of cov.failedReplay = FailedReplay

-- and back
abbrev pub cause_in : Cause → cov.Cause
cause_in Gap = cov.atGap
cause_in TooSmall = cov.tooSmall
cause_in BelowDust = cov.belowDust
cause_in FailedReplay = cov.failedReplay

-- by what the covariance track decides and the mean track's v
unfoldable pub record_of : Decision → Float → Record
record_of (skipped c) v = record { kind = Skipped (cause_of c) }
record_of (usual f m*) v = record { kind = Usual v f }
record_of (diffuse f f∞ m* m∞) v = record { kind = Diffuse v f f∞ }

-- the records of a run, in order: by what it decided, and by each v
unfoldable pub records_by : List Decision → List Float → List Record
records_by ds vs = map (λ e. record_of e.0 e.1) (pairs ds vs)

-- ---- a record as numbers

abbrev pub flat_kind : Kind → FlatRecord
flat_kind (Skipped c) = record { kind = cause_no (cause_in c); v = 0ᶠ; f_star = 0ᶠ; f_inf = 0ᶠ }
flat_kind (Usual v f) = record { kind = 1; v = v; f_star = f; f_inf = 0ᶠ }
flat_kind (Diffuse v f f∞) = record { kind = 2; v = v; f_star = f; f_inf = f∞ }

abbrev pub flat_of : Record → FlatRecord
flat_of r = flat_kind r.kind

-- ---- and back: any other kind is a skip that failed on replay, as it is where the passes read it

unfoldable pub kind_from : ℕ → Float → Float → Float → Kind
kind_from zero v f f∞ = Skipped Gap
kind_from (suc zero) v f f∞ = Usual v f
kind_from (suc (suc zero)) v f f∞ = Diffuse v f f∞
kind_from (suc (suc (suc zero))) v f f∞ = Skipped TooSmall
kind_from (suc (suc (suc (suc zero)))) v f f∞ = Skipped BelowDust
kind_from (suc (suc (suc (suc (suc k))))) v f f∞ = Skipped FailedReplay

abbrev pub record_from : FlatRecord → Record
record_from x = record { kind = kind_from x.kind x.v x.f_star x.f_inf }

-- ---- the flat parts as records: the one at place k, and the first n. Past the end of the kinds an element is a gap

unfoldable pub record_at : List ℕ → List Float → List Float → List Float → ℕ → Record
record_at kinds vs fs f∞s k = record_from (record { kind = get_or kinds k 0; v = at vs k; f_star = at fs k; f_inf = at f∞s k })

unfoldable pub records_of : ℕ → List ℕ → List Float → List Float → List Float → List Record
records_of n kinds vs fs f∞s = tabulate n (record_at kinds vs fs f∞s)

-- a lent list afterwards: its first k places hold the records, or all where it has fewer; the rest stays
unfoldable pub filled : ℕ → List ℕ → List Float → List Float → List Float → List Record → List Record
filled k kinds vs fs f∞s old = lay (records_of (min k (length old)) kinds vs fs f∞s) old
