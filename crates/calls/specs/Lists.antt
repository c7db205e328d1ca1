-- A list of records beside the flat parts. Where the list has room a call is the call without it; else it is refused 1 or 2, and all stays. The list
-- itself goes by the outcome and the flat parts, as the promise's `told` says. FilterList and SmoothList have the theorems on the calls.
use Rattle.std.specs.Prelude.{◌≡◌, ◌↔◌, Bool, true, false, ◌&&◌, cond, length, drop, leb, eqb, Float, Ok, Err}
use Rattle.std.proofs.Math.Path.{refl, sym, ap, ap₂}
use Rattle.std.proofs.Common.{◌∙◌, subst, inl, inr, ⊎_elim, zero-add, arith, get_or-set_same, get_or-set_other, leb-true, leb-false, ne_eqb}
use Prim.Native.Nat.{ℕ, zero, suc, min, ◌≤◌, ◌<◌}
use mathlib.Core.List.{List, [], ◌∷◌, ◌++◌, map, map-append}
use Rattle.std.proofs.Math.ListN.{set}
use Rattle.std.proofs.lemmas.List.{length-replicate}
use Rattle.std.proofs.lemmas.Bool.{lt-leb}
use Rattle.definition.specs.Num.{0ᶠ, tab_from}
use Rattle.definition.specs.Run.{lay}
use Rattle.definition.specs.Inputs.{Model, Offsets, class_of}
use Rattle.definition.specs.Refusals.{outside, bad_length, refusal, tests, first_of}
use Rattle.definition.specs.Parts.{fStar, fInf, innovations}
use Rattle.definition.specs.Outcome.{CovParts, MeanParts, CovOutcome, MeanOutcome, Counts, Ending, turned, ending, ending_of, number_of, after, counts_in, report_in, kinds_need, roomy, cov_outcome, mean_outcome, outcome, outcome_at}
use Rattle.laws.specs.Lists.{length_tab, tab_cong, tab_set, lay-set}
use Rattle.demands.specs.Conditions.{Lengths, Room, table, First}
use Rattle.demands.proofs.Refusals as tables
use Rattle.demands.specs.Refusals.{Blanked}
use Rattle.promise.specs.Calls.{Outcome, Promise}
use Rattle.promise.specs.Numbers.{numbered}
use Rattle.promise.specs.Refusals.{number}
use Rattle.filter.specs.Ends.{End}
use Rattle.promise.specs.declared.Kind.{Kind}
use Rattle.promise.specs.declared.Kind.TheVariants.{Skipped, Usual, Diffuse}
use Rattle.promise.specs.declared.Record.{Record}
use Rattle.promise.specs.Records.{gap_record, kind_from, record_at, records_of, filled}
use Rattle.record.specs.Written.{records_blank, filled_all}
use Rattle.promise.specs.WithRecords.{ending_with_records, to_tell, told_by}
use Rattle.demands.specs.Offsets as offset
use Rattle.calls.specs.Seen as seen

-- ---- the list's room

-- document 01's refusal 2: each output is at least as long as needed, the list too
pub record RoomList (Flat : Type 0) (x : Model) (old : List Record) : Type 0 where
  pub flat : Flat
  pub list : kinds_need x ≤ length old

-- the refusal of a call with too little room
abbrev pub too_short : Model → ℕ
too_short x = cond (outside x.p x.m x.r x.n) 1 2

and_all : (a : Bool) → (a && true) ≡ a
and_all true = refl
and_all false = refl

and_none : (a : Bool) → (a && false) ≡ false
and_none true = refl
and_none false = refl

turned_by : (t q : Bool) → ending_of (cond t 1 2) q ≡ turned (cond t 1 2)
unfolding ending_of
turned_by true q = refl
turned_by false q = refl

module _ (x : Model) (o : Offsets) (y : List Float) where
  no_room : ending x o (map class_of y) false ≡ turned (too_short x)
  unfolding ending refusal tests first_of bad_length
  no_room = rw and_none (turned_by (outside x.p x.m x.r x.n) _)

  pub with_room : (room : Bool) (have : ℕ) → leb (kinds_need x) have ≡ true → ending_with_records x o y room have ≡ ending x o (map class_of y) room
  unfolding ending_with_records
  with_room room have e = ap (ending x o (map class_of y)) (ap (λ (t : Bool). room && t) e ∙ and_all room)

  pub without_room : (room : Bool) (have : ℕ) → leb (kinds_need x) have ≡ false → ending_with_records x o y room have ≡ turned (too_short x)
  unfolding ending_with_records
  without_room room have e = ap (ending x o (map class_of y)) (ap (λ (t : Bool). room && t) e ∙ and_none room) ∙ no_room

-- ---- a call with too short a list of records

abbrev none : Counts
none = record { d_diffuse = 0; heard = 0; news = 0 }

pub record Short (x : Model) (w b : CovParts) (w' b' : MeanParts) (r : Outcome) : Type 0 where
  pub refusals : seen.refusal_of r ≡ too_short x
  pub counts : seen.counts_of r ≡ none
  pub cov_off : seen.cov_off_of r ≡ 0
  pub parts : seen.SameParts b w b' w'

no_counts : (n : ℕ) → seen.counts_by n none ≡ none
no_counts zero = refl
no_counts (suc n) = refl

no_report : (n : ℕ) → seen.report_by n 0 ≡ 0
no_report zero = refl
no_report (suc n) = refl

pub short_so : (x : Model) (o : Offsets) (y : List Float) (w : CovParts) (w' : MeanParts) (room : Bool) (have : ℕ) {r : Outcome} {b : CovParts} {b' : MeanParts}
    → Promise (End x o y w w' (ending_with_records x o y room have)) r b b' → leb (kinds_need x) have ≡ false → Short x w b w' b' r
unfolding cov_outcome mean_outcome number_of counts_in report_in after
short_so x o y w w' room have {r} {b} {b'} p e =
    let q = subst (λ (f : Ending). Promise (End x o y w w' f) r b b') (without_room x o y room have e) p in
    record { refusals = seen.refusal_is q; counts = seen.counts_are q ∙ no_counts (too_short x); cov_off = seen.cov_off_is q ∙ no_report (too_short x); parts = seen.parts_are q refl refl }

-- nothing of it depends on the readings
pub short_blind : {x : Model} {w b c : CovParts} {w' b' c' : MeanParts} {r s : Outcome} → Short x w b w' b' r → Short x w c w' c' s → seen.Blind r s b c
short_blind h g =
    record {
      refusals = h.refusals ∙ sym g.refusals;
      counts = h.counts ∙ sym g.counts;
      cov_off = h.cov_off ∙ sym g.cov_off;
      parts =
          record {
            kinds = h.parts.covs.kinds ∙ sym g.parts.covs.kinds;
            covs = λ q. h.parts.covs.covs q ∙ sym (g.parts.covs.covs q);
          };
    }

-- not past refusals 1 to 11
low : (t : Bool) → offset.Admitted (cond t 1 2) → ⊥
low true = ⊎_elim (λ e. omega arith) (λ e. omega arith)
low false = ⊎_elim (λ e. omega arith) (λ e. omega arith)

pub short_not : {x : Model} {w b : CovParts} {w' b' : MeanParts} {r : Outcome} → Short x w b w' b' r → seen.Admitted r → ⊥
short_not {x} h a = low (outside x.p x.m x.r x.n) (subst offset.Admitted h.refusals a)

-- and nothing was judged
pub short_deaf : {x : Model} {w b : CovParts} {w' b' : MeanParts} {r : Outcome} {y : List Float} {k : ℕ} → Short x w b w' b' r → seen.NoNews y r b k → ⊥
short_deaf h n = omega (arith, n.news, ap (λ (c : Counts). c.news) h.counts)

-- ---- the table of refusals, where nothing else has changed than how the room is said

module _ {x : Model} {o : Offsets} {y : List Float} {R S : Type 0} where
  lengths_as : (R → S) → Lengths x o y R → Lengths x o y S
  lengths_as f l =
      record { z = l.z; h = l.h; t = l.t; rr = l.rr; q = l.q; c = l.c; d = l.d; a1 = l.a1; p_star = l.p_star; flags = l.flags; readings = l.readings; room = f l.room }

module _ (x : Model) (o : Offsets) (y : List Float) {R S : Type 0} (to : R → S) (from : S → R) (k : ℕ) where
  first_as : First k (table x o y R) → First k (table x o y S)
  first_as = ⊎_elim inl (λ h. inr (h.0, ⊎_elim (λ g. inl (g.0, λ l. g.1 (lengths_as from l))) (λ g. inr (λ f. g.0 (λ l. f (lengths_as to l)), g.1)) h.1))

refuses_as : (x : Model) (o : Offsets) (y : List Float) {R S : Type 0} → (R → S) → (S → R) → {n : ℕ} (k : ℕ) → (n ≡ k) ↔ First k (table x o y R) → (n ≡ k) ↔ First k (table x o y S)
refuses_as x o y to from k h = (λ e. first_as x o y to from k (h.0 e), λ f. h.1 (first_as x o y from to k f))

-- ---- a call by its list's room

pub either_way : {A : Type 0} (x : Model) (old : List Record) → (leb (kinds_need x) (length old) ≡ true → A) → (leb (kinds_need x) (length old) ≡ false → A) → A
either_way {A} x old enough short = by (leb (kinds_need x) (length old)) refl
  where
    by : (t : Bool) → leb (kinds_need x) (length old) ≡ t → A
    by true e = enough e
    by false e = short e

-- a call whose kinds have no place is refused so, and by the table
module _ (x : Model) (o : Offsets) (y : List Float) (w : CovParts) (w' : MeanParts) (some : 0 < kinds_need x) where
  abbrev bare : CovParts
  bare = record { kinds = []; part = w.part }

  bare_room : roomy x bare w' ≡ false
  unfolding roomy
  bare_room = rw (lt-leb (kinds_need x) 0 some) refl

  bare-refused : (outcome x o y bare w').0.refused ≡ too_short x
  unfolding outcome outcome_at cov_outcome number_of
  bare-refused = rw bare_room (ap number_of (no_room x o y))

  bare_none : Room x bare w' → ⊥
  bare_none r = omega (arith, r.kinds)

  short_first : (S : Type 0) → (S → ⊥) → (k : ℕ) → (too_short x ≡ k) ↔ First k (table x o y S)
  short_first S lacks k =
      refuses_as x o y (λ r. absurd (bare_none r)) (λ s. absurd (lacks s)) k
      (subst (λ (n : ℕ). (n ≡ k) ↔ First k (table x o y (Room x bare w'))) bare-refused (tables.refuses x o y bare w' k))

pub refuses_list : (x : Model) (o : Offsets) (y : List Float) (w : CovParts) (w' : MeanParts) {b : CovParts} {b' : MeanParts} {r : Outcome} {Flat : Type 0} (old : List Record) (k : ℕ)
    → (leb (kinds_need x) (length old) ≡ true → (seen.refusal_of r ≡ k) ↔ First k (table x o y Flat)) → (leb (kinds_need x) (length old) ≡ false → Short x w b w' b' r)
    → (seen.refusal_of r ≡ k) ↔ First k (table x o y (RoomList Flat x old))
refuses_list x o y w w' {Flat = Flat} old k enough short =
    either_way x old
    (λ e. refuses_as x o y (λ h. record { flat = h; list = leb-true (kinds_need x) (length old) e }) (λ h. h.flat) k (enough e))
    (λ e.
    let l = leb-false (kinds_need x) (length old) e in
    subst (λ (n : ℕ). (n ≡ k) ↔ First k (table x o y (RoomList Flat x old))) (sym (short e).refusals)
    (short_first x o y w w' (omega arith) (RoomList Flat x old) (λ h. omega (arith, h.list)) k))

-- ---- the list by the outcome and the flat parts

-- a record but for its v, and the lists of two calls whose records have the same kinds and variances
abbrev pub kind_but_v : Kind → Kind
kind_but_v (Skipped c) = Skipped c
kind_but_v (Usual v f) = Usual 0ᶠ f
kind_but_v (Diffuse v f f∞) = Diffuse 0ᶠ f f∞

abbrev pub but_v : Record → Record
but_v r = record { kind = kind_but_v r.kind }

abbrev pub SameVariances : List Record → List Record → Type 0
SameVariances new also = map but_v new ≡ map but_v also

-- how many records are told, by the refusal's number
abbrev tells_by : ℕ → ℕ → ℕ
tells_by zero k = k
tells_by (suc n) k = cond (eqb (suc n) 12) k 0

tells_lem : (n k : ℕ) → (n ≡ 0 → ⊥) → cond (eqb n 12) k 0 ≡ tells_by n k
tells_lem zero k h = absurd (h refl)
tells_lem (suc n) k h = refl

tells : (r : Outcome) (k : ℕ) → to_tell r k ≡ tells_by (seen.refusal_of r) k
tells (Ok a) k = refl
tells (Err e) k = tells_lem (number e) k (numbered e)

-- nothing is told on a refusal but 12
none_told : (n k : ℕ) → 0 < n → (n ≡ 12 → ⊥) → tells_by n k ≡ 0
none_told zero k l h = absurd (omega arith)
none_told (suc n) k l h = ap (λ (t : Bool). cond t k 0) (ne_eqb (suc n) 12 h)

map_tab : (n j : ℕ) (f : ℕ → Record) → map but_v (tab_from j n f) ≡ tab_from j n (λ i. but_v (f i))
unfolding tab_from
map_tab zero j f = refl
map_tab (suc n) j f = ap (λ (l : List Record). but_v (f j) ∷ l) (map_tab n (suc j) f)

module _ (kinds : List ℕ) (vs us fs f∞s : List Float) where
  of_kind_lem : (n : ℕ) (v u f f∞ : Float) → kind_but_v (kind_from n v f f∞) ≡ kind_but_v (kind_from n u f f∞)
  unfolding kind_from
  of_kind_lem zero v u f f∞ = refl
  of_kind_lem (suc zero) v u f f∞ = refl
  of_kind_lem (suc (suc zero)) v u f f∞ = refl
  of_kind_lem (suc (suc (suc zero))) v u f f∞ = refl
  of_kind_lem (suc (suc (suc (suc zero)))) v u f f∞ = refl
  of_kind_lem (suc (suc (suc (suc (suc n))))) v u f f∞ = refl

  at_place : (k : ℕ) → but_v (record_at kinds vs fs f∞s k) ≡ but_v (record_at kinds us fs f∞s k)
  unfolding record_at
  at_place k = ap (λ (j : Kind). record { kind = j }) (of_kind_lem _ _ _ _ _)

  at_all : (n : ℕ) → map but_v (records_of n kinds vs fs f∞s) ≡ map but_v (records_of n kinds us fs f∞s)
  unfolding records_of
  at_all n = map_tab n 0 _ ∙ tab_cong n 0 _ _ (λ i l h. at_place i) ∙ sym (map_tab n 0 _)

  long : (n : ℕ) → length (records_of n kinds vs fs f∞s) ≡ length (records_of n kinds us fs f∞s)
  unfolding records_of
  long n = length_tab n 0 _ ∙ sym (length_tab n 0 _)

  but_v_lem : (k : ℕ) (old : List Record) → map but_v (filled k kinds vs fs f∞s old) ≡ map but_v (filled k kinds us fs f∞s old)
  unfolding filled
  but_v_lem k old =
      let n = min k (length old) in
      let l = records_of n kinds vs fs f∞s in
      let m = records_of n kinds us fs f∞s in
      map-append but_v l (drop (length l) old)
      ∙ ap₂ (λ (a b : List Record). a ++ b) (at_all n) (ap (λ (j : ℕ). map but_v (drop j old)) (long n))
      ∙ sym (map-append but_v m (drop (length m) old))

-- a gap in the kinds is a gap among the records
module _ (vs fs f∞s : List Float) (j : ℕ) (kinds : List ℕ) where
  record_gap : j < length kinds → record_at (set kinds j 0) vs fs f∞s j ≡ gap_record
  unfolding record_at kind_from
  record_gap h = rw (get_or-set_same kinds j 0 0 h) refl

  record_else : (i : ℕ) → (i ≡ j → ⊥) → record_at (set kinds j 0) vs fs f∞s i ≡ record_at kinds vs fs f∞s i
  unfolding record_at
  record_else i h = rw (get_or-set_other kinds j i 0 0 h) refl

  records_gap : (n : ℕ) → j < n → j < length kinds → records_of n (set kinds j 0) vs fs f∞s ≡ set (records_of n kinds vs fs f∞s) j gap_record
  unfolding records_of
  records_gap n h g =
      tab_set n 0 j (record_at kinds vs fs f∞s) (record_at (set kinds j 0) vs fs f∞s) h (λ i q. record_else i (λ e. q (e ∙ sym (zero-add j))))
      ∙ ap (λ (a : Record). set (tab_from 0 n (record_at kinds vs fs f∞s)) j a) (ap (record_at (set kinds j 0) vs fs f∞s) (zero-add j) ∙ record_gap g)

  filled_gap : (k : ℕ) (old : List Record) → j < k → k ≤ length old → j < length kinds → filled k (set kinds j 0) vs fs f∞s old ≡ set (filled k kinds vs fs f∞s old) j gap_record
  unfolding records_of
  filled_gap k old h l g =
      filled_all k (set kinds j 0) vs fs f∞s old l
      ∙ ap (λ (w : List Record). lay w old) (records_gap k h g)
      ∙ lay-set (records_of k kinds vs fs f∞s) old j gap_record (rw length_tab h)
      ∙ ap (λ (w : List Record). set w j gap_record) (sym (filled_all k kinds vs fs f∞s old l))

module _ {u : CovOutcome × MeanOutcome} {r : Outcome} {b : CovParts} {b' : MeanParts} (p : Promise u r b b') (k : ℕ) (old : List Record) {new : List Record} (told : new ≡ told_by k r b b' old) where
  pub list_keeps : (n : ℕ) → 0 < n → (n ≡ 12 → ⊥) → seen.refusal_of r ≡ n → new ≡ old
  unfolding records_of tab_from
  list_keeps n l h e =
      told
      ∙ ap (λ (j : ℕ). filled j b.kinds (b' innovations) (b.part fStar) (b.part fInf) old) (tells r k ∙ ap (λ (j : ℕ). tells_by j k) e ∙ none_told n k l h)
      ∙ filled_all 0 b.kinds (b' innovations) (b.part fStar) (b.part fInf) old (omega arith)

  -- 12: records of gaps, k of them, and the rest as it was
  pub list_blanked : (ks : List ℕ) → Blanked k 0 ks b.kinds → seen.refusal_of r ≡ 12 → k ≤ length old → Blanked k gap_record old new
  list_blanked ks z e l =
      told
      ∙ ap (λ (j : ℕ). filled j b.kinds (b' innovations) (b.part fStar) (b.part fInf) old) (tells r k ∙ ap (λ (j : ℕ). tells_by j k) e)
      ∙ filled_all k b.kinds (b' innovations) (b.part fStar) (b.part fInf) old l
      ∙ rw (z, records_blank, length-replicate) refl

  -- and of two calls
  module _ {v : CovOutcome × MeanOutcome} {s : Outcome} {c : CovParts} {c' : MeanParts} (q : Promise v s c c') {also : List Record} (told-too : also ≡ told_by k s c c' old) (same : seen.refusal_of r ≡ seen.refusal_of s) where
    as_many : to_tell r k ≡ to_tell s k
    as_many = tells r k ∙ ap (λ (j : ℕ). tells_by j k) same ∙ sym (tells s k)

    pub list_same : seen.SameParts b c b' c' → new ≡ also
    list_same h = told ∙ rw (as_many, h.covs.kinds, h.means innovations, h.covs.covs fStar, h.covs.covs fInf) refl ∙ sym told-too

    -- a gap at place j: the record there is that of a gap
    pub list_gap : (j : ℕ) → seen.SameButCause j b c b' c' → seen.refusal_of r ≡ 0 → j < k → k ≤ length old → j < length b.kinds → also ≡ set new j gap_record
    list_gap j h e j<k l j<b =
        let tells_all = tells r k ∙ ap (λ (n : ℕ). tells_by n k) e in
        told-too
        ∙ rw (sym as_many, tells_all, h.kinds, sym (h.means innovations), sym (h.covs fStar), sym (h.covs fInf)) refl
        ∙ filled_gap (b' innovations) (b.part fStar) (b.part fInf) j b.kinds k old j<k l j<b
        ∙ ap (λ (l : List Record). set l j gap_record) (sym (told ∙ ap (λ (n : ℕ). filled n b.kinds (b' innovations) (b.part fStar) (b.part fInf) old) tells_all))

    pub list_blind : seen.SameCovs b c → SameVariances new also
    list_blind h =
        ap (map but_v) told
        ∙ rw (as_many, h.kinds, h.covs fStar, h.covs fInf) (but_v_lem c.kinds (b' innovations) (c' innovations) (c.part fStar) (c.part fInf) (to_tell s k) old)
        ∙ ap (map but_v) (sym told-too)
