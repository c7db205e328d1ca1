-- Laws of one element and of a period's elements: what is read off the flat parts, and the loop over the elements against the scan.
use mathlib.Core.Path.{◌≡◌, refl, sym, ap, ap₂, ◌∙◌}
use Prim.Native.Nat.{ℕ, ◌+◌, ◌-◌, ◌*◌, ◌≤◌, ◌<◌}
use native.Mathlib.Omega.{arith}
use native.Mathlib.Numerals.{add-one}
use mathlib.Core.List.{List}
use lib.ListN.{length, get_or, take, drop, set, length-take, length-drop, length-set}
use lib.Seq.{get_or-take, get_or-drop, take-suc-set, take_all}
use lib.Ieee.{Float, nan}
use Rattle.definition.specs.Num.{0ᶠ, ◌⊕◌, ◌⊗◌, ◌⊘◌, at}
use Rattle.definition.specs.Dense.{axpy_at, over, over_at, row}
use Rattle.definition.specs.Run.{scan}
use Rattle.definition.specs.Cov.{Decision}
use Rattle.definition.specs.Mean.{Mean, v_of, heed, usual_term, diffuse_term, hear, mean_step, mean_ended, mean_period_of}
use Rattle.laws.specs.Lists.{vector_at, pairs_at, length_pairs, scan_next}
use Rattle.laws.specs.Flat.{Flat, no_decision, read_back, decisions_at, decisions_long, decision_at, block_at}
use Rattle.laws.specs.Backward.{part_block, part_row}
use Rattle.dense.specs.Views.{vec}
use Rattle.promise.specs.declared.Cause.{Cause}
use Rattle.promise.specs.declared.Kind.{Kind}
use Rattle.promise.specs.declared.Kind.TheVariants.{Skipped, Usual, Diffuse}
use Rattle.promise.specs.declared.Record.{Record}
use Rattle.promise.specs.declared.FlatRecord.{FlatRecord}
use Rattle.promise.specs.Records.{record_of, flat_of, kind_from}
use Rattle.record.specs.Read.{read}
use Rattle.record.specs.RoundTrip.{v_told}
use Rattle.mean.specs.View.{mean_in, entry_at, heard_at, left_in, Followed, Recorded}

-- ---- one element, by its kind

-- an entry of the mean moved by v times the gain's
pub moved : (v f : Float) (m : ℕ) (a gain : List Float) (i : ℕ) {y : Float} → i < m → y ≡ at (vec m a) i ⊕ v ⊗ (at gain i ⊘ f) → y ≡ axpy_at (vec m a) v (over m gain f) i
unfolding axpy_at over over_at
moved v f m a gain i h e = let k = vector_at m i (over_at gain f) h in cc

-- the row and the gain vector as parts of the lists that hold them
pub followed_at : (i k : ℕ) (design gains : List Float) {m : ℕ} {a a' : List Float} {d x f v : Float} → i * m + m ≤ length design → k * m + m ≤ length gains → Followed m (take (i * m + m - i * m) (drop (i * m) design)) d x (take (k * m + m - k * m) (drop (k * m) gains)) f a a' v → Followed m (row m design i) d x (block_at m gains k) f a a' v
followed_at i k design gains {m} hd hg h = rw (part_row i m design hd, part_block k m gains hg) at h

-- what is heard of element i by the kind that is told at place k, where there is no v yet
module _ (m : ℕ) (r : Flat) (design ds : List Float) (i k : ℕ) (a : List Float) (l x : Float) {q : Kind} (told : q ≡ kind_from (get_or r.kinds k 0) 0ᶠ (at r.f_stars k) (at r.f_infs k)) where
  pub heard_none : {c : Cause} → q ≡ Skipped c → Recorded m design ds i (mean_in m a l) (read_back m r k) x (record { kind = Skipped c }) (mean_in m a l)
  unfolding hear v_of heed record_of
  heard_none e = let t = read m r 0ᶠ k told e in record { is = rw (t.2, t.1) refl; after = rw t.2 refl }

  module _ {v₀ v f l' : Float} {a' : List Float} where
    pub heard_usual : q ≡ Usual v₀ f → Followed m (row m design i) (at ds i) x (block_at m r.m_stars k) f a a' v → l' ≡ usual_term l f v
        → Recorded m design ds i (mean_in m a l) (read_back m r k) x (record { kind = Usual v f }) (mean_in m a' l')
    unfolding hear v_of heed record_of
    heard_usual e h el = let t = read m r 0ᶠ k told e in record { is = rw (t.1, h.is) refl; after = rw (t.1, h.moved, el, h.is) refl }

    pub heard_diffuse : {f∞ : Float} → q ≡ Diffuse v₀ f f∞ → Followed m (row m design i) (at ds i) x (block_at m r.m_infs k) f∞ a a' v → l' ≡ diffuse_term l f∞
        → Recorded m design ds i (mean_in m a l) (read_back m r k) x (record { kind = Diffuse v f f∞ }) (mean_in m a' l')
    unfolding hear v_of heed record_of
    heard_diffuse e h el = let t = read m r 0ᶠ k told e in record { is = rw (t.1, h.is) refl; after = rw (t.1, h.moved, el, h.is) refl }

-- what is written of its record is v
pub v_written : (m : ℕ) (design ds : List Float) (i : ℕ) (s : Mean) (d : Decision) (x : Float) {r : Record} {y : FlatRecord} {s' : Mean} → Recorded m design ds i s d x r s' → y ≡ flat_of r → ◌≡◌ (y.v, s') (hear m design ds i s (d, x))
unfolding hear
v_written m design ds i s d x h e =
    ap₂ (λ (u : Float) (t : Mean). (u, t)) (ap (λ (b : FlatRecord). b.v) (e ∙ ap flat_of h.is) ∙ v_told m (row m design i) (at ds i) s.a x d) h.after

-- ---- the elements of a period, in order

-- a scan whose outputs a loop writes one by one
scan_wrote : {A B S : Type 0} (f : ℕ → S → A → B × S) (xs : List A) (i : ℕ) (s₀ s s' : S) (d : A) (out : List B) (x : B) → i < length xs → i < length out → scan f 0 s₀ (take i xs) ≡ (take i out, s) → (x, s') ≡ f i s (get_or xs i d) → scan f 0 s₀ (take (i + 1) xs) ≡ (take (i + 1) (set out i x), s')
scan_wrote f xs i s₀ s s' d out x h g e q = rw (add-one, scan_next f xs i s₀ d h, e, ← q, take-suc-set out i x g) refl

-- what a period hears: p entries, by place
module _ (p m t : ℕ) (r : Flat) (ys : List Float) where
  readings_long : t * p + p ≤ length ys → length (take p (drop (t * p) ys)) ≡ p
  readings_long room = simp (length-take, length-drop) (omega arith)

  heard_long : t * p + p ≤ length ys → length (heard_at p m r ys t) ≡ p
  unfolding entry_at
  heard_long room = length_pairs p (decisions_at p m r t) (take p (drop (t * p) ys)) (decisions_long p m t r) (readings_long room)

  heard_at_lem : t * p + p ≤ length ys → (i : ℕ) → i < p → get_or (heard_at p m r ys t) i (no_decision, nan) ≡ (read_back m r (t * p + i), at ys (t * p + i))
  unfolding entry_at
  heard_at_lem room i h =
      pairs_at (decisions_at p m r t) (take p (drop (t * p) ys)) i no_decision nan (no_decision, nan) (rw (decisions_long p m t r) h) (rw (readings_long room) h)
      ∙ ap₂ (λ (d : Decision) (x : Float). (d, x)) (decision_at p m t r i h) (get_or-take p (drop (t * p) ys) i nan h ∙ get_or-drop (t * p) ys i nan)

  -- the loop over them: what holds before element i
  module _ (design ds : List Float) (s₀ : Mean) where
    pub record Along (i : ℕ) (v : List Float) (s : Mean) : Type 0 where
      pub low : i ≤ p
      pub long : length v ≡ p
      pub ran : scan (hear m design ds) 0 s₀ (take i (heard_at p m r ys t)) ≡ (take i v, s)

    pub along_none : (v : List Float) → length v ≡ p → Along 0 v s₀
    unfolding scan
    along_none v e = record { low = omega arith; long = e; ran = refl }

    pub along_next : {i : ℕ} {v : List Float} {s s' : Mean} {x : Float} → Along i v s → i < p → t * p + p ≤ length ys → (x, s') ≡ hear m design ds i s (read_back m r (t * p + i), at ys (t * p + i)) → Along (i + 1) (set v i x) s'
    along_next {i} {v} {s} {s'} {x} g h room e =
        record {
          low = omega arith;
          long = length-set v i x ∙ g.long;
          ran = scan_wrote (hear m design ds) (heard_at p m r ys t) i s₀ s s' (no_decision, nan) v x (rw (heard_long room) h) (rw g.long h) g.ran (e ∙ ap (hear m design ds i s) (sym (heard_at_lem room i h)));
        }

    pub along_all : {i : ℕ} {v : List Float} {s : Mean} → Along i v s → p ≤ i → t * p + p ≤ length ys → (v, s) ≡ scan (hear m design ds) 0 s₀ (heard_at p m r ys t)
    along_all {i} {v} {s} g h room =
        let e : i ≡ p = omega (arith, g.low) in
        sym (ap (scan (hear m design ds) 0 s₀) (sym (take_all i (heard_at p m r ys t) (omega (arith, heard_long room)))) ∙ g.ran ∙ ap (λ (l : List Float). (l, s)) (take_all i v (omega (arith, g.long))))

    -- the whole period: what stood there, the elements, and the step by T and c
    pub whole : (tr c : List Float) (pred filt v a' next : List Float) (l : Float) → pred ≡ s₀.a → ◌≡◌ (v, mean_in m a' l) (scan (hear m design ds) 0 s₀ (heard_at p m r ys t)) → filt ≡ vec m a' → vec m next ≡ mean_step m tr c (vec m a')
        → ◌≡◌ (left_in pred v filt, mean_in m next l) (mean_period_of m tr c ds design s₀ (entry_at p m r ys t))
    unfolding mean_period_of mean_ended
    whole tr c pred filt v a' next l ep e ef en = rw (← e, ep, ef, en) refl
