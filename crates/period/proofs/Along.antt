-- The stretches of a period's elements, against the scan: laws over plain variables.
use Prim.Native.Nat.{ℕ, zero, suc, ◌+◌, ◌≤◌, ◌<◌}
use mathlib.Core.Path.{◌≡◌, refl, sym, ap, ap₂, ◌∙◌, subst}
use mathlib.Core.Bool.{Bool, true, false, cond, true≢false, false≢true}
use mathlib.Core.List.{List, [], ◌∷◌, ◌++◌, map, append-nil}
use mathlib.Core.Logic.{⊎_elim}
use native.Mathlib.Omega.{arith}
use native.Mathlib.Nat.{zero-mul}
use native.Mathlib.Numerals.{add-one}
use lib.ListN.{take, get_or, length, length-map, get_or-map, get_or-append}
use lib.Seq.{take_all, get_or-take, get_or-append-add, length-take-le}
use lib.Ieee.{Float, nan, inf, fin, is_nan}
use Rattle.definition.specs.Num.{ent}
use Rattle.definition.specs.Dense.{row}
use Rattle.definition.specs.Run.{scan, join}
use Rattle.definition.specs.Inputs.{class_of, is_gap}
use Rattle.definition.specs.Cov.{Inner, Fixed, Decision, skipped, usual, diffuse, element_of, none_yet}
use Rattle.definition.specs.Parts as parts
use Rattle.definition.specs.Parts.{kind_no, m_star_of, m_inf_of}
use Rattle.laws.specs.Lists.{scan_next, length-scan}
use Rattle.laws.specs.Passes.{map-append, join-append}
use Rattle.laws.specs.Flat.{Flat}
use Rattle.laws.specs.Kinds.{news_kind, news_kind_lem}
use Rattle.dense.specs.Views.{mat, rect}
use Rattle.dense.proofs.Laws.{lt_or_le}
use Rattle.star.specs.Views.{Sound, Replayed, Downdated, projected_at}
use Rattle.star.specs.declared.StarRoot.{StarRoot}
use Rattle.star.proofs.Laws as roots
use Rattle.element.specs.Views.{Carried, carried, inner_of, noise_in, fixed_of, fixed_in, Kept, Recorded, step_of, taken_by, ElementIs, ElementDone, WithoutRoot, ByRootAt}
use Rattle.std.proofs.Common.{Option, None, Some, Bor, is_some, not}
use Rattle.acceptance.specs.Views.{fresh_in}
use Rattle.track.specs.declared.State.{State}
use Rattle.element.specs.declared.Period.{Period}
use Rattle.element.specs.declared.Step.{Step}
use Rattle.element.specs.declared.Step.TheVariants as step
use Rattle.element.proofs.Laws.{applied_taken, stale_next}
use Rattle.period.specs.Views.{Ran, gaps_of, stop_of, up_to, RecordsOf, Gone, none_taken, Stretch, Rest, RestByRoot, TakenAt}

-- ---- what of the state stays the same

pub kept_none : {s : State} → Kept s s
kept_none = record { live = refl; unres = refl }

pub kept_on : {a b c : State} → Kept a b → Kept b c → Kept a c
kept_on k l = record { live = l.live ∙ k.live; unres = l.unres ∙ k.unres }

-- so what was done by it later, was by it as it was
pub still : (P : Fixed → Type 0) (x : Period) (s s' : State) → Kept s s' → P (fixed_in x s') → P (fixed_in x s)
still P x s s' k w = subst (λ (u : List Float). P (fixed_of x s.live u)) k.unres (subst (λ (b : Bool). P (fixed_of x b s'.unres)) k.live w)

pub still_done : (x : Period) (s s' : State) (fresh : Bool) (i : ℕ) (gap : Bool) (b b' : Carried) (r : Step) → Kept s s' → WithoutRoot x.p x.m (noise_in x) (fixed_in x s') fresh i gap b b' r → WithoutRoot x.p x.m (noise_in x) (fixed_in x s) fresh i gap b b' r
still_done x s s' fresh i gap b b' r k w = still (λ (fix : Fixed). WithoutRoot x.p x.m (noise_in x) fix fresh i gap b b' r) x s s' k w

-- ---- the readings: a NaN is a gap

gap_is : (x : Float) → is_nan x ≡ is_gap (class_of x)
unfolding class_of is_nan
gap_is nan = refl
gap_is (inf s) = refl
gap_is (fin s m e) = refl

pub gaps_at : (y : List Float) (i : ℕ) → get_or (gaps_of y) i true ≡ is_nan (get_or y i nan)
unfolding class_of
gaps_at y i = get_or-map is_gap (map class_of y) i (class_of nan) ∙ ap is_gap (get_or-map class_of y i nan) ∙ sym (gap_is (get_or y i nan))

gaps_long : (y : List Float) → length (gaps_of y) ≡ length y
gaps_long y = length-map (map class_of y) is_gap ∙ length-map y class_of

-- ---- the records

joined : {A : Type 0} (g : A → List Float) (ds : List A) (d : A) {l l' : List Float} → l ≡ join (map g ds) → l' ≡ l ++ g d → l' ≡ join (map g (ds ++ (d ∷ [])))
unfolding join
joined g ds d e h = h ∙ ap₂ (λ (a : List Float) (b : List Float). a ++ b) e (sym (append-nil (g d))) ∙ sym (join-append (map g ds) (g d ∷ [])) ∙ ap join (sym (map-append g ds (d ∷ [])))

mapped : {A B : Type 0} (g : A → B) (ds : List A) (d : A) {l l' : List B} → l ≡ map g ds → l' ≡ l ++ (g d ∷ []) → l' ≡ map g (ds ++ (d ∷ []))
mapped {B = B} g ds d e h = h ∙ ap (λ (a : List B). a ++ (g d ∷ [])) e ∙ sym (map-append g ds (d ∷ []))

records_none : (m : ℕ) (n : Flat) → RecordsOf m 0 [] n
unfolding rect join
records_none m n = record { kinds = refl; f_stars = refl; f_infs = refl; m_stars = rw zero-mul refl; m_infs = rw zero-mul refl }

records_next : (m i : ℕ) (ds : List Decision) (d : Decision) {n n' : Flat} → RecordsOf m i ds n → Recorded m i d n n' → RecordsOf m (i + 1) (ds ++ (d ∷ [])) n'
records_next m i ds d f r = record {
  kinds = mapped kind_no ds d f.kinds r.kinds;
  f_stars = mapped parts.f_star_of ds d f.f_stars r.f_stars;
  f_infs = mapped parts.f_inf_of ds d f.f_infs r.f_infs;
  m_stars = joined (m_star_of m) ds d f.m_stars r.m_stars;
  m_infs = joined (m_inf_of m) ds d f.m_infs r.m_infs;
}

-- ---- one element more

module _ (p m : ℕ) (h : List Float) (fix : Fixed) (gaps : List Bool) (s : Inner) where
  abbrev At : ℕ → List Decision × Inner
  At i = up_to p m h fix gaps s i

  abbrev Next : ℕ → Decision × Inner
  Next i = element_of p m h fix i (At i).1 (get_or gaps i true)

  at_next : (i : ℕ) → i < length gaps → At (i + 1) ≡ ((At i).0 ++ ((Next i).0 ∷ []), (Next i).1)
  at_next i b = rw add-one (scan_next (element_of p m h fix) gaps i s true b)

  pub gone_none : (b : Carried) → inner_of m b [] ≡ s → Gone p m h fix gaps s 0 b
  unfolding scan
  gone_none b e = record { inner = rw (sym e) refl; records = records_none m b.flat }

  gone_next : (i : ℕ) (b b' : Carried) → i < length gaps → Gone p m h fix gaps s i b → inner_of m b' (Next i).1.taken ≡ (Next i).1 → Recorded m i (Next i).0 b.flat b'.flat → Gone p m h fix gaps s (i + 1) b'
  gone_next i b b' l g e r = record {
    inner = subst (λ (x : List Decision × Inner). inner_of m b' x.1.taken ≡ x.1) (sym (at_next i l)) e;
    records = subst (λ (x : List Decision × Inner). RecordsOf m (i + 1) x.0 b'.flat) (sym (at_next i l)) (records_next m i (At i).0 (Next i).0 g.records r);
  }

  next_taken : (i : ℕ) → i < length gaps → (At (i + 1)).1.taken ≡ taken_by (Next i).0 (At i).1.taken i
  unfolding element_of
  next_taken i l = ap (λ (x : List Decision × Inner). x.1.taken) (at_next i l) ∙ applied_taken m (row m fix.z i) i (At i).1 (Next i).0

  -- element i was done on what the first i left
  next_is : (i : ℕ) (b : Carried) {gap : Bool} → Gone p m h fix gaps s i b → gap ≡ get_or gaps i true → element_of p m h fix i (inner_of m b (At i).1.taken) gap ≡ Next i
  next_is i b g e = ap₂ (element_of p m h fix i) g.inner e

-- whether none was taken, after a decision
passed_none : (d : Decision) (t : List ℕ) (i : ℕ) → step.Passed ≡ step_of d → none_yet (taken_by d t i) ≡ none_yet t
passed_none (skipped c) t i e = refl
passed_none (usual f a) t i e = absurd (let z : ◌≡◌ {A = ℕ} 0 1 = cc in omega arith)
passed_none (diffuse f g a c) t i e = absurd (let z : ◌≡◌ {A = ℕ} 0 1 = cc in omega arith)

taken_some : (d : Decision) (t : List ℕ) (i : ℕ) → step.Taken ≡ step_of d → none_yet (taken_by d t i) ≡ false
taken_some (skipped c) t i e = absurd (let z : ◌≡◌ {A = ℕ} 0 1 = cc in omega arith)
taken_some (usual f a) t i e = stale_next t i
taken_some (diffuse f g a c) t i e = stale_next t i

-- ---- a stretch without the star root

some_is : {i j : ℕ} → Some i ≡ Some j → i ≡ j
some_is e = cc

some_none : {i : ℕ} → Some i ≡ None → ⊥
some_none e = absurd (let z : ◌≡◌ {A = ℕ} 0 1 = cc in omega arith)

fresh_is : (sd : Option (Bor (List Float))) (fresh : Bool) → is_some sd ≡ not fresh → fresh ≡ fresh_in sd
fresh_is None true e = refl
fresh_is None false e = absurd (false≢true e)
fresh_is (Some x) true e = absurd (true≢false e)
fresh_is (Some x) false e = refl

none_by : (o : Option ℕ) → ((i : ℕ) → o ≡ Some i → ⊥) → o ≡ None
none_by None n = refl
none_by (Some i) n = absurd (n i refl)

-- where the next stretch begins, as the code has it
module _ (sd : Option (Bor (List Float))) (fresh : Bool) (r : Step) (i : ℕ) {o : Option ℕ} (f : is_some sd ≡ not fresh) (e : o ≡ stop_of r fresh i) where
  pub stops_at : {at : ℕ} → o ≡ Some at → stop_of r (fresh_in sd) i ≡ Some at
  stops_at g = ap (λ (b : Bool). stop_of r b i) (sym (fresh_is sd fresh f)) ∙ sym e ∙ g

  pub goes_on : ((at : ℕ) → o ≡ Some at → ⊥) → stop_of r (fresh_in sd) i ≡ None
  goes_on n = ap (λ (b : Bool). stop_of r b i) (sym (fresh_is sd fresh f)) ∙ sym e ∙ none_by o n

-- whether a stretch that took an element began fresh, by whether it ends there
fresh_no : (fresh : Bool) (i : ℕ) → cond fresh (Some i) None ≡ None → fresh ≡ false
fresh_no true i e = absurd (some_none e)
fresh_no false i e = refl

fresh_yes : (fresh : Bool) (i j : ℕ) → cond fresh (Some i) None ≡ Some j → (fresh ≡ true) × (i ≡ j)
fresh_yes true i j e = (refl, some_is e)
fresh_yes false i j e = absurd (some_none (sym e))

pub record Under (p m : ℕ) (h : List Float) (fix : Fixed) (gaps : List Bool) (fresh : Bool) (from i : ℕ) (b₀ b : Carried) : Type 0 where
  pub high : i ≤ p
  pub gone : (s : Inner) → Gone p m h fix gaps s from b₀ → fresh ≡ none_taken p m h fix gaps s from → Gone p m h fix gaps s i b × (fresh ≡ none_taken p m h fix gaps s i)

module _ (p m : ℕ) (h : List Float) (fix : Fixed) (ys : List Float) (fresh : Bool) (from : ℕ) where
  pub under_start : (b : Carried) → from ≤ p → Under p m h fix (gaps_of ys) fresh from from b b
  under_start b l = record { high = l; gone = λ s g e. (g, e) }

  module _ (i : ℕ) (b₀ b b' : Carried) (u : Under p m h fix (gaps_of ys) fresh from i b₀ b) (l : i < p) (n : length ys ≡ p) {gap : Bool} (eg : gap ≡ is_nan (get_or ys i nan)) where
    long : i < length (gaps_of ys)
    long = omega (arith, gaps_long ys)

    -- what an element that was settled leaves
    settled : {r : Step} → ElementDone p m h fix fresh i gap b b' r → (s : Inner) → Gone p m h fix (gaps_of ys) s from b₀ → fresh ≡ none_taken p m h fix (gaps_of ys) s from
        → Gone p m h fix (gaps_of ys) s (i + 1) b' × (r ≡ step_of (Next p m h fix (gaps_of ys) s i).0)
    settled {r} w s g e =
        let k = u.gone s g e in
        let t = (At p m h fix (gaps_of ys) s i).1.taken in
        let d : ElementIs m i (Next p m h fix (gaps_of ys) s i) r b b' = subst (λ (x : Decision × Inner). ElementIs m i x r b b') (next_is p m h fix (gaps_of ys) s i b k.0 (eg ∙ sym (gaps_at ys i))) (w t k.1) in
        (gone_next p m h fix (gaps_of ys) s i b b' long k.0 d.inner d.recorded, d.told)

    pub under_next : (r : Step) → WithoutRoot p m h fix fresh i gap b b' r → stop_of r fresh i ≡ None → Under p m h fix (gaps_of ys) fresh from (i + 1) b₀ b'
    unfolding WithoutRoot stop_of
    under_next step.Passed w f = record {
      high = omega arith;
      gone = λ s g e. ((settled w s g e).0, (u.gone s g e).1 ∙ sym (passed_none (Next p m h fix (gaps_of ys) s i).0 (At p m h fix (gaps_of ys) s i).1.taken i (settled w s g e).1) ∙ ap none_yet (sym (next_taken p m h fix (gaps_of ys) s i long)));
    }
    under_next step.Taken w f = record {
      high = omega arith;
      gone = λ s g e. ((settled w s g e).0, fresh_no fresh (i + 1) f ∙ sym (taken_some (Next p m h fix (gaps_of ys) s i).0 (At p m h fix (gaps_of ys) s i).1.taken i (settled w s g e).1) ∙ ap none_yet (sym (next_taken p m h fix (gaps_of ys) s i long)));
    }
    under_next step.Doubtful w f = absurd (some_none f)

    pub under_stop : (r : Step) (at : ℕ) → WithoutRoot p m h fix fresh i gap b b' r → stop_of r fresh i ≡ Some at → Stretch p m h fix (gaps_of ys) fresh from at b₀ b'
    unfolding WithoutRoot stop_of
    under_stop step.Passed at w f = absurd (some_none (sym f))
    under_stop step.Taken at w f = rw (← (fresh_yes fresh (i + 1) at f).1) (record {
      high = omega arith;
      gone = λ s g e. ((settled w s g e).0, λ x. ap none_yet (next_taken p m h fix (gaps_of ys) s i long) ∙ taken_some (Next p m h fix (gaps_of ys) s i).0 (At p m h fix (gaps_of ys) s i).1.taken i (settled w s g e).1);
      calm = λ x e. absurd (true≢false (sym (fresh_yes fresh (i + 1) at f).0 ∙ e));
    })
    under_stop step.Doubtful at w f = rw (← some_is f) (record {
      high = omega arith;
      gone = λ s g e. (subst (λ (x : Carried). Gone p m h fix (gaps_of ys) s i x) (sym w.same) (u.gone s g e).0, λ x. sym (u.gone s g e).1 ∙ w.stale);
      calm = λ x e. w.settled;
    })

  pub under_end : (i : ℕ) (b₀ b : Carried) → Under p m h fix (gaps_of ys) fresh from i b₀ b → p ≤ i → Stretch p m h fix (gaps_of ys) fresh from p b₀ b
  under_end i b₀ b u l =
      let e : i ≡ p = omega (arith, u.high) in
      record {
        high = omega arith;
        gone = λ s g k. (subst (λ (x : ℕ). Gone p m h fix (gaps_of ys) s x b) e (u.gone s g k).0, λ x. absurd (omega arith));
        calm = λ x. absurd (omega arith);
      }

-- ---- the stretch with the star root

-- an element was taken before, and is
still_stale : (more : Bool) (taken : List ℕ) (i : ℕ) → none_yet taken ≡ false → none_yet (cond more (taken ++ (i ∷ [])) taken) ≡ false
still_stale true taken i e = stale_next taken i
still_stale false taken i e = e

-- a decision takes an element where its kind is news
taken_news : (d : Decision) (t : List ℕ) (i : ℕ) → taken_by d t i ≡ cond (news_kind (kind_no d)) (t ++ (i ∷ [])) t
taken_news (skipped c) t i = rw (news_kind_lem (skipped c))
taken_news (usual f a) t i = refl
taken_news (diffuse f g a c) t i = refl

-- the kind of an element that is done, in its record
kind_of : (p m : ℕ) (h : List Float) (fix : Fixed) (gaps : List Bool) (s : Inner) (j i : ℕ) → i < j → j ≤ length gaps → get_or (map kind_no (At p m h fix gaps s j).0) i 0 ≡ kind_no (Next p m h fix gaps s i).0
kind_of p m h fix gaps s zero i b l = absurd (omega arith)
kind_of p m h fix gaps s (suc j) i b l =
    let ks = map kind_no (At p m h fix gaps s j).0 in
    let long : length ks ≡ j = length-map (At p m h fix gaps s j).0 kind_no ∙ length-scan (element_of p m h fix) (take j gaps) 0 s ∙ length-take-le j gaps (omega arith) in
    ap (λ (x : List Decision × Inner). get_or (map kind_no x.0) i 0) (scan_next (element_of p m h fix) gaps j s true l)
    ∙ ap (λ (x : List ℕ). get_or x i 0) (map-append kind_no (At p m h fix gaps s j).0 ((Next p m h fix gaps s j).0 ∷ []))
    ∙ ⊎_elim (λ (w : i < j). get_or-append ks (kind_no (Next p m h fix gaps s j).0 ∷ []) 0 i (omega arith) ∙ kind_of p m h fix gaps s j i w (omega arith))
    (λ (w : j ≤ i).
    let e : i ≡ j = omega arith in
    let o : i ≡ length ks + 0 = omega arith in
    ap (λ (x : ℕ). get_or (ks ++ (kind_no (Next p m h fix gaps s j).0 ∷ [])) x 0) o ∙ get_or-append-add ks (kind_no (Next p m h fix gaps s j).0 ∷ []) 0 0 ∙ ap (λ (x : ℕ). kind_no (Next p m h fix gaps s x).0) (sym e))
    (lt_or_le i j)

module _ (per : Period) (ys : List Float) (from : ℕ) (star₀ : List Float) (n₀ : Flat) where
  abbrev Fix : List Float → Fixed
  Fix unres = fixed_of per false unres

  -- i elements gone through: the root is that of those taken among them; from `from` on they are done here
  pub record Rooted (i : ℕ) (root : StarRoot) (star : List Float) (n : Flat) : Type 0 where
    pub high : i ≤ per.p
    pub same : i ≤ from → (star ≡ star₀) × (n ≡ n₀)
    pub gone : (p∞ b unres : List Float) (s : Inner) → s.taken ≡ [] → Gone per.p per.m (noise_in per) (Fix unres) (gaps_of ys) s from (carried star₀ p∞ b n₀)
        → none_taken per.p per.m (noise_in per) (Fix unres) (gaps_of ys) s from ≡ false
        → Replayed per.p per.m (rect per.p per.m per.design.now) (noise_in per) (mat per.m per.pre.now) (up_to per.p per.m (noise_in per) (Fix unres) (gaps_of ys) s i).1.taken root
        × (from ≤ i → Gone per.p per.m (noise_in per) (Fix unres) (gaps_of ys) s i (carried star p∞ b n) × (none_taken per.p per.m (noise_in per) (Fix unres) (gaps_of ys) s i ≡ false))

  pub rooted_start : {root : StarRoot} → ((g : List Float) → Replayed per.p per.m (rect per.p per.m per.design.now) g (mat per.m per.pre.now) [] root) → Rooted 0 root star₀ n₀
  unfolding scan
  rooted_start w = record {
    high = omega arith;
    same = λ l. (refl, refl);
    gone = λ p∞ b unres s q g e. (rw q (w (noise_in per)), λ l. let k : from ≡ 0 = omega arith in subst (λ (x : ℕ). Gone per.p per.m (noise_in per) (Fix unres) (gaps_of ys) s x (carried star₀ p∞ b n₀) × (none_taken per.p per.m (noise_in per) (Fix unres) (gaps_of ys) s x ≡ false)) k (g, e));
  }

  pub rooted_end : (i : ℕ) (root : StarRoot) (star : List Float) (n : Flat) → Rooted i root star n → per.p ≤ i → from ≤ per.p → RestByRoot per (gaps_of ys) from star₀ n₀ star n
  rooted_end i root star n r l f = λ p∞ b unres s q g e.
      let k : i ≡ per.p = omega (arith, r.high) in
      subst (λ (x : ℕ). Gone per.p per.m (noise_in per) (Fix unres) (gaps_of ys) s x (carried star p∞ b n)) k ((r.gone p∞ b unres s q g e).1 (omega arith)).0

  -- an element more, by whether it is taken: the root that was asked goes on, or follows it
  module _ (i : ℕ) (root : StarRoot) (star star' : List Float) (n n' : Flat) {taken : Bool} {again : Float} (r : Rooted i root star n)
      (l : i < per.p) (fp : from ≤ per.p) (k : length ys ≡ per.p) (asked : again ≡ projected_at root (row per.m (rect per.p per.m per.design.now) i) (ent per.p (noise_in per) i i))
      (w : TakenAt per ys from i again star n star' n' taken) where
    in_row : i < length (gaps_of ys)
    in_row = omega (arith, gaps_long ys)

    -- of an element that is done
    before : i < from → (p∞ b unres : List Float) (s : Inner) → Gone per.p per.m (noise_in per) (Fix unres) (gaps_of ys) s from (carried star₀ p∞ b n₀)
        → (At per.p per.m (noise_in per) (Fix unres) (gaps_of ys) s (i + 1)).1.taken ≡ cond taken ((At per.p per.m (noise_in per) (Fix unres) (gaps_of ys) s i).1.taken ++ (i ∷ [])) (At per.p per.m (noise_in per) (Fix unres) (gaps_of ys) s i).1.taken
    before f p∞ b unres s g =
        let d = (Next per.p per.m (noise_in per) (Fix unres) (gaps_of ys) s i).0 in
        let t = (At per.p per.m (noise_in per) (Fix unres) (gaps_of ys) s i).1.taken in
        let kind : get_or n.kinds i 0 ≡ kind_no d =
        ap (λ (x : Flat). get_or x.kinds i 0) (r.same (omega arith)).1 ∙ sym (get_or-take from n₀.kinds i 0 f) ∙ ap (λ (x : List ℕ). get_or x i 0) g.records.kinds
        ∙ kind_of per.p per.m (noise_in per) (Fix unres) (gaps_of ys) s from i f (omega (arith, gaps_long ys)) in
        next_taken per.p per.m (noise_in per) (Fix unres) (gaps_of ys) s i in_row ∙ taken_news d t i ∙ ap (λ (x : Bool). cond x (t ++ (i ∷ [])) t) (sym ((w.done f).1.1 ∙ ap news_kind kind))

    next : (root' : StarRoot) → ((t : List ℕ) → Replayed per.p per.m (rect per.p per.m per.design.now) (noise_in per) (mat per.m per.pre.now) t root → Replayed per.p per.m (rect per.p per.m per.design.now) (noise_in per) (mat per.m per.pre.now) (cond taken (t ++ (i ∷ [])) t) root')
        → Rooted (i + 1) root' star' n'
    next root' follows = record {
      high = omega arith;
      same = λ f. let q = w.done (omega arith) in (q.0 ∙ (r.same (omega arith)).0, q.1.0 ∙ (r.same (omega arith)).1);
      gone = λ p∞ b unres s q g e.
          let was = r.gone p∞ b unres s q g e in
          let t = (At per.p per.m (noise_in per) (Fix unres) (gaps_of ys) s i).1.taken in
          let on : (u : (At per.p per.m (noise_in per) (Fix unres) (gaps_of ys) s (i + 1)).1.taken ≡ cond taken (t ++ (i ∷ [])) t) → Replayed per.p per.m (rect per.p per.m per.design.now) (noise_in per) (mat per.m per.pre.now) (At per.p per.m (noise_in per) (Fix unres) (gaps_of ys) s (i + 1)).1.taken root' =
          (λ u. subst (λ (x : List ℕ). Replayed per.p per.m (rect per.p per.m per.design.now) (noise_in per) (mat per.m per.pre.now) x root') (sym u) (follows t was.0)) in
          ⊎_elim
          (λ (f : i < from). (
            on (before f p∞ b unres s g),
            λ c.
                let o : from ≡ i + 1 = omega arith in
                let z = w.done f in
                subst (λ (x : ℕ). Gone per.p per.m (noise_in per) (Fix unres) (gaps_of ys) s x (carried star' p∞ b n') × (none_taken per.p per.m (noise_in per) (Fix unres) (gaps_of ys) s x ≡ false)) o
                (rw (z.0 ∙ (r.same (omega arith)).0, z.1.0 ∙ (r.same (omega arith)).1) (g, e)),
          ))
          (λ (f : from ≤ i).
          let at = was.1 f in
          let v : ByRootAt per.m i (Next per.p per.m (noise_in per) (Fix unres) (gaps_of ys) s i) t (carried star p∞ b n) (carried star' p∞ b n') taken =
          subst (λ (x : Decision × Inner). ByRootAt per.m i x t (carried star p∞ b n) (carried star' p∞ b n') taken)
          (next_is per.p per.m (noise_in per) (Fix unres) (gaps_of ys) s i (carried star p∞ b n) at.0 (sym (gaps_at ys i)))
          (w.here f p∞ b unres t at.1 (asked ∙ roots.kept_again per.p per.m (rect per.p per.m per.design.now) (noise_in per) (mat per.m per.pre.now) t root was.0 i)) in
          let u : (At per.p per.m (noise_in per) (Fix unres) (gaps_of ys) s (i + 1)).1.taken ≡ cond taken (t ++ (i ∷ [])) t =
          ap (λ (x : List Decision × Inner). x.1.taken) (at_next per.p per.m (noise_in per) (Fix unres) (gaps_of ys) s i in_row) ∙ v.joined in
          (on u, λ c. (gone_next per.p per.m (noise_in per) (Fix unres) (gaps_of ys) s i (carried star p∞ b n) (carried star' p∞ b n') in_row at.0 v.inner v.recorded, ap none_yet u ∙ still_stale taken t i at.1)))
          (lt_or_le i from);
    }

    pub rooted_kept : Sound per.m root → taken ≡ false → Sound per.m root × Rooted (i + 1) root star' n'
    rooted_kept q e = (q, next root (λ t v. rw e v))

    pub rooted_follows : {root' : StarRoot} → Sound per.m root → taken ≡ true → Downdated (row per.m (rect per.p per.m per.design.now) i) (ent per.p (noise_in per) i i) root root' → Sound per.m root' × Rooted (i + 1) root' star' n'
    rooted_follows {root'} q e d = (
      roots.sound_by per.m (row per.m (rect per.p per.m per.design.now) i) (ent per.p (noise_in per) i i) root root' q d,
      next root' (λ t v. rw e (roots.kept_next per.p per.m (rect per.p per.m per.design.now) (noise_in per) (mat per.m per.pre.now) t root v i root' d)),
    )

-- ---- the stretches, one after the other

module _ (p m : ℕ) (h : List Float) (fix : Fixed) (ys : List Float) (n : Flat) (z : State) where
  -- what they leave
  abbrev Left : Carried
  Left = carried z.star z.p_inf z.root n

  -- all elements done
  ran : (s : Inner) → length ys ≡ p → Gone p m h fix (gaps_of ys) s p Left → Ran p m (scan (element_of p m h fix) 0 s (gaps_of ys)) n z
  ran s l g =
      let t : take p (gaps_of ys) ≡ gaps_of ys = take_all p (gaps_of ys) (omega (arith, gaps_long ys)) in
      let i = subst (λ (x : List Bool). inner_of m Left (scan (element_of p m h fix) 0 s x).1.taken ≡ (scan (element_of p m h fix) 0 s x).1) t g.inner in
      let f = subst (λ (x : List Bool). RecordsOf m p (scan (element_of p m h fix) 0 s x).0 n) t g.records in
      record {
        kinds = f.kinds;
        f_stars = f.f_stars;
        f_infs = f.f_infs;
        m_stars = f.m_stars;
        m_infs = f.m_infs;
        star = ap (λ (x : Inner). x.star) i;
        pinf = ap (λ (x : Inner). x.pinf) i;
        root = ap (λ (x : Inner). x.root) i;
      }

  -- before the first element none is taken
  none_at : (s : Inner) → s.taken ≡ [] → true ≡ none_taken p m h fix (gaps_of ys) s 0
  unfolding scan
  none_at s q = rw q

  -- the first stretch, and what follows it
  pub first_all : (at : ℕ) (s : Inner) (b : Carried) → length ys ≡ p → Stretch p m h fix (gaps_of ys) true 0 at b Left → inner_of m b [] ≡ s → p ≤ at
      → Ran p m (scan (element_of p m h fix) 0 s (gaps_of ys)) n z
  first_all at s b long w e l =
      let k : at ≡ p = omega (arith, w.high) in
      ran s long (subst (λ (x : ℕ). Gone p m h fix (gaps_of ys) s x Left) k (w.gone s (gone_none p m h fix (gaps_of ys) s b e) (none_at s (ap (λ (x : Inner). x.taken) (sym e)))).0)

  pub first_rest : (at : ℕ) (s : Inner) (b b' : Carried) → length ys ≡ p → Stretch p m h fix (gaps_of ys) true 0 at b b' → inner_of m b [] ≡ s → at < p → Rest p m h fix (gaps_of ys) at b' Left
      → Ran p m (scan (element_of p m h fix) 0 s (gaps_of ys)) n z
  first_rest at s b b' long w e l r =
      let q : s.taken ≡ [] = ap (λ (x : Inner). x.taken) (sym e) in
      let g = w.gone s (gone_none p m h fix (gaps_of ys) s b e) (none_at s q) in
      ran s long (r s q g.0 (g.1 l))

-- the second, and the star root where it stopped
module _ (x : Period) (ys : List Float) (s : State) (from at : ℕ) (b : Carried) where
  pub second_all : (b' : Carried) → Stretch x.p x.m (noise_in x) (fixed_in x s) (gaps_of ys) false from at b b' → x.p ≤ at → Rest x.p x.m (noise_in x) (fixed_in x s) (gaps_of ys) from b b'
  second_all b' w l = λ i q g e. let k : at ≡ x.p = omega (arith, w.high) in subst (λ (y : ℕ). Gone x.p x.m (noise_in x) (fixed_in x s) (gaps_of ys) i y b') k (w.gone i g (sym e)).0

  pub second_root : (star star' p∞ root : List Float) (n n' : Flat) → Stretch x.p x.m (noise_in x) (fixed_in x s) (gaps_of ys) false from at b (carried star p∞ root n) → at < x.p → RestByRoot x (gaps_of ys) at star n star' n'
      → Rest x.p x.m (noise_in x) (fixed_in x s) (gaps_of ys) from b (carried star' p∞ root n')
  second_root star star' p∞ root n n' w l r = by_live s.live (w.calm l refl) w
    where
      by_live : (live : Bool) → live ≡ false → Stretch x.p x.m (noise_in x) (fixed_of x live s.unres) (gaps_of ys) false from at b (carried star p∞ root n) → Rest x.p x.m (noise_in x) (fixed_of x live s.unres) (gaps_of ys) from b (carried star' p∞ root n')
      by_live true f v = absurd (true≢false f)
      by_live false f v = λ i q g e. let k = v.gone i g (sym e) in r p∞ root s.unres i q k.0 (k.1 l)
