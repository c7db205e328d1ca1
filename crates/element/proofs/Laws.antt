-- What the calls of a function give, put together: equations over plain variables.
use Prim.Native.Nat.{ℕ, ◌≤◌}
use mathlib.Core.Path.{◌≡◌, refl, sym, ap, ◌∙◌, subst}
use mathlib.Core.Bool.{Bool, true, false, cond}
use mathlib.Core.List.{List, [], ◌∷◌, ◌++◌}
use lib.ListN.{take, replicate}
use lib.Ieee.{Float}
use Rattle.definition.specs.Num.{0ᶠ, ent}
use Rattle.definition.specs.Dense.{mat_vec, mat_tVec, outer_sub, over, dot, row}
use Rattle.definition.specs.Cov.{
  Cause,
  Candidate,
  atGap,
  Decision,
  skipped,
  usual,
  diffuse,
  Inner,
  Fixed,
  root_less,
  k1_of,
  dust,
  usually,
  diffusely,
  judge,
  f_star_by,
  apply,
  candidate,
  verdict,
  element_of,
  none_yet,
  sd_of,
}
use Rattle.definition.specs.Parts.{cause_no}
use Rattle.definition.specs.Star.{again_of}
use Rattle.laws.specs.Flat.{Flat}
use Rattle.std.proofs.Common.{Result, Ok, Err}
use Rattle.promise.specs.declared.Cause as told
use Rattle.dense.specs.Views.{vec, mat, rect}
use Rattle.dense.proofs.Laws as dense
use Rattle.acceptance.specs.declared.Finding.{Finding}
use Rattle.acceptance.specs.declared.Finding.TheVariants as finding
use Rattle.promise.specs.Records.{cause_in}
use Rattle.acceptance.specs.Views.{decision_by, decision_on, judged_by}
use Rattle.element.specs.declared.Period.{Period}
use Rattle.element.specs.declared.Step.{Step}
use Rattle.element.specs.declared.Step.TheVariants as step
use Rattle.element.specs.Views.{Updated, Carried, carried, inner_of, fixed_of, noise_in, Entered, Recorded, taken_by, Applied, Settled, ElementIs, ElementDone, WithoutRoot, ByRoot}

module _ (m : ℕ) (z r : List Float) {u bu g r' : List Float} {d : Float} where
  pub root_less_lem : u ≡ mat_tVec m r z → bu ≡ mat_vec m r u → d ≡ dot m u u → g ≡ over m u d → r' ≡ outer_sub m r bu g → r' ≡ root_less m z r
  unfolding root_less
  root_less_lem a b c e f = cc

module _ (m : ℕ) (p m* m∞ : List Float) (f f∞ : Float) {p1 p2 k0 k1 : List Float} where
  pub diffuse_star : k0 ≡ over m m∞ f∞ → k1 ≡ k1_of m m* k0 f f∞ → p1 ≡ outer_sub m p m* k0 → p2 ≡ outer_sub m p1 m∞ k1 → p2 ≡ outer_sub m (outer_sub m p m* (over m m∞ f∞)) m∞ (k1_of m m* (over m m∞ f∞) f f∞)
  diffuse_star a b c d = cc

module _ (m : ℕ) (q m∞ : List Float) (f∞ : Float) {q1 k0 : List Float} where
  pub diffuse_pinf : k0 ≡ over m m∞ f∞ → q1 ≡ outer_sub m q m∞ k0 → q1 ≡ outer_sub m q m∞ (over m m∞ f∞)
  diffuse_pinf a b = cc

-- ---- the record of an element

-- unused gain vectors are +0.0
module _ (i m : ℕ) {n n' : Flat} (h : m ≤ 8) where
  pub recorded_skipped : (c : Cause) {k : ℕ} → k ≡ cause_no c → Entered i m k 0ᶠ 0ᶠ (vec m (replicate 8 0ᶠ)) (vec m (replicate 8 0ᶠ)) n n' → Recorded m i (skipped c) n n'
  recorded_skipped c e w = record { kinds = w.kinds ∙ ap (λ (x : ℕ). take i n.kinds ++ (x ∷ [])) e; f_stars = w.f_stars; f_infs = w.f_infs; m_stars = w.m_stars ∙ ap (λ (x : List Float). rect i m n.m_stars ++ x) (dense.vec-zeros m 8 h); m_infs = w.m_infs ∙ ap (λ (x : List Float). rect i m n.m_infs ++ x) (dense.vec-zeros m 8 h) }

  pub recorded_usual : (f : Float) (a : List Float) → Entered i m 1 f 0ᶠ a (vec m (replicate 8 0ᶠ)) n n' → Recorded m i (usual f a) n n'
  recorded_usual f a w = record { kinds = w.kinds; f_stars = w.f_stars; f_infs = w.f_infs; m_stars = w.m_stars; m_infs = w.m_infs ∙ ap (λ (x : List Float). rect i m n.m_infs ++ x) (dense.vec-zeros m 8 h) }

-- ---- a decision, carried out
module _ (m i : ℕ) (z : List Float) (b b' : Carried) where
  pub moved_none : (c : Cause) → b'.star ≡ b.star → b'.pinf ≡ b.pinf → b'.root ≡ b.root → Recorded m i (skipped c) b.flat b'.flat → Applied m i z (skipped c) step.Passed b b'
  unfolding apply
  moved_none c e1 e2 e3 w = record { inner = λ taken. rw (e1, e2, e3); recorded = w; told = refl }

  pub moved_usual : (f : Float) (a : List Float) → mat m b'.star ≡ outer_sub m (mat m b.star) a (over m a f) → b'.pinf ≡ b.pinf → b'.root ≡ b.root
      → Recorded m i (usual f a) b.flat b'.flat → Applied m i z (usual f a) step.Taken b b'
  unfolding apply
  moved_usual f a e1 e2 e3 w = record { inner = λ taken. rw (e1, e2, e3); recorded = w; told = refl }

  pub moved_diffuse : (f g : Float) (a c : List Float) → Updated m b.star b.pinf a c f g b'.star b'.pinf → mat m b'.root ≡ root_less m z (mat m b.root)
      → Recorded m i (diffuse f g (vec m a) (vec m c)) b.flat b'.flat → Applied m i z (diffuse f g (vec m a) (vec m c)) step.Taken b b'
  unfolding apply
  moved_diffuse f g a c u e w = record { inner = λ taken. rw (u.star, u.pinf, e); recorded = w; told = refl }

module _ (m i : ℕ) (z : List Float) (f : Float) {d : Finding} (a c : List Float) {r : Step} (b b' : Carried) where
  pub settled_nothing : (why : told.Cause) → d ≡ finding.Nothing why → Applied m i z (skipped (cause_in why)) r b b' → Settled m i z f d a c r b b'
  unfolding Settled
  settled_nothing why e w = rw e w

  pub settled_usual : d ≡ finding.Usual → Applied m i z (usual f (vec m a)) r b b' → Settled m i z f d a c r b b'
  unfolding Settled
  settled_usual e w = rw e w

  pub settled_diffuse : (g : Float) → d ≡ finding.Diffuse g → Applied m i z (diffuse f g (vec m a) (vec m c)) r b b' → Settled m i z f d a c r b b'
  unfolding Settled
  settled_diffuse g e w = rw e w

  pub settled_doubt : (x : Float) → d ≡ finding.Doubtful x → r ≡ step.Doubtful → b' ≡ b → Settled m i z f d a c r b b'
  unfolding Settled
  settled_doubt x e t s = rw e (t, s)

-- ---- element i, as the definition has it

-- an element as the definition judges it
abbrev judged_as : List Float → Float → Bool → List Float → List Float → List Float → Bool → Float → List Float → List Float → List Float → Candidate
judged_as z h live pre sd unres fresh again star pinf root = record { z = z; h = h; live = live; pre = pre; sd = sd; unres = unres; fresh = fresh; again = again; star = star; pinf = pinf; root = root }

-- before the period's first update the standard deviations are not read
judged_known : (m : ℕ) (z : List Float) (h : Float) (live : Bool) (pre sd sd' : List Float) (again : Float) (fresh : Bool) (unres star pinf root : List Float) (f : Float) (m* : List Float)
    → (fresh ≡ false → sd ≡ sd') → judged_by m (judged_as z h live pre sd unres fresh again star pinf root) f m* ≡ judged_by m (judged_as z h live pre sd' unres fresh again star pinf root) f m*
unfolding judged_by diffusely usually dust
judged_known m z h live pre sd sd' again true unres star pinf root f m* k = refl
judged_known m z h live pre sd sd' again false unres star pinf root f m* k = rw (k refl)

judged_is : (m : ℕ) (z : List Float) (h : Float) (live : Bool) (pre sd : List Float) (again : Float) (fresh : Bool) (unres star pinf root : List Float) {f : Float} {m* : List Float}
    → m* ≡ mat_vec m star z → f ≡ f_star_by m z h m* → judged_by m (judged_as z h live pre sd unres fresh again star pinf root) f m* ≡ judge m (judged_as z h live pre sd unres fresh again star pinf root)
unfolding judged_by judge
judged_is m z h live pre sd again fresh unres star pinf root e1 e2 = rw (e2, e1)

-- the elements taken, after a decision
pub applied_taken : (m : ℕ) (z : List Float) (i : ℕ) (s : Inner) (d : Decision) → (apply m z i s d).taken ≡ taken_by d s.taken i
unfolding apply
applied_taken m z i s (skipped c) = refl
applied_taken m z i s (usual f m*) = refl
applied_taken m z i s (diffuse f f∞ m* m∞) = refl

module _ (p m : ℕ) (hs : List Float) (fix : Fixed) (i : ℕ) (s : Inner) where
  gap_is : {gap : Bool} → gap ≡ true → (skipped atGap, s) ≡ element_of p m hs fix i s gap
  unfolding element_of verdict apply
  gap_is e = rw e

  element_is : {gap : Bool} {z : List Float} {h : Float} {d : Decision} → gap ≡ false → z ≡ row m fix.z i → h ≡ ent p hs i i
      → d ≡ judge m (judged_as z h fix.diffuse fix.pre (sd_of m fix.pre) fix.unres (none_yet s.taken) (again_of p m fix.z hs fix.pre i s.taken) s.star s.pinf s.root)
      → (d, apply m z i s d) ≡ element_of p m hs fix i s gap
  unfolding element_of verdict candidate
  element_is e e1 e2 w = rw (e, sym e1, sym e2, sym w)

-- a decision that was carried out, of what the definition has
did : (m i : ℕ) (z : List Float) (d : Decision) {want : Decision × Inner} (taken : List ℕ) (r : Step) (b b' : Carried) → (d, apply m z i (inner_of m b taken) d) ≡ want → Applied m i z d r b b' → ElementIs m i want r b b'
did m i z d {want} taken r b b' e w = subst (λ (x : Decision × Inner). ElementIs m i x r b b') e
    (record { inner = ap (λ (t : List ℕ). inner_of m b' t) (applied_taken m z i (inner_of m b taken) d) ∙ w.inner taken; recorded = w.recorded; told = w.told })

module _ (p m : ℕ) (hs : List Float) (fix : Fixed) (fresh : Bool) (i : ℕ) {gap : Bool} (b b' : Carried) where
  pub went_gap : gap ≡ true → b'.star ≡ b.star → b'.pinf ≡ b.pinf → b'.root ≡ b.root → Recorded m i (skipped atGap) b.flat b'.flat → WithoutRoot p m hs fix fresh i gap b b' step.Passed
  unfolding WithoutRoot apply
  went_gap e e1 e2 e3 w = λ taken k. did m i [] (skipped atGap) taken step.Passed b b' (gap_is p m hs fix i (inner_of m b taken) e) (moved_none m i [] b b' atGap e1 e2 e3 w)

  module _ {z : List Float} {h f : Float} (a c : List Float) {sd : List Float} (r : Step) (e : gap ≡ false) (ez : z ≡ row m fix.z i) (eh : h ≡ ent p hs i i) (ek : fresh ≡ false → sd ≡ sd_of m fix.pre)
      (ea : vec m a ≡ mat_vec m (mat m b.star) z) (ef : f ≡ f_star_by m z h (vec m a)) where
    -- what `judge` finds, and what a doubt tells
    abbrev Judges : Finding → Type 0
    Judges d = ((again : Float) (a : List Float) → decision_by m again f d a c ≡ judged_by m (judged_as z h fix.diffuse fix.pre sd fix.unres fresh again (mat m b.star) (mat m b.pinf) (mat m b.root)) f (vec m a)) × ((x : Float) → d ≡ finding.Doubtful x → (fix.diffuse ≡ false) × (fresh ≡ false))

    done : (d : Finding) (dec : Decision) → Judges d → ((again : Float) → decision_by m again f d a c ≡ dec) → Applied m i z dec r b b' → ElementDone p m hs fix fresh i gap b b' r
    done d dec w k v = λ taken n.
        let again = again_of p m fix.z hs fix.pre i taken in
        let j : dec ≡ judge m (judged_as z h fix.diffuse fix.pre (sd_of m fix.pre) fix.unres (none_yet taken) again (mat m b.star) (mat m b.pinf) (mat m b.root)) =
        sym (k again)
        ∙ w.0 again a
        ∙ judged_known m z h fix.diffuse fix.pre sd (sd_of m fix.pre) again fresh fix.unres (mat m b.star) (mat m b.pinf) (mat m b.root) f (vec m a) ek
        ∙ judged_is m z h fix.diffuse fix.pre (sd_of m fix.pre) again fresh fix.unres (mat m b.star) (mat m b.pinf) (mat m b.root) ea ef
        ∙ rw n in
        did m i z dec taken r b b' (element_is p m hs fix i (inner_of m b taken) e ez eh j) v

    pub went : (d : Finding) → Judges d → Settled m i z f d a c r b b' → WithoutRoot p m hs fix fresh i gap b b' r
    unfolding Settled WithoutRoot decision_by
    went (finding.Nothing why) w v = rw v.told (rw v.told at (done (finding.Nothing why) (skipped (cause_in why)) w (λ again. refl) v))
    went finding.Usual w v = rw v.told (rw v.told at (done finding.Usual (usual f (vec m a)) w (λ again. refl) v))
    went (finding.Diffuse g) w v = rw v.told (rw v.told at (done (finding.Diffuse g) (diffuse f g (vec m a) (vec m c)) w (λ again. refl) v))
    went (finding.Doubtful x) w v = rw v.0 (record { same = v.1; settled = (w.1 x refl).0; stale = (w.1 x refl).1 })

-- ---- with F by the star root at hand

pub stale_next : (taken : List ℕ) (i : ℕ) → none_yet (taken ++ (i ∷ [])) ≡ false
stale_next [] i = refl
stale_next (x ∷ taken) i = refl

module _ (x : Period) (i : ℕ) (gap : Bool) (again : Float) (star : List Float) (n : Flat) (star' : List Float) (n' : Flat) where
  by_root : (z : List Float) (d : Decision) (r : Step) (joins : Bool)
      → ((p∞ b unres : List Float) (taken : List ℕ) → none_yet taken ≡ false → again ≡ again_of x.p x.m (rect x.p x.m x.design.now) (noise_in x) (mat x.m x.pre.now) i taken
      → (d, apply x.m z i (inner_of x.m (carried star p∞ b n) taken) d) ≡ element_of x.p x.m (noise_in x) (fixed_of x false unres) i (inner_of x.m (carried star p∞ b n) taken) gap)
      → ((p∞ b : List Float) → Applied x.m i z d r (carried star p∞ b n) (carried star' p∞ b n'))
      → ((taken : List ℕ) → taken_by d taken i ≡ cond joins (taken ++ (i ∷ [])) taken)
      → ByRoot x i gap again star n star' n' joins
  by_root z d r joins is moves after = λ p∞ b unres taken s w.
      let e = is p∞ b unres taken s w in
      let g = did x.m i z d taken r (carried star p∞ b n) (carried star' p∞ b n') e (moves p∞ b) in
      record {
        inner = g.inner;
        recorded = g.recorded;
        joined = ap (λ (y : Decision × Inner). y.1.taken) (sym e) ∙ applied_taken x.m z i (inner_of x.m (carried star p∞ b n) taken) d ∙ after taken;
      }

  pub by_root_gap : gap ≡ true → star' ≡ star → Recorded x.m i (skipped atGap) n n' → ByRoot x i gap again star n star' n' false
  unfolding apply
  by_root_gap e s v = by_root [] (skipped atGap) step.Passed false
      (λ p∞ b unres taken k w. gap_is x.p x.m (noise_in x) (fixed_of x false unres) i (inner_of x.m (carried star p∞ b n) taken) e)
      (λ p∞ b. moved_none x.m i [] (carried star p∞ b n) (carried star' p∞ b n') atGap s refl refl v)
      (λ taken. refl)

  module _ {z : List Float} {h f : Float} {a sd : List Float} (r : Result (Unit {0}) told.Cause) (e : gap ≡ false) (ez : z ≡ row x.m (rect x.p x.m x.design.now) i) (eh : h ≡ ent x.p (noise_in x) i i) (ek : sd ≡ sd_of x.m (mat x.m x.pre.now))
      (ea : a ≡ mat_vec x.m (mat x.m star) z) (ef : f ≡ f_star_by x.m z h a) (er : (pinf root unres m* : List Float) → decision_on f m* r ≡ usually x.m (judged_as z h false (mat x.m x.pre.now) sd unres false again (mat x.m star) pinf root) f m*) where
    decided : (d : Decision) → d ≡ decision_on f a r → (p∞ b unres : List Float) (taken : List ℕ) → none_yet taken ≡ false → again ≡ again_of x.p x.m (rect x.p x.m x.design.now) (noise_in x) (mat x.m x.pre.now) i taken
        → (d, apply x.m z i (inner_of x.m (carried star p∞ b n) taken) d) ≡ element_of x.p x.m (noise_in x) (fixed_of x false unres) i (inner_of x.m (carried star p∞ b n) taken) gap
    unfolding judge
    decided d g p∞ b unres taken k w =
        element_is x.p x.m (noise_in x) (fixed_of x false unres) i (inner_of x.m (carried star p∞ b n) taken) e ez eh (rw (k, sym w, sym ek, sym ea, sym ef) (g ∙ er (mat x.m p∞) (mat x.m b) (mat x.m unres) a))

    pub by_root_no : (why : told.Cause) → r ≡ Err why → star' ≡ star → Recorded x.m i (skipped (cause_in why)) n n' → ByRoot x i gap again star n star' n' false
    unfolding decision_on
    by_root_no why g s v = let c = cause_in why in
        by_root z (skipped c) step.Passed false (decided (skipped c) (rw g)) (λ p∞ b. moved_none x.m i z (carried star p∞ b n) (carried star' p∞ b n') c s refl refl v) (λ taken. refl)

    pub by_root_yes : r ≡ Ok tt → mat x.m star' ≡ outer_sub x.m (mat x.m star) a (over x.m a f) → Recorded x.m i (usual f a) n n' → ByRoot x i gap again star n star' n' true
    unfolding decision_on
    by_root_yes g s v =
        by_root z (usual f a) step.Taken true (decided (usual f a) (rw g)) (λ p∞ b. moved_usual x.m i z (carried star p∞ b n) (carried star' p∞ b n') f a s refl refl v) (λ taken. refl)
