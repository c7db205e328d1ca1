-- The star root: what the calls give, put together, over plain variables. How a matrix becomes its root is in InPlace.
use Prim.Native.Nat.{ℕ, zero, suc, ◌+◌, ◌≤◌, ◌<◌}
use mathlib.Core.Path.{◌≡◌, refl, sym, ap, ◌∙◌, subst}
use mathlib.Core.Bool.{Bool, true, false, not, cond}
use mathlib.Core.List.{List, [], ◌∷◌, ◌++◌}
use mathlib.Core.Logic.{⊎_elim}
use native.Mathlib.Omega.{arith}
use native.Mathlib.Numerals.{add-one}
use lib.ListN.{take, get_or, set, length, length-append, get_or-append}
use lib.Seq.{get_or-take, get_or-append-add, take-suc-set}
use lib.Ieee.{Float}
use Rattle.definition.specs.Num.{◌>ᶠ◌, ◌⊕◌, ◌⊗◌, ◌⊘◌, ent, at, 0ᶠ, 1ᶠ, is_zero, tabulate}
use Rattle.definition.specs.Dense as Dense
use Rattle.definition.specs.Dense.{dot}
use Rattle.definition.specs.Root.{sqrt_of}
use Rattle.definition.specs.Run.{any_to}
use Rattle.definition.specs.Star as def
use Rattle.definition.specs.Star.{
  Pivot,
  Root,
  better,
  pivot_to,
  column_at,
  u_at,
  u_of,
  f_of,
  projected,
  w_at,
  w_of,
  shrunk,
  shrunk_at,
  downdate,
  loads,
  support_to,
  on,
  on_at,
  sub,
  sub_at,
  replay,
  again_of,
  again_on,
}
use Rattle.dense.specs.Views.{vec, mat}
use Rattle.dense.proofs.Laws.{lt_or_le}
use Rattle.star.specs.Views.{Found, Joined, States, Sound, Downdated, Replayed, Shrunk, cols_of, factor, places_of, projected_at}
use Rattle.star.specs.declared.StarRoot.{StarRoot}
use Rattle.star.specs.declared.Support.{Support}

module _ (k : ℕ) (a : List Float) (u : List Bool) (j : ℕ) (b : Pivot) (h : j < k) where
  pub better_used : get_or u j false ≡ true → b ≡ better k a (take k u) j b
  unfolding better
  better_used e = rw (get_or-take k u j false h, e)

  pub better_yes : {x : Float} → get_or u j false ≡ false → x ≡ ent k a j j → (x >ᶠ b.best) ≡ true → ◌≡◌ {A = Pivot} (record { place = j; best = x }) (better k a (take k u) j b)
  unfolding better
  better_yes e g t = rw (get_or-take k u j false h, e, sym g, t)

  pub better_no : {x : Float} → get_or u j false ≡ false → x ≡ ent k a j j → (x >ᶠ b.best) ≡ false → b ≡ better k a (take k u) j b
  unfolding better
  better_no e g t = rw (get_or-take k u j false h, e, sym g, t)

-- one place more
pub pivot_next : (k : ℕ) (a : List Float) (u : List Bool) (j : ℕ) (b r : Pivot) → b ≡ pivot_to k a u j → r ≡ better k a u j b → r ≡ pivot_to k a u (j + 1)
unfolding pivot_to
pivot_next k a u j b r e h = rw add-one (cc)

pub pivot_none : (k : ℕ) (a : List Float) (u : List Bool) → ◌≡◌ {A = Pivot} (record { place = k; best = 0ᶠ }) (pivot_to k a u 0)
unfolding pivot_to
pivot_none k a u = refl

module _ (k : ℕ) (a : List Float) (u : List Bool) (j : ℕ) (sd : Float) (i : ℕ) (h : i < k) where
  pub column_used : get_or u i false ≡ true → 0ᶠ ≡ column_at k a (take k u) j sd i
  unfolding column_at
  column_used e = rw (get_or-take k u i false h, e)

  pub column_free : {x : Float} → get_or u i false ≡ false → x ≡ ent k a i j → x ⊘ sd ≡ column_at k a (take k u) j sd i
  unfolding column_at
  column_free e g = rw (get_or-take k u i false h, e, sym g)

-- F by the root, and Potter's update
module _ (r : StarRoot) (z : List Float) (h : Float) {zs u : List Float} {d : Float} (on-is : zs ≡ on r.support.count (places_of r) z)
    (u-is : u ≡ tabulate r.rank (u_at r.support.count (cols_of r) zs)) (d-is : d ≡ dot r.rank u u) where
  pub projected_at_lem : d ⊕ h ≡ projected_at r z h
  unfolding projected_at projected f_of u_of
  projected_at_lem = rw (sym on-is, sym u-is, sym d-is)

  pub downdated_no : (d ⊕ h >ᶠ 0ᶠ) ≡ false → Downdated z h r r
  unfolding downdate f_of u_of
  downdated_no t = record { support = refl; rank = refl; root = rw (sym on-is, sym u-is, sym d-is, t) }

  pub downdated_yes : {w : List Float} {s : Float} {t : StarRoot} → (d ⊕ h >ᶠ 0ᶠ) ≡ true → w ≡ tabulate r.support.count (w_at r.support.count r.rank (cols_of r) u)
      → s ≡ sqrt_of (h ⊗ (d ⊕ h)) → Shrunk (1ᶠ ⊘ (d ⊕ h ⊕ s)) u w r t → Downdated z h r t
  unfolding downdate f_of u_of w_of shrunk
  downdated_yes t e1 e2 e3 = record { support = e3.support; rank = e3.rank; root = rw (sym on-is, sym u-is, sym d-is, t, sym e1, sym e2, e3.rank, e3.cols) }

-- the support
pub loads_any : (m : ℕ) (z : List Float) (j p : ℕ) → any_to p (λ i. not (is_zero (ent m z i j))) ≡ loads m z j p
unfolding any_to loads
loads_any m z j zero = refl
loads_any m z j (suc p) = rw (loads_any m z j p) refl

pub joined : (s : Support) (j : ℕ) → s.count < length s.places → Joined s j (record { places = set s.places s.count j; count = s.count + 1 })
joined s j h = record { count = refl; places = rw add-one (take-suc-set s.places s.count j h) }

module _ (p m : ℕ) (z : List Float) where
  pub found_none : (s : Support) → s.count ≡ 0 → Found p m 0 z s
  unfolding support_to
  found_none s e = record { few = omega arith; count = e; places = rw e }

  pub found_more : (j : ℕ) (s t : Support) → Found p m j z s → loads m z j p ≡ true → Joined s j t → Found p m (j + 1) z t
  unfolding support_to
  found_more j s t f e h = record {
    few = omega (arith, h.count, f.few);
    count = rw (add-one, e) (h.count ∙ ap (λ (n : ℕ). n + 1) f.count ∙ sym (length-append (support_to p m z j) (j ∷ [])));
    places = rw (add-one, e) (h.places ∙ ap (λ (l : List ℕ). l ++ (j ∷ [])) f.places);
  }

  pub found_same : (j : ℕ) (s : Support) → Found p m j z s → loads m z j p ≡ false → Found p m (j + 1) z s
  unfolding support_to
  found_same j s f e = record { few = omega (arith, f.few); count = rw (add-one, e) f.count; places = rw (add-one, e) f.places }

  pub found_end : (j : ℕ) (s : Support) → Found p m j z s → j ≤ m → m ≤ j → Found p m m z s
  found_end j s f a b = let e : j ≡ m = omega arith in subst (λ (x : ℕ). Found p m x z s) e f

  support_below : (n a : ℕ) → a < length (support_to p m z n) → get_or (support_to p m z n) a 0 < n
  unfolding support_to
  support_below zero a h = absurd (omega arith)
  support_below (suc n) a h = by_test (loads m z n p) (support_to p m z n) (support_below n) h
    where
      by_test : (t : Bool) (l : List ℕ) → ((b : ℕ) → b < length l → get_or l b 0 < n) → a < length (cond t (l ++ (n ∷ [])) l) → get_or (cond t (l ++ (n ∷ [])) l) a 0 < suc n
      by_test false l ih g = let q = ih a g in omega arith
      by_test true l ih g =
          ⊎_elim
          (λ (w : a < length l). let q = ih a w in subst (λ (x : ℕ). x < suc n) (sym (get_or-append l (n ∷ []) 0 a w)) (omega arith))
          (λ (w : length l ≤ a).
          let e : a ≡ length l + 0 = omega (arith, length-append l (n ∷ [])) in
          subst (λ (x : ℕ). x < suc n) (sym (ap (λ (x : ℕ). get_or (l ++ (n ∷ [])) x 0) e ∙ get_or-append-add l (n ∷ []) 0 0)) (omega arith))
          (lt_or_le a (length l))

  pub states_of : (s : Support) → Found p m m z s → m ≤ 8 → States m s.count s.places
  states_of s f h = record {
    states = h;
    few = f.few;
    below = λ a b.
        subst (λ (x : ℕ). x < m) (ap (λ (l : List ℕ). get_or l a 0) (sym f.places) ∙ get_or-take s.count s.places a 0 b) (support_below m a (omega (arith, f.count)));
  }

pub on_at_lem : (k a m : ℕ) (s : List ℕ) (x : List Float) {v : Float} → a < k → v ≡ at (vec m x) (get_or s a 0) → v ≡ on_at (take k s) (vec m x) a
unfolding on_at
on_at_lem k a m s x h e = rw (get_or-take k s a 0 h) e

pub sub_at_lem : (k a b m : ℕ) (s : List ℕ) (x : List Float) {v : Float} → a < k → b < k → v ≡ ent m (mat m x) (get_or s a 0) (get_or s b 0) → v ≡ sub_at m (take k s) (mat m x) a b
unfolding sub_at
sub_at_lem k a b m s x h g e = rw (get_or-take k s a 0 h, get_or-take k s b 0 g) e

-- one element more
replay_snoc : (p m : ℕ) (z h : List Float) (s : List ℕ) (k : ℕ) (r : Root) (l : List ℕ) (i : ℕ) → replay p m z h s k r (l ++ (i ∷ [])) ≡ downdate k (replay p m z h s k r l) (on k s (Dense.row m z i)) (ent p h i i)
unfolding replay
replay_snoc p m z h s k r [] i = refl
replay_snoc p m z h s k r (x ∷ l) i = replay_snoc p m z h s k (downdate k r (on k s (Dense.row m z x)) (ent p h x x)) l i

-- the update for an element: its row and its noise at hand
pub downdated_by : {z row : List Float} {h g : Float} {r s : StarRoot} → z ≡ row → h ≡ g → Downdated z h r s → Downdated row g r s
downdated_by e1 e2 d = rw (e1, e2) at d

-- a root that is followed stays sound
pub sound_still : (m : ℕ) (r s : StarRoot) → Sound m r → s.support ≡ r.support → s.rank ≡ r.rank → Sound m s
sound_still m r s w e1 e2 = record { support = rw e1 w.support; low = rw (e1, e2) w.low }

pub sound_by : (m : ℕ) (z : List Float) (h : Float) (r s : StarRoot) → Sound m r → Downdated z h r s → Sound m s
sound_by m z h r s w d = sound_still m r s w d.support d.rank

-- the root as it is built
pub built : (p m : ℕ) (z h pre : List Float) (s : Support) (a cols : List Float) (rank : ℕ) → m ≤ 8 → Found p m m z s
    → a ≡ sub m s.count (take s.count s.places) pre → factor s.count rank cols ≡ def.pivoted_root s.count a → rank ≤ s.count
    → Replayed p m z h pre [] (record { support = s; cols = cols; rank = rank })
unfolding replay
built p m z h pre s a cols rank n found e1 e2 low = record {
  sound = record { support = states_of p m z s found n; low = low };
  count = found.count;
  places = found.places;
  root = e2 ∙ ap (def.pivoted_root s.count) e1;
}

-- what is kept, at work: F by the root is the definition's, and one element more
module _ (p m : ℕ) (z h pre : List Float) (taken : List ℕ) (r : StarRoot) (w : Replayed p m z h pre taken r) where
  pub kept_again : (i : ℕ) → projected_at r (Dense.row m z i) (ent p h i i) ≡ again_of p m z h pre i taken
  unfolding projected_at again_of again_on
  kept_again i = rw (w.root, w.places, w.count)

  pub kept_next : (i : ℕ) (s : StarRoot) → Downdated (Dense.row m z i) (ent p h i i) r s → Replayed p m z h pre (taken ++ (i ∷ [])) s
  kept_next i s d = record {
    sound = sound_still m r s w.sound d.support d.rank;
    count = ap (λ (x : Support). x.count) d.support ∙ w.count;
    places = rw d.support w.places;
    root = rw d.support (d.root ∙ ap (λ (x : Root). downdate r.support.count x (on r.support.count (places_of r) (Dense.row m z i)) (ent p h i i)) w.root ∙ sym (replay_snoc p m z h (places_of r) r.support.count _ taken i));
  }
