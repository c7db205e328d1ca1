-- All locals of a function as one entry of a walk's context, with what each holds. So the context stays small, however many parameters and temporaries the
-- function has, and a call's operands are read in one step. `Here E cs` is the entry: E has each local's type and block, cs what it holds.
--     enters       a function begins: its locals are made, and its arguments stored           [the locals; the rest]
--     local k      the cell of local k, for `look_in` and `sub`
--     sets n k     a value is stored in local k; n is the place of the locals in the context
--     reads n ks   the operands of a call, the locals ks
--     local_typed  what a local holds is a value of its type
--     reborrows    a `&mut [T]` in local s is lent on: the pointer in local a, the slice in local t
--     big_lit      a constant as an operand, where `lit` has no bound for it
--     lends k      the cell of local k is taken out, to be lent; the local is away
--     returned k   it comes back, with any value
--     leaves       local 0 is returned, and the locals are freed; none is away
-- Assumes `Logic`. It says nothing of the project.
use mathlib.Core.Path.{◌≡◌, refl, sym, ap, subst}
use Prim.Native.Nat.{ℕ, zero, suc}
use native.Mathlib.Omega.{arith}
use mathlib.Core.Bool.{Bool, true, false, ◌&&◌}
use mathlib.Core.List.{List, [], ◌∷◌, map}
use lib.Dec.{T}
use lib.ListN.{get_or}
use seplogic.Ra.Ura.{Ura}
use base.Fraction.{full_share}
use mir.Syntax.{Ty, Width, ty_int, ty_ref, w64, Lifetime, Mutability, Local, local as Made-as, Fn, Body, seq, assign, return, place, field, deref, addr_of, aggregate, Opd as Operand, copy, int_big}
use mir.Val.{Val, vint, vptr, WT, has_ty, Fits}
use base.Fml.{fat}
use base.Logic.{SProp, ent, sep, wand, emp, id⊢, via, comm∗, assoc∗, assoc', mono∗, mono_l, mono_r, emp∗, snd∗, wand_i, all_i, guard_i, guard_e}
use prog.Wp.{Heap, Env, Calls, Loops, no_local, alloc, pass, params, release, WpFn, Wp, at_return}
use types.Logic.{Logic}
use types.Kit.{Item, ‵, raw, ◌⊛◌, given, use1, use2, learn, mean, ⋆, nth, del, put, pull, fill, push, pop, Post, at_ret, Goal, prop, runs, Seq, Step, step, ◌$◌, ◌∵◌, !, qed, move, split, join, frame, done}
use types.Run.{Writes, Walks, Opd, Opds, load, from, stop, hop, fld, addr, assigns, no_more, and_then, returns}
use types.Part.{Part, look_in, sub, agg}
use denote.Laws.{Typed}
use denote.Slice.{slice_ty, slice_val}

-- ---- what the locals hold, by their place: nothing yet, a value, or the cell is away. A list that ends early says that the rest hold nothing

pub data Content : Type 0 where
  none : Content
  just : Val → Content
  away : Content

abbrev pub Held : Type 0
Held = List Content

abbrev present : Content → Bool
present none = true
present (just v) = true
present away = false

abbrev first : Held → Content
first [] = none
first (c ∷ cs) = c

abbrev rest : Held → Held
rest [] = []
rest (c ∷ cs) = cs

abbrev pub held : ℕ → Held → Content
held zero cs = first cs
held (suc k) cs = held k (rest cs)

abbrev pub placed : ℕ → Content → Held → Held
placed zero c cs = c ∷ rest cs
placed (suc k) c cs = first cs ∷ placed k c (rest cs)

abbrev pub stored : ℕ → Val → Held → Held
stored k v cs = placed k (just v) cs

no_just : (v : Val) → none ≡ just v → ⊥
no_just v e = let z : ◌≡◌ {A = ℕ} 0 1 = cc in omega arith

none_held : (k : ℕ) (v : Val) → held k [] ≡ just v → ⊥
none_held zero v e = no_just v e
none_held (suc k) v e = none_held k v e

held-stored : (k : ℕ) (v : Val) (cs : Held) → held k (stored k v cs) ≡ just v
held-stored zero v cs = refl
held-stored (suc k) v cs = held-stored k v (rest cs)

stored_same : (k : ℕ) (v : Val) (cs : Held) → held k cs ≡ just v → stored k v cs ≡ cs
stored_same zero v [] e = absurd (no_just v e)
stored_same zero v (c ∷ cs) e = ap (λ (d : Content). d ∷ cs) (sym e)
stored_same (suc k) v [] e = absurd (none_held k v e)
stored_same (suc k) v (c ∷ cs) e = ap (λ (ds : Held). c ∷ ds) (stored_same k v cs e)

-- ---- each local's type and block

abbrev pub Spots : Type 0
Spots = List (Ty × ℕ)

abbrev next : List ℕ → List ℕ
next [] = []
next (b ∷ bs) = bs

abbrev type_of : Local → Ty
type_of (Made-as τ h) = τ

abbrev pub spots_of : List Local → List ℕ → Spots
spots_of [] bs = []
spots_of (l ∷ ls) bs = (type_of l, get_or bs 0 0) ∷ spots_of ls (next bs)

-- there is a local k
abbrev pub inside : ℕ → Spots → Bool
inside k [] = false
inside zero (e ∷ E) = true
inside (suc k) (e ∷ E) = inside k E

abbrev pub all_inside : List ℕ → Spots → Bool
all_inside [] E = true
all_inside (k ∷ ks) E = inside k E && all_inside ks E

-- and it is not away; none is
abbrev pub ready : ℕ → Spots → Held → Bool
ready k E cs = inside k E && present (held k cs)

abbrev all_ready : Spots → Held → Bool
all_ready [] cs = true
all_ready (e ∷ E) cs = present (first cs) && all_ready E (rest cs)

-- the types of as many of the first locals as there are values; and of the parameters, which are the locals after the result
abbrev first_types : List Local → List Val → List Ty
first_types ls [] = []
first_types [] (v ∷ vs) = []
first_types (l ∷ ls) (v ∷ vs) = type_of l ∷ first_types ls vs

abbrev pub param_types : List Local → List Val → List Ty
param_types [] vs = []
param_types (l ∷ ls) vs = first_types ls vs

-- there is a local for the result
abbrev pub Result : List Local → Type 0
Result [] = ⊥
Result (l ∷ ls) = Unit {0}

both : (a b : Bool) → T (a && b) → T a × T b
both true b h = (tt, h)
both false b h = absurd h

-- ---- the operands of a call, where they are whole locals

abbrev pub wholes : List ℕ → List Operand
wholes [] = []
wholes (k ∷ ks) = copy (place k []) ∷ wholes ks

abbrev pub holds : Held → List ℕ → Held
holds cs [] = []
holds cs (k ∷ ks) = held k cs ∷ holds cs ks

-- ---- the locals as an assertion, and as an entry of a context: the record only names E and cs, so that a rule finds them

pub record Frame (E : Spots) (cs : Held) : Type 0 where

module _ {M : Type 1} (𝓤 : Ura M) (H : Heap 𝓤) where
  abbrev cell : Ty × ℕ → Content → SProp 𝓤
  cell e none = H.room e.0 e.1 zero
  cell e (just v) = H.at full_share e.0 e.1 zero v
  cell e away = emp 𝓤

  abbrev ends : Ty × ℕ → SProp 𝓤
  ends e = H.dies e.0 e.1

  unfoldable pub Locals : Spots → Held → SProp 𝓤
  Locals [] cs = emp 𝓤
  Locals (e ∷ E) cs = sep 𝓤 (sep 𝓤 (cell e (first cs)) (ends e)) (Locals E (rest cs))

  -- all but the cell of local k
  unfoldable Others : Spots → ℕ → Held → SProp 𝓤
  Others [] k cs = emp 𝓤
  Others (e ∷ E) zero cs = sep 𝓤 (ends e) (Locals E (rest cs))
  Others (e ∷ E) (suc k) cs = sep 𝓤 (sep 𝓤 (cell e (first cs)) (ends e)) (Others E k (rest cs))

  abbrev spot : Spots → ℕ → Ty × ℕ
  spot E k = get_or E k (no_local 𝓤 H)

  abbrev pub Here : Spots → Held → Item 𝓤
  Here E cs = given (Frame E cs) (raw (Locals E cs))

module _ {M : Type 1} {𝓤 : Ura M} (𝓛 : Logic 𝓤) where
  open 𝓛 use {H}

  swapped : (P Q R : SProp 𝓤) → ent 𝓤 (sep 𝓤 P (sep 𝓤 Q R)) (sep 𝓤 Q (sep 𝓤 P R))
  swapped P Q R = via 𝓤 (sep 𝓤 (sep 𝓤 P Q) R) (assoc' 𝓤 P Q R) (via 𝓤 (sep 𝓤 (sep 𝓤 Q P) R) (mono_l 𝓤 R (comm∗ 𝓤 P Q)) (assoc∗ 𝓤 Q P R))

  opened : (E : Spots) (cs : Held) → ent 𝓤 (mean 𝓛 (Here 𝓤 H E cs)) (Locals 𝓤 H E cs)
  opened E cs = guard_e 𝓤 (Frame E cs) (Locals 𝓤 H E cs) (λ _. id⊢ 𝓤 (Locals 𝓤 H E cs))

  closed : (E : Spots) (cs : Held) → ent 𝓤 (Locals 𝓤 H E cs) (mean 𝓛 (Here 𝓤 H E cs))
  closed E cs = guard_i 𝓤 (Frame E cs) (Locals 𝓤 H E cs) (record {})

  -- a cell is taken out, and comes back with anything
  take : (E : Spots) (k : ℕ) (cs : Held) (c : Content) → T (inside k E) → held k cs ≡ c → ent 𝓤 (Locals 𝓤 H E cs) (sep 𝓤 (cell 𝓤 H (spot 𝓤 H E k) c) (Others 𝓤 H E k cs))
  unfolding Locals Others
  take [] k cs c i e = absurd i
  take (l ∷ E) zero cs c i e =
      subst (λ (d : Content). ent 𝓤 (Locals 𝓤 H (l ∷ E) cs) (sep 𝓤 (cell 𝓤 H l d) (Others 𝓤 H (l ∷ E) zero cs))) e
      (assoc∗ 𝓤 (cell 𝓤 H l (first cs)) (ends 𝓤 H l) (Locals 𝓤 H E (rest cs)))
  take (l ∷ E) (suc k) cs c i e =
      let P = sep 𝓤 (cell 𝓤 H l (first cs)) (ends 𝓤 H l) in
      via 𝓤 (sep 𝓤 P (sep 𝓤 (cell 𝓤 H (spot 𝓤 H E k) c) (Others 𝓤 H E k (rest cs)))) (mono_r 𝓤 P (take E k (rest cs) c i e))
      (swapped P (cell 𝓤 H (spot 𝓤 H E k) c) (Others 𝓤 H E k (rest cs)))

  give : (E : Spots) (k : ℕ) (cs : Held) (c : Content) → T (inside k E) → ent 𝓤 (sep 𝓤 (cell 𝓤 H (spot 𝓤 H E k) c) (Others 𝓤 H E k cs)) (Locals 𝓤 H E (placed k c cs))
  unfolding Locals Others
  give [] k cs c i = absurd i
  give (l ∷ E) zero cs c i = assoc' 𝓤 (cell 𝓤 H l c) (ends 𝓤 H l) (Locals 𝓤 H E (rest cs))
  give (l ∷ E) (suc k) cs c i =
      let P = sep 𝓤 (cell 𝓤 H l (first cs)) (ends 𝓤 H l) in
      via 𝓤 (sep 𝓤 P (sep 𝓤 (cell 𝓤 H (spot 𝓤 H E k) c) (Others 𝓤 H E k (rest cs)))) (swapped (cell 𝓤 H (spot 𝓤 H E k) c) P (Others 𝓤 H E k (rest cs)))
      (mono_r 𝓤 P (give E k (rest cs) c i))

  vacated : (e : Ty × ℕ) (c : Content) → T (present c) → ent 𝓤 (cell 𝓤 H e c) (H.room e.0 e.1 zero)
  vacated e none p = id⊢ 𝓤 (H.room e.0 e.1 zero)
  vacated e (just v) p = 𝓛.laws.at_room e.0 e.1 zero v
  vacated e away p = absurd p

  -- ---- a function begins: its locals are made, and its arguments stored

  made : (ls : List Local) (P : SProp 𝓤) (Q : Spots → SProp 𝓤) → ((bs : List ℕ) → ent 𝓤 (sep 𝓤 (Locals 𝓤 H (spots_of ls bs) []) P) (Q (spots_of ls bs))) → ent 𝓤 P (alloc 𝓤 H ls Q)
  unfolding Locals
  made [] P Q h = via 𝓤 (sep 𝓤 (emp 𝓤) P) (emp∗ 𝓤 P) (h [])
  made (Made-as τ z ∷ ls) P Q h =
      all_i 𝓤 (λ (b : ℕ). wand 𝓤 (sep 𝓤 (H.room τ b zero) (H.dies τ b)) (alloc 𝓤 H ls (λ E. Q ((τ, b) ∷ E)))) (λ b.
      let R = sep 𝓤 (H.room τ b zero) (H.dies τ b) in
      wand_i 𝓤 P R (alloc 𝓤 H ls (λ E. Q ((τ, b) ∷ E)))
      (made ls (sep 𝓤 P R) (λ E. Q ((τ, b) ∷ E)) (λ bs.
      let L = Locals 𝓤 H (spots_of ls bs) [] in
      via 𝓤 (sep 𝓤 (sep 𝓤 R L) P) (qed 𝓛 (raw L ∷ raw P ∷ raw R ∷ []) ∵ move ! (2 ∷ 0 ∷ []) $ join ! $ done !) (h (b ∷ bs)))))

  passed : (ls : List Local) (bs : List ℕ) (vs : List Val) → Typed (first_types ls vs) vs → (P Q : SProp 𝓤) → ent 𝓤 (sep 𝓤 (Locals 𝓤 H (spots_of ls bs) (map just vs)) P) Q → ent 𝓤 (sep 𝓤 (Locals 𝓤 H (spots_of ls bs) []) P) (pass 𝓤 H (spots_of ls bs) vs Q)
  unfolding Locals
  passed ls bs [] t P Q h = h
  passed [] bs (v ∷ vs) t P Q h = absurd t
  passed (l ∷ ls) bs (v ∷ vs) t P Q h =
      let e : Ty × ℕ = (type_of l, get_or bs 0 0) in
      let E = spots_of ls (next bs) in
      let room = H.room e.0 e.1 zero in
      let at = H.at full_share e.0 e.1 zero v in
      let die = ends 𝓤 H e in
      let L = Locals 𝓤 H E [] in
      let R = sep 𝓤 die (sep 𝓤 L P) in
      via 𝓤 (sep 𝓤 room (wand 𝓤 at (pass 𝓤 H E vs Q)))
      (via 𝓤 (sep 𝓤 room R) (qed 𝓛 (((raw room ⊛ raw die) ⊛ raw L) ∷ raw P ∷ []) ∵ split ! $ split ! $ done !)
      (mono_r 𝓤 room (wand_i 𝓤 R at (pass 𝓤 H E vs Q)
      (via 𝓤 (sep 𝓤 L (sep 𝓤 (sep 𝓤 at die) P)) (qed 𝓛 ((raw die ⊛ raw L ⊛ raw P) ∷ raw at ∷ []) ∵ split ! $ move ! (1 ∷ []) $ split ! $ move ! (0 ∷ 3 ∷ 2 ∷ []) $ frame ! $ join ! $ done !)
      (passed ls (next bs) vs t.1 (sep 𝓤 (sep 𝓤 at die) P) Q
      (via 𝓤 (sep 𝓤 (sep 𝓤 (sep 𝓤 at die) (Locals 𝓤 H E (map just vs))) P)
      (qed 𝓛 (raw (Locals 𝓤 H E (map just vs)) ∷ (raw at ⊛ raw die) ∷ raw P ∷ []) ∵ move ! (1 ∷ 0 ∷ []) $ join ! $ done !) h))))))
      (guard_i 𝓤 (T (has_ty e.0 v) × WT v) (sep 𝓤 room (wand 𝓤 at (pass 𝓤 H E vs Q))) t.0)

  started : (ls : List Local) (bs : List ℕ) (vs : List Val) → Result ls → Typed (param_types ls vs) vs → (P Q : SProp 𝓤) → ent 𝓤 (sep 𝓤 (Locals 𝓤 H (spots_of ls bs) (none ∷ map just vs)) P) Q → ent 𝓤 (sep 𝓤 (Locals 𝓤 H (spots_of ls bs) []) P) (params 𝓤 H (spots_of ls bs) vs Q)
  unfolding Locals
  started [] bs vs i t P Q h = absurd i
  started (l ∷ ls) bs vs i t P Q h =
      let e : Ty × ℕ = (type_of l, get_or bs 0 0) in
      let E = spots_of ls (next bs) in
      let R = sep 𝓤 (H.room e.0 e.1 zero) (ends 𝓤 H e) in
      via 𝓤 (sep 𝓤 (Locals 𝓤 H E []) (sep 𝓤 R P)) (qed 𝓛 ((raw R ⊛ raw (Locals 𝓤 H E [])) ∷ raw P ∷ []) ∵ split ! $ move ! (1 ∷ []) $ done !)
      (passed ls (next bs) vs t (sep 𝓤 R P) Q
      (via 𝓤 (sep 𝓤 (sep 𝓤 R (Locals 𝓤 H E (map just vs))) P) (qed 𝓛 (raw (Locals 𝓤 H E (map just vs)) ∷ raw R ∷ raw P ∷ []) ∵ move ! (1 ∷ 0 ∷ []) $ join ! $ done !) h))

  -- ---- and ends: they are freed, whatever they hold

  freed : (E : Spots) (cs : Held) (P : SProp 𝓤) → T (all_ready E cs) → ent 𝓤 (sep 𝓤 (Locals 𝓤 H E cs) P) (release 𝓤 H E P)
  unfolding Locals
  freed [] cs P r = snd∗ 𝓤 (emp 𝓤) P
  freed (e ∷ E) cs P r =
      let rs = both (present (first cs)) (all_ready E (rest cs)) r in
      via 𝓤 (sep 𝓤 (sep 𝓤 (cell 𝓤 H e (first cs)) (ends 𝓤 H e)) (sep 𝓤 (Locals 𝓤 H E (rest cs)) P))
      (assoc∗ 𝓤 (sep 𝓤 (cell 𝓤 H e (first cs)) (ends 𝓤 H e)) (Locals 𝓤 H E (rest cs)) P)
      (mono∗ 𝓤 (mono_l 𝓤 (ends 𝓤 H e) (vacated e (first cs) rs.0)) (freed E (rest cs) P rs.1))

-- ---- the rules of a walk

module _ {M : Type 1} {𝓤 : Ura M} {𝓛 : Logic 𝓤} {K : Type 0} where
  open 𝓛 use {H}

  pub local : K → {E : Spots} {cs : Held} (k : ℕ) {v : Val} → T (inside k E) → held k cs ≡ just v
      → Part K 𝓛 (given (Frame E cs) (raw (Locals 𝓤 H E cs))) full_share (get_or E k (no_local 𝓤 H)).0 (get_or E k (no_local 𝓤 H)).1 zero v (λ u. given (Frame E (stored k u cs)) (raw (Locals 𝓤 H E (stored k u cs))))
  local t {E} {cs} k {v} i e =
      let at : Val → SProp 𝓤 = λ u. cell 𝓤 H (spot 𝓤 H E k) (just u) in
      let back : Val → SProp 𝓤 = λ u. mean 𝓛 (Here 𝓤 H E (stored k u cs)) in
      record {
        out =
            via 𝓤 (sep 𝓤 (at v) (Others 𝓤 H E k cs)) (via 𝓤 (Locals 𝓤 H E cs) (opened 𝓛 E cs) (take 𝓛 E k cs (just v) i e))
            (mono_r 𝓤 (at v)
            (all_i 𝓤 (λ (u : Val). wand 𝓤 (at u) (back u)) (λ u.
            wand_i 𝓤 (Others 𝓤 H E k cs) (at u) (back u)
            (via 𝓤 (sep 𝓤 (at u) (Others 𝓤 H E k cs)) (comm∗ 𝓤 (Others 𝓤 H E k cs) (at u))
            (via 𝓤 (Locals 𝓤 H E (stored k u cs)) (give 𝓛 E k cs (just u) i) (closed 𝓛 E (stored k u cs)))))));
        same = ap (λ (ds : Held). Here 𝓤 H E ds) (stored_same k v cs e);
      }

  slice_at : K → (E : Spots) (cs : Held) (s : ℕ) {ρ : Ty} {b₀ : ℕ} {v : Val} → T (inside s E) → get_or E s (no_local 𝓤 H) ≡ (ρ, b₀) → held s cs ≡ just v
      → Part K 𝓛 (Here 𝓤 H E cs) full_share ρ b₀ zero v (λ u. Here 𝓤 H E (stored s u cs))
  slice_at t E cs s {ρ} {b₀} {v} i e h = subst (λ (l : Ty × ℕ). Part K 𝓛 (Here 𝓤 H E cs) full_share l.0 l.1 zero v (λ u. Here 𝓤 H E (stored s u cs))) e (local t s i h)

  module _ {Γ : List (Item 𝓤)} where
    pub sets : K → (n : ℕ) {E : Spots} {cs : Held} (k : ℕ) {v : Val} → T (ready k E cs) → nth 𝓛 n Γ ≡ given (Frame E cs) (raw (Locals 𝓤 H E cs)) → T (has_ty (get_or E k (no_local 𝓤 H)).0 v) × WT v
        → Writes K 𝓛 Γ (get_or E k (no_local 𝓤 H)).0 (get_or E k (no_local 𝓤 H)).1 zero v (put 𝓛 n (given (Frame E (stored k v cs)) (raw (Locals 𝓤 H E (stored k v cs)))) Γ)
    sets t n {E} {cs} k {v} r e wt =
        let i : T (inside k E) = (both (inside k E) (present (held k cs)) r).0 in
        let here : T (present (held k cs)) = (both (inside k E) (present (held k cs)) r).1 in
        let l = spot 𝓤 H E k in
        let room = H.room l.0 l.1 zero in
        let at = H.at full_share l.0 l.1 zero v in
        let R = Others 𝓤 H E k cs in
        let Δ = ⋆ 𝓛 (del 𝓛 n Γ) in
        let L = Here 𝓤 H E (stored k v cs) in
        record {
          go = λ P h.
              via 𝓤 (sep 𝓤 room (wand 𝓤 at P))
              (via 𝓤 (sep 𝓤 (mean 𝓛 (Here 𝓤 H E cs)) Δ) (subst (λ (j : Item 𝓤). ent 𝓤 (⋆ 𝓛 Γ) (sep 𝓤 (mean 𝓛 j) Δ)) e (pull 𝓛 n Γ))
              (via 𝓤 (sep 𝓤 (sep 𝓤 room R) Δ)
              (mono_l 𝓤 Δ (via 𝓤 (Locals 𝓤 H E cs) (opened 𝓛 E cs)
              (via 𝓤 (sep 𝓤 (cell 𝓤 H l (held k cs)) R) (take 𝓛 E k cs (held k cs) i refl) (mono_l 𝓤 R (vacated 𝓛 l (held k cs) here)))))
              (via 𝓤 (sep 𝓤 room (sep 𝓤 R Δ)) (assoc∗ 𝓤 room R Δ)
              (mono_r 𝓤 room (wand_i 𝓤 (sep 𝓤 R Δ) at P
              (via 𝓤 (sep 𝓤 (mean 𝓛 L) Δ)
              (via 𝓤 (sep 𝓤 (sep 𝓤 at R) Δ) (qed 𝓛 ((raw R ⊛ raw Δ) ∷ raw at ∷ []) ∵ split ! $ move ! (2 ∷ 0 ∷ []) $ join ! $ done !)
              (mono_l 𝓤 Δ (via 𝓤 (Locals 𝓤 H E (stored k v cs)) (give 𝓛 E k cs (just v) i) (closed 𝓛 E (stored k v cs)))))
              (via 𝓤 (⋆ 𝓛 (put 𝓛 n L Γ)) (fill 𝓛 n L Γ) h)))))))
              (guard_i 𝓤 (T (has_ty l.0 v) × WT v) (sep 𝓤 room (wand 𝓤 at P)) wt);
        }

    reads_of : K → (n : ℕ) (E : Spots) (cs : Held) (ks : List ℕ) (vs : List Val) → nth 𝓛 n Γ ≡ Here 𝓤 H E cs → T (all_inside ks E) → holds cs ks ≡ map just vs → Opds K 𝓛 Γ E (wholes ks) vs
    reads_of t n E cs [] [] e i h = no_more t
    reads_of t n E cs [] (v ∷ vs) e i h = absurd (let z : ◌≡◌ {A = ℕ} 0 1 = cc in omega arith)
    reads_of t n E cs (k ∷ ks) [] e i h = absurd (let z : ◌≡◌ {A = ℕ} 0 1 = cc in omega arith)
    reads_of t n E cs (k ∷ ks) (v ∷ vs) e i h =
        let back : Val → Item 𝓤 = λ u. Here 𝓤 H E (stored k u cs) in
        let is = both (inside k E) (all_inside ks E) i in
        let at-k : held k cs ≡ just v = cc in
        let later : holds cs ks ≡ map just vs = cc in
        and_then t
        (load t (from t (stop t)) (look_in t n (subst (λ (j : Item 𝓤). Part K 𝓛 j full_share (get_or E k (no_local 𝓤 H)).0 (get_or E k (no_local 𝓤 H)).1 zero v back) (sym e) (local t k is.0 at-k))))
        (reads_of t n E cs ks vs e is.1 later)

    pub reads : K → (n : ℕ) {E : Spots} {cs : Held} (ks : List ℕ) {vs : List Val} → nth 𝓛 n Γ ≡ given (Frame E cs) (raw (Locals 𝓤 H E cs)) → T (all_inside ks E) → holds cs ks ≡ map just vs → Opds K 𝓛 Γ E (wholes ks) vs
    reads t n {E} {cs} ks {vs} e i h = reads_of t n E cs ks vs e i h

    pub enters : K → (C : Calls 𝓤 H) (Λ : Loops 𝓤 H) (f : Fn) (vs : List Val) (Kf : Val → SProp 𝓤) → Result f.locals → Typed (param_types f.locals vs) vs
        → ((bs : List ℕ) → Seq K 𝓛 (Here 𝓤 H (spots_of f.locals bs) (none ∷ map just vs) ∷ Γ) (runs C Λ (spots_of f.locals bs) f.body (at_ret (spots_of f.locals bs) Kf)))
        → Seq K 𝓛 Γ (prop (WpFn 𝓤 H C Λ f vs Kf))
    unfolding WpFn
    enters t C Λ f vs Kf i typed k = record {
      prf =
          made 𝓛 f.locals (⋆ 𝓛 Γ) (λ E. params 𝓤 H E vs (Wp 𝓤 H C Λ E f.body (at_return 𝓤 H E Kf))) (λ bs.
          let E = spots_of f.locals bs in
          let L = Here 𝓤 H E (none ∷ map just vs) in
          started 𝓛 f.locals bs vs i typed (⋆ 𝓛 Γ) _
          (via 𝓤 (sep 𝓤 (mean 𝓛 L) (⋆ 𝓛 Γ)) (mono_l 𝓤 (⋆ 𝓛 Γ) (closed 𝓛 E (none ∷ map just vs))) (via 𝓤 (⋆ 𝓛 (L ∷ Γ)) (push 𝓛 L Γ) (k bs).prf)));
    }

    pub leaves : K → {C : Calls 𝓤 H} {Λ : Loops 𝓤 H} {E : Spots} {cs : Held} {Kf : Val → SProp 𝓤} {r : Val} → T (inside 0 E && all_ready E cs) → held 0 cs ≡ just r
        → Step K 𝓛 Γ (prop (Kf r)) (given (Frame E cs) (raw (Locals 𝓤 H E cs)) ∷ Γ) (runs C Λ E return (at_ret E Kf))
    leaves t {C} {Λ} {E} {cs} {Kf} {r} i e = let is = both (inside 0 E) (all_ready E cs) i in step (λ s.
        returns t (look_in t 0 (local t 0 is.0 e)) $
        record {
          prf =
              via 𝓤 (sep 𝓤 (mean 𝓛 (Here 𝓤 H E cs)) (⋆ 𝓛 Γ)) (pop 𝓛 (Here 𝓤 H E cs) Γ)
              (via 𝓤 (sep 𝓤 (Locals 𝓤 H E cs) (Kf r)) (mono∗ 𝓤 (opened 𝓛 E cs) s.prf) (freed 𝓛 E cs (Kf r) is.1));
        })

-- what local k holds is a value of its type
pub local_typed : {M : Type 1} {𝓤 : Ura M} {𝓛 : Logic 𝓤} {K : Type 0} {Γ : List (Item 𝓤)} → K → {E : Spots} {cs : Held} (k : ℕ) {v : Val} {G : Goal 𝓤 𝓛.H} → T (inside k E) → held k cs ≡ just v
    → (T (has_ty (get_or E k (no_local 𝓤 𝓛.H)).0 v) × WT v → Seq K 𝓛 (given (Frame E cs) (raw (Locals 𝓤 𝓛.H E cs)) ∷ Γ) G) → Seq K 𝓛 (given (Frame E cs) (raw (Locals 𝓤 𝓛.H E cs)) ∷ Γ) G
local_typed {𝓤 = 𝓤} {𝓛 = 𝓛} t {E} {cs} k {v} i e next =
    let l = spot 𝓤 𝓛.H E k in
    use1 𝓛 (‵ (fat full_share l.0 l.1 zero v) ⊛ raw (Others 𝓤 𝓛.H E k cs)) (via 𝓤 (Locals 𝓤 𝓛.H E cs) (opened 𝓛 E cs) (take 𝓛 E k cs (just v) i e)) $ split t $
    use1 𝓛 (given (T (has_ty l.0 v) × WT v) (‵ (fat full_share l.0 l.1 zero v))) (𝓛.laws.at_wt full_share l.0 l.1 zero v) $ learn t (λ wt. join t $
    use1 𝓛 (Here 𝓤 𝓛.H E cs)
    (subst (λ (ds : Held). ent 𝓤 (sep 𝓤 (𝓛.H.at full_share l.0 l.1 zero v) (Others 𝓤 𝓛.H E k cs)) (mean 𝓛 (Here 𝓤 𝓛.H E ds))) (stored_same k v cs e)
    (via 𝓤 (Locals 𝓤 𝓛.H E (stored k v cs)) (give 𝓛 E k cs (just v) i) (closed 𝓛 E (stored k v cs)))) $ next wt)

-- a constant that is an operand with a bound that a proof shows
pub big_lit : {M : Type 1} {𝓤 : Ura M} {𝓛 : Logic 𝓤} {K : Type 0} {Γ : List (Item 𝓤)} {E : Env 𝓤 𝓛.H} → K → {w : Width} {n : ℕ} → Fits w n → Opd K 𝓛 Γ E (int_big w n) (vint w n)
big_lit {𝓤 = 𝓤} t {w} {n} z = record { go = λ Kt h. via 𝓤 (Kt (vint w n)) h (guard_i 𝓤 (Fits w n) (Kt (vint w n)) z) }

-- the cell of a local goes away, to be lent, and comes back
module _ {M : Type 1} {𝓤 : Ura M} {𝓛 : Logic 𝓤} {K : Type 0} {Γ : List (Item 𝓤)} {G : Goal 𝓤 𝓛.H} where
  open 𝓛 use {H}

  pub lends : K → {E : Spots} {cs : Held} (k : ℕ) {v : Val} → T (inside k E) → held k cs ≡ just v
      → Step K 𝓛 (‵ (fat full_share (get_or E k (no_local 𝓤 H)).0 (get_or E k (no_local 𝓤 H)).1 zero v) ∷ given (Frame E (placed k away cs)) (raw (Locals 𝓤 H E (placed k away cs))) ∷ Γ) G
      (given (Frame E cs) (raw (Locals 𝓤 H E cs)) ∷ Γ) G
  lends t {E} {cs} k {v} i e =
      let at = cell 𝓤 H (spot 𝓤 H E k) (just v) in
      let R = Others 𝓤 H E k cs in
      step (λ s.
      use1 𝓛 (‵ (fat full_share (get_or E k (no_local 𝓤 H)).0 (get_or E k (no_local 𝓤 H)).1 zero v) ⊛ Here 𝓤 H E (placed k away cs))
      (via 𝓤 (sep 𝓤 at R) (via 𝓤 (Locals 𝓤 H E cs) (opened 𝓛 E cs) (take 𝓛 E k cs (just v) i e))
      (mono_r 𝓤 at (via 𝓤 (Locals 𝓤 H E (placed k away cs)) (via 𝓤 (sep 𝓤 (emp 𝓤) R) (emp∗ 𝓤 R) (give 𝓛 E k cs away i)) (closed 𝓛 E (placed k away cs))))) $ split t $ s)

  pub returned : K → {E : Spots} {cs : Held} (k : ℕ) {u : Val} → T (inside k E) → held k cs ≡ away
      → Step K 𝓛 (given (Frame E (stored k u cs)) (raw (Locals 𝓤 H E (stored k u cs))) ∷ Γ) G
      (‵ (fat full_share (get_or E k (no_local 𝓤 H)).0 (get_or E k (no_local 𝓤 H)).1 zero u) ∷ given (Frame E cs) (raw (Locals 𝓤 H E cs)) ∷ Γ) G
  returned t {E} {cs} k {u} i e =
      let at = cell 𝓤 H (spot 𝓤 H E k) (just u) in
      let R = Others 𝓤 H E k cs in
      step (λ s.
      use2 𝓛 (Here 𝓤 H E (stored k u cs))
      (via 𝓤 (sep 𝓤 at R) (mono_r 𝓤 at (via 𝓤 (Locals 𝓤 H E cs) (opened 𝓛 E cs) (via 𝓤 (sep 𝓤 (emp 𝓤) R) (take 𝓛 E k cs away i e) (snd∗ 𝓤 (emp 𝓤) R))))
      (via 𝓤 (Locals 𝓤 H E (stored k u cs)) (give 𝓛 E k cs (just u) i) (closed 𝓛 E (stored k u cs)))) $ s)

-- a `&mut [T]` in local s is lent on
module _ {M : Type 1} {𝓤 : Ura M} {𝓛 : Logic 𝓤} {K : Type 0} {Γ : List (Item 𝓤)} {E : Spots} {C : Calls 𝓤 𝓛.H} {Λ : Loops 𝓤 𝓛.H} {q : Post 𝓤 𝓛.H} where
  open 𝓛 use {H}

  pub reborrows : K → {cs : Held} {s a d : ℕ} {ℓ : Lifetime} {μ : Mutability} {τ τ' : Ty} {b₀ b o n : ℕ} {after : Body}
      → T (inside s E && (ready a E cs && ready d E (stored a (vptr b o) cs))) → get_or E s (no_local 𝓤 H) ≡ (slice_ty (ty_ref ℓ μ τ), b₀) → held s cs ≡ just (slice_val (b, o) n) → held s (stored a (vptr b o) cs) ≡ just (slice_val (b, o) n)
      → T (has_ty (get_or E a (no_local 𝓤 H)).0 (vptr b o)) → T (has_ty (get_or E d (no_local 𝓤 H)).0 (slice_val (b, o) n))
      → Step K 𝓛 (given (Frame E (stored d (slice_val (b, o) n) (stored a (vptr b o) cs))) (raw (Locals 𝓤 H E (stored d (slice_val (b, o) n) (stored a (vptr b o) cs)))) ∷ Γ) (runs C Λ E after q)
      (given (Frame E cs) (raw (Locals 𝓤 H E cs)) ∷ Γ)
      (runs C Λ E (seq (assign (place a []) (addr_of (place s (field 0 ∷ deref τ' ∷ [])))) (seq (assign (place d []) (aggregate (copy (place a []) ∷ copy (place s (field 1 ∷ [])) ∷ []))) after)) q)
  reborrows t {cs} {s} {a} {d} {ℓ} {μ} {τ} {τ'} {b₀} {b} {o} {n} {after} i e h h' ta td =
      let cs' = stored a (vptr b o) cs in
      let is = both (inside s E) (ready a E cs && ready d E cs') i in
      let ia = both (ready a E cs) (ready d E cs') is.1 in
      let there-a : T (inside a E) = (both (inside a E) (present (held a cs)) ia.0).0 in
      let there = slice_at t E cs s is.0 e h in
      let still = slice_at t E cs' s is.0 e h' in
      step (λ z. local_typed t s is.0 h (λ wt.
      assigns t
      (addr t (from t (subst (λ (l : Ty × ℕ). Walks K 𝓛 (Here 𝓤 H E cs ∷ Γ) E (l.0, l.1, zero) (field 0 ∷ deref τ' ∷ []) (τ', b, o)) (sym e) (fld t refl (hop t (look_in t 0 (sub t 0 refl there)) (stop t))))))
      (from t (stop t)) (sets t 0 a ia.0 refl (ta, tt)) $
      assigns t
      (agg t (and_then t (load t (from t (stop t)) (look_in t 0 (local t a there-a (held-stored a (vptr b o) cs))))
      (and_then t (load t (from t (subst (λ (l : Ty × ℕ). Walks K 𝓛 (Here 𝓤 H E cs' ∷ Γ) E (l.0, l.1, zero) (field 1 ∷ []) (ty_int w64, b₀, 8)) (sym e) (fld t refl (stop t)))) (look_in t 0 (sub t 1 refl still))) (no_more t))))
      (from t (stop t)) (sets t 0 d ia.1 refl (td, wt.1)) $ z))
