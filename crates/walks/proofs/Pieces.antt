-- A list of parameters in pieces: what the first ones own and what the rest, and back. And slices of floats that are lent on for good, some in a row: what
-- a callee leaves of each is what the caller has to say of it.
use mathlib.Core.Path.{◌≡◌}
use Prim.Native.Nat.{ℕ, zero, suc}
use mathlib.Core.List.{List, [], ◌∷◌, ◌++◌}
use lib.ListN.{length}
use lib.Ieee.{Float}
use seplogic.Ra.Ura.{Ura}
use mir.Syntax.{named}
use base.Logic.{ent, sep, emp, guard, id⊢, via, comm∗, assoc∗, assoc', mono_r, snd∗, emp∗, guard_i}
use mir.Val.{Val}
use base.Fml.{Lft, Fml, ftrue, fsep, feq}
use types.Logic.{Logic, sem}
use types.Kit.{‵, ◌$◌, ◌∵◌, !, qed, move, split, fsplit, fjoin, feq_l, check, use1, learn, given, ◌⊛◌, done}
use denote.RattleType.{RattleType, Denots, Valss, owns}
use denote.Builtin.{f64}
use denote.Slice.{MutSlice, finally, mut_slice_vals}

-- ---- pieces

abbrev pub begin : (Rs Ss : List RattleType) → Denots (Rs ++ Ss) → Denots Rs
begin [] Ss a = tt
begin (R ∷ Rs) Ss a = (a.0, begin Rs Ss a.1)

abbrev pub end : (Rs Ss : List RattleType) → Denots (Rs ++ Ss) → Denots Ss
end [] Ss a = a
end (R ∷ Rs) Ss a = end Rs Ss a.1

abbrev pub then : (Rs Ss : List RattleType) → Denots Rs → Denots Ss → Denots (Rs ++ Ss)
then [] Ss x y = y
then (R ∷ Rs) Ss x y = (x.0, then Rs Ss x.1 y)

-- the same of the machine values
abbrev pub begin_vals : (Rs Ss : List RattleType) → Valss (Rs ++ Ss) → Valss Rs
begin_vals [] Ss u = tt
begin_vals (R ∷ Rs) Ss u = (u.0, begin_vals Rs Ss u.1)

abbrev pub end_vals : (Rs Ss : List RattleType) → Valss (Rs ++ Ss) → Valss Ss
end_vals [] Ss u = u
end_vals (R ∷ Rs) Ss u = end_vals Rs Ss u.1

abbrev pub then_vals : (Rs Ss : List RattleType) → Valss Rs → Valss Ss → Valss (Rs ++ Ss)
then_vals [] Ss u w = w
then_vals (R ∷ Rs) Ss u w = (u.0, then_vals Rs Ss u.1 w)

-- ---- slices of floats in a row, at one lifetime

abbrev pub slices : Lft → ℕ → List RattleType
slices κ zero = []
slices κ (suc n) = MutSlice (named 1) κ f64 ∷ slices κ n

abbrev pub slices_vals : (κ : Lft) (n : ℕ) → Denots (slices κ n) → Valss (slices κ n)
slices_vals κ zero a = tt
slices_vals κ (suc n) a = (mut_slice_vals a.0, slices_vals κ n a.1)

-- and one parameter more
abbrev pub and_vals : (κ : Lft) (n : ℕ) (R : RattleType) → Denots (slices κ n ++ (R ∷ [])) → List Val → Valss (slices κ n ++ (R ∷ []))
and_vals κ zero R a u = (u, tt)
and_vals κ (suc n) R a u = (mut_slice_vals a.0, and_vals κ n R a.1 u)

-- their last lists, followed by X
abbrev pub Lists : ℕ → Type 0 → Type 0
Lists zero X = X
Lists (suc n) X = List Float × Lists n X

abbrev pub past : (n : ℕ) (X : Type 0) → Lists n X → X
past zero X z = z
past (suc n) X z = past n X z.1

abbrev pub with_end : (n : ℕ) (X Y : Type 0) → Lists n X → Y → Lists n Y
with_end zero X Y z y = y
with_end (suc n) X Y z y = (z.0, with_end n X Y z.1 y)

module _ (κ : Lft) where
  -- each is as long as it was
  abbrev pub AsLong : (n : ℕ) (X : Type 0) → Denots (slices κ n) → Lists n X → Type 0 → Type 0
  AsLong zero X a z Y = Y
  AsLong (suc n) X a z Y = (length z.0 ≡ length a.0.now) × AsLong n X a.1 z.1 Y

  -- what the callee says of each; and what is had of each then
  abbrev pub lasts : (n : ℕ) (X : Type 0) → Denots (slices κ n) → Lists n X → Fml → Fml
  lasts zero X a z F = F
  lasts (suc n) X a z F = fsep (fsep (finally f64 a.0.ghost_name z.0) (feq ℕ (length z.0) (length a.0.now))) (lasts n X a.1 z.1 F)

  abbrev pub had : (n : ℕ) (X : Type 0) → Denots (slices κ n) → Lists n X → Fml → Fml
  had zero X a z F = F
  had (suc n) X a z F = fsep (finally f64 a.0.ghost_name z.0) (had n X a.1 z.1 F)

-- `ftrue`, some times, before F: what is said and had of a parameter that was handed on as a copy
abbrev pub nothings : ℕ → Fml → Fml
nothings zero F = F
nothings (suc n) F = fsep ftrue (nothings n F)

module _ {M : Type 1} {𝓤 : Ura M} (𝓛 : Logic 𝓤) where
  pub owns_split : (Rs Ss : List RattleType) (a : Denots (Rs ++ Ss)) (u : Valss (Rs ++ Ss)) → ent 𝓤 (sem 𝓛 (owns (Rs ++ Ss) a u)) (sep 𝓤 (sem 𝓛 (owns Rs (begin Rs Ss a) (begin_vals Rs Ss u))) (sem 𝓛 (owns Ss (end Rs Ss a) (end_vals Rs Ss u))))
  owns_split [] Ss a u = emp∗ 𝓤 (sem 𝓛 (owns Ss a u))
  owns_split (R ∷ Rs) Ss a u =
      let P = sem 𝓛 (R.own_val a.0 u.0) in
      let Q = sem 𝓛 (owns Rs (begin Rs Ss a.1) (begin_vals Rs Ss u.1)) in
      let S = sem 𝓛 (owns Ss (end Rs Ss a.1) (end_vals Rs Ss u.1)) in
      via 𝓤 (sep 𝓤 P (sep 𝓤 Q S)) (mono_r 𝓤 P (owns_split Rs Ss a.1 u.1)) (assoc' 𝓤 P Q S)

  pub owns_join : (Rs Ss : List RattleType) (x : Denots Rs) (y : Denots Ss) (u : Valss Rs) (w : Valss Ss) → ent 𝓤 (sep 𝓤 (sem 𝓛 (owns Rs x u)) (sem 𝓛 (owns Ss y w))) (sem 𝓛 (owns (Rs ++ Ss) (then Rs Ss x y) (then_vals Rs Ss u w)))
  owns_join [] Ss x y u w = snd∗ 𝓤 (emp 𝓤) (sem 𝓛 (owns Ss y w))
  owns_join (R ∷ Rs) Ss x y u w =
      let P = sem 𝓛 (R.own_val x.0 u.0) in
      let Q = sem 𝓛 (owns Rs x.1 u.1) in
      let S = sem 𝓛 (owns Ss y w) in
      via 𝓤 (sep 𝓤 P (sep 𝓤 Q S)) (assoc∗ 𝓤 P Q S) (mono_r 𝓤 P (owns_join Rs Ss x.1 y u.1 w))

  pub slices_split : (κ : Lft) (n : ℕ) (R : RattleType) (a : Denots (slices κ n ++ (R ∷ []))) (u : List Val) → ent 𝓤 (sem 𝓛 (owns (slices κ n ++ (R ∷ [])) a (and_vals κ n R a u)))
      (sep 𝓤 (sem 𝓛 (owns (slices κ n) (begin (slices κ n) (R ∷ []) a) (slices_vals κ n (begin (slices κ n) (R ∷ []) a)))) (sem 𝓛 (R.own_val (end (slices κ n) (R ∷ []) a).0 u)))
  slices_split κ zero R a u = comm∗ 𝓤 (sem 𝓛 (R.own_val a.0 u)) (emp 𝓤)
  slices_split κ (suc n) R a u =
      let P = sem 𝓛 ((MutSlice (named 1) κ f64).own_val a.0 (mut_slice_vals a.0)) in
      let Q = sem 𝓛 (owns (slices κ n) (begin (slices κ n) (R ∷ []) a.1) (slices_vals κ n (begin (slices κ n) (R ∷ []) a.1))) in
      let S = sem 𝓛 (R.own_val (end (slices κ n) (R ∷ []) a.1).0 u) in
      via 𝓤 (sep 𝓤 P (sep 𝓤 Q S)) (mono_r 𝓤 P (slices_split κ n R a.1 u)) (assoc' 𝓤 P Q S)

  pub slices_join : (κ : Lft) (n : ℕ) (R : RattleType) (x : Denots (slices κ n)) (r : R.Denot) (u : List Val) → ent 𝓤 (sep 𝓤 (sem 𝓛 (owns (slices κ n) x (slices_vals κ n x))) (sem 𝓛 (R.own_val r u)))
      (sem 𝓛 (owns (slices κ n ++ (R ∷ [])) (then (slices κ n) (R ∷ []) x (r, tt)) (and_vals κ n R (then (slices κ n) (R ∷ []) x (r, tt)) u)))
  slices_join κ zero R x r u = comm∗ 𝓤 (emp 𝓤) (sem 𝓛 (R.own_val r u))
  slices_join κ (suc n) R x r u =
      let P = sem 𝓛 ((MutSlice (named 1) κ f64).own_val x.0 (mut_slice_vals x.0)) in
      let Q = sem 𝓛 (owns (slices κ n) x.1 (slices_vals κ n x.1)) in
      let S = sem 𝓛 (R.own_val r u) in
      via 𝓤 (sep 𝓤 P (sep 𝓤 Q S)) (assoc∗ 𝓤 P Q S) (mono_r 𝓤 P (slices_join κ n R x.1 r u))

  pub skip_nothings : (n : ℕ) (F : Fml) → ent 𝓤 (sem 𝓛 (nothings n F)) (sem 𝓛 F)
  skip_nothings zero F = id⊢ 𝓤 (sem 𝓛 F)
  skip_nothings (suc n) F = via 𝓤 (sem 𝓛 (nothings n F)) (snd∗ 𝓤 (sem 𝓛 ftrue) (sem 𝓛 (nothings n F))) (skip_nothings n F)

  pub put_nothings : (n : ℕ) (F : Fml) → ent 𝓤 (sem 𝓛 F) (sem 𝓛 (nothings n F))
  put_nothings zero F = id⊢ 𝓤 (sem 𝓛 F)
  put_nothings (suc n) F = via 𝓤 (sem 𝓛 (nothings n F)) (put_nothings n F) (emp∗ 𝓤 (sem 𝓛 (nothings n F)))

  -- what a callee says of the slices gives what the caller has to say of them, and that each is as long as it was
  pub finals : (κ : Lft) (n : ℕ) (X : Type 0) (a : Denots (slices κ n)) (z : Lists n X) (F : Fml) → ent 𝓤 (sem 𝓛 (lasts κ n X a z F)) (guard 𝓤 (AsLong κ n X a z (Unit {0})) (sep 𝓤 (sem 𝓛 (had κ n X a z ftrue)) (sem 𝓛 F)))
  finals κ zero X a z F = via 𝓤 (sep 𝓤 (emp 𝓤) (sem 𝓛 F)) (emp∗ 𝓤 (sem 𝓛 F)) (guard_i 𝓤 (Unit {0}) (sep 𝓤 (emp 𝓤) (sem 𝓛 F)) tt)
  finals κ (suc n) X a z F =
      qed 𝓛 (‵ (lasts κ (suc n) X a z F) ∷ []) ∵ fsplit ! $ fsplit ! $ move ! (1 ∷ []) $ feq_l ! (λ l. move ! (1 ∷ []) $
      use1 𝓛 (given (AsLong κ n X a.1 z.1 (Unit {0})) (‵ (had κ n X a.1 z.1 ftrue) ⊛ ‵ F)) (finals κ n X a.1 z.1 F) $ learn ! (λ ls. check ! (l, ls) $ split ! $ move ! (2 ∷ 0 ∷ []) $ fjoin ! $ done !))

  pub had_then : (κ : Lft) (n : ℕ) (X : Type 0) (a : Denots (slices κ n)) (z : Lists n X) (F : Fml) → ent 𝓤 (sep 𝓤 (sem 𝓛 (had κ n X a z ftrue)) (sem 𝓛 F)) (sem 𝓛 (had κ n X a z F))
  had_then κ zero X a z F = snd∗ 𝓤 (emp 𝓤) (sem 𝓛 F)
  had_then κ (suc n) X a z F =
      let P = sem 𝓛 (finally f64 a.0.ghost_name z.0) in
      let Q = sem 𝓛 (had κ n X a.1 z.1 ftrue) in
      via 𝓤 (sep 𝓤 P (sep 𝓤 Q (sem 𝓛 F))) (assoc∗ 𝓤 P Q (sem 𝓛 F)) (mono_r 𝓤 P (had_then κ n X a.1 z.1 F))

-- as long as it was, and then y
pub as_long : (κ : Lft) (n : ℕ) (X Y Z : Type 0) (a : Denots (slices κ n)) (z : Lists n X) (y : Y) → AsLong κ n X a z (Unit {0}) → Z → AsLong κ n Y a (with_end n X Y z y) Z
as_long κ zero X Y Z a z y l t = t
as_long κ (suc n) X Y Z a z y l t = (l.0, as_long κ n X Y Z a.1 z.1 y l.1 t)
