-- What the walks share: a lent slice under a name, its machine value, a part that is lent on and needed again, and how a local dies.
use Prim.Native.Nat.{ℕ}
use mathlib.Core.List.{List, ◌∷◌, []}
use lib.ListN.{length}
use mir.Syntax.{named}
use mir.Val.{Val}
use base.Fml.{Lft, Share, GName, Fml}
use denote.RattleType.{RattleType}
use denote.Ref.{MutBor}
use denote.Slice.{slice_val, MutSlice, Room}

abbrev pub ref : {D : Type 0} → ℕ → ℕ → GName → List D → MutBor (List D)
ref b o γ l = record { ref_ptr = (b, o); ghost_name = γ; now = l }

abbrev pub val : {D : Type 0} → MutBor (List D) → Val
val s = slice_val s.ref_ptr (length s.now)

-- a `&mut [R]` that was lent to the function: its lifetime with a share of its token, where it lies, its name, and its list on entry
pub record Lent (R : RattleType) : Type 0 where
  pub lft : Lft
  pub share : Share
  pub b : ℕ
  pub o : ℕ
  pub name : GName
  pub list : List R.Denot
  pub room : Room R (length list)

-- the reference under another name and at another list, and its machine value, which stays
abbrev pub ref_of : {R : RattleType} → Lent R → GName → List R.Denot → MutBor (List R.Denot)
ref_of p γ l = ref p.b p.o γ l

abbrev pub val_of : {R : RattleType} → Lent R → Val
val_of p = slice_val (p.b, p.o) (length p.list)

-- what it owns at a list; j is the lifetime's place in the signature
abbrev pub own_of : {R : RattleType} → ℕ → Lent R → List R.Denot → Fml
own_of {R} j p l = (MutSlice (named j) p.lft R).own_val (ref_of p p.name l) (val_of p ∷ [])
