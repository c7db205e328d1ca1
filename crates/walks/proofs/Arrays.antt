-- An array in a local that is lent as a `&mut [T]` for a lifetime κ, and comes back. It says nothing of the project.
--     lends_array      given `Room`:  (b, o) ↦ v ∗ own xs [v]  ⊢ ⇛ ∃ γ. own (the `&κ mut [T]` ((b, o), γ, xs)) ∗ the lender's part
--     array_back       [†κ] ∗ the lender's part ∗ finally γ zs  ⊢ ⇛ ∃ v. (b, o) ↦ v ∗ own zs [v]
-- Assumes `Logic`.
use mathlib.Core.Path.{refl, sym, subst}
use Prim.Native.Nat.{ℕ}
use mathlib.Core.List.{List, [], ◌∷◌}
use lib.ListN.{length}
use seplogic.Ra.Ura.{Ura}
use base.Fraction.{full_share}
use mir.Syntax.{Lifetime, Ty, ty_array}
use mir.Val.{Val}
use base.Logic.{ent, sep, ex}
use base.Fml.{Lft, GName, Fml, fsep, fat, fdead, flent}
use types.Logic.{Logic, sem}
use types.Kit.{‵, ◌⊛◌, some, later, ◌$◌, ◌∵◌, !, qed, move, use1, use3, rewrite, split, pick, fsplit, fjoin, fpick, fpack, feq_l, feq_i, await, updating, now as at_once, show, done}
use denote.RattleType.{RattleType}
use denote.Memory.{cell_at, lone, part_at, part_of, shares, mem}
use denote.Slice.{slice_val, MutSlice, Room, finally}
use denote.Array.{Array, shape, each, array_val}
use denote.ArrayMemory.{Single, Array-apart, Array-whole}
use denote.Lend.{Held, lends_slice, slice_back}
use types.SemTy.{Arr}
use types.Share.{arr_parts}
use borrow.Rule.Slice.Shared.{parts-cells}
use Rattle.walks.proofs.Lent.{ref}

module _ (R : RattleType) (n : ℕ) where
  abbrev pub cell_type : Ty
  cell_type = ty_array (lone R.mir) n

  abbrev cell : ℕ → ℕ → Val → Fml
  cell b o v = fat full_share cell_type b o v

  module _ {M : Type 1} {𝓤 : Ura M} (𝓛 : Logic 𝓤) where
    open 𝓛 use {H, A}

    in_memory : (xs : List R.Denot) (v : Val) (b o : ℕ) → ent 𝓤 (sep 𝓤 (sem 𝓛 (cell b o v)) (sem 𝓛 ((Array R n).own_val xs (v ∷ [])))) (sem 𝓛 (part_at (Array R n) full_share xs b o))
    unfolding part_of
    in_memory xs v b o =
        qed 𝓛 (‵ (cell b o v) ∷ ‵ ((Array R n).own_val xs (v ∷ [])) ∷ []) ∵ use1 𝓛 (‵ (cell_at full_share (cell_type ∷ []) (v ∷ []) b o)) (𝓛.laws.at_raw full_share cell_type b o v) $ fjoin ! $
        fpack ! (List Val) (λ vs. fsep (cell_at full_share (cell_type ∷ []) vs b o) ((Array R n).own_val xs vs)) (v ∷ []) $ done !

    out_of_memory : (xs : List R.Denot) (b o : ℕ) → ent 𝓤 (sem 𝓛 (part_at (Array R n) full_share xs b o)) (ex 𝓤 (λ (v : Val). sep 𝓤 (sem 𝓛 (cell b o v)) (sem 𝓛 ((Array R n).own_val xs (v ∷ [])))))
    unfolding part_of
    out_of_memory xs b o =
        qed 𝓛 (‵ (part_at (Array R n) full_share xs b o) ∷ []) ∵ fpick ! (λ vs. fsplit ! $ move ! (1 ∷ []) $ fpick ! (λ us. fsplit ! $ fsplit ! $ feq_l ! (λ e.
        -- [how many there are; the elements; the cell]
        rewrite ! 2 (λ (ws : List Val). ‵ (cell_at full_share (cell_type ∷ []) ws b o)) e refl $ move ! (2 ∷ []) $ use1 𝓛 (‵ (cell b o (array_val us))) (𝓛.laws.raw_at full_share cell_type b o (array_val us)) $
        feq_i ! (List Val) (array_val us ∷ []) (array_val us ∷ []) refl $ move ! (0 ∷ 2 ∷ []) $ fjoin ! $ move ! (0 ∷ 2 ∷ []) $ fjoin ! $
        fpack ! (List Val) (λ ws. fsep (shape n xs (array_val us ∷ []) ws) (each R.Denot R.own_val xs ws)) us $
        show ! (λ (v : Val). sep 𝓤 (sem 𝓛 (cell b o v)) (sem 𝓛 ((Array R n).own_val xs (v ∷ [])))) (array_val us) $ move ! (1 ∷ 0 ∷ []) $ done !)))

    pub lends_array : Single R.mir → Room R n → (ℓ : Lifetime) (κ : Lft) (xs : List R.Denot) (v : Val) (b o : ℕ) → ent 𝓤 (sep 𝓤 (sem 𝓛 (cell b o v)) (sem 𝓛 ((Array R n).own_val xs (v ∷ []))))
        (H.⇛ (ex 𝓤 (λ (γ : GName). sep 𝓤 (sem 𝓛 ((MutSlice ℓ κ R).own_val (ref b o γ xs) (slice_val (b, o) n ∷ []))) (sem 𝓛 (flent κ (Held R n b o γ))))))
    lends_array one room ℓ κ xs v b o =
        qed 𝓛 ((‵ (cell b o v) ⊛ ‵ ((Array R n).own_val xs (v ∷ []))) ∷ []) ∵ updating ! $ use1 𝓛 (‵ (part_at (Array R n) full_share xs b o)) (in_memory xs v b o) $
        use1 𝓛 (‵ ((arr_parts (shares R) n).part full_share xs b o)) (Array-apart 𝓛 R full_share one n xs b o) $ fsplit ! $ feq_l ! (λ l.
        rewrite ! 0 (λ (G : Fml). ‵ G) (parts-cells R full_share xs b o) refl $
        use1 𝓛 (later (some (λ (γ : GName). ‵ ((MutSlice ℓ κ R).own_val (ref b o γ xs) (slice_val (b, o) (length xs) ∷ [])) ⊛ ‵ (flent κ (Held R (length xs) b o γ))))) (lends_slice 𝓛 R ℓ κ xs b o (subst (λ (m : ℕ). Room R m) (sym l) room)) $ await ! tt $ pick ! (λ γ. split ! $
        rewrite ! 0 (λ (m : ℕ). ‵ ((MutSlice ℓ κ R).own_val (ref b o γ xs) (slice_val (b, o) m ∷ []))) l refl $ rewrite ! 1 (λ (m : ℕ). ‵ (flent κ (Held R m b o γ))) l refl $
        at_once ! $ show ! (λ (δ : GName). sep 𝓤 (sem 𝓛 ((MutSlice ℓ κ R).own_val (ref b o δ xs) (slice_val (b, o) n ∷ []))) (sem 𝓛 (flent κ (Held R n b o δ)))) γ $ done !))

    pub array_back : (κ : Lft) (γ : GName) (zs : List R.Denot) (b o : ℕ) → ent 𝓤 (sep 𝓤 (A.dead κ) (sep 𝓤 (sem 𝓛 (flent κ (Held R n b o γ))) (sem 𝓛 (finally R γ zs))))
        (H.⇛ (ex 𝓤 (λ (v : Val). sep 𝓤 (sem 𝓛 (cell b o v)) (sem 𝓛 ((Array R n).own_val zs (v ∷ []))))))
    array_back κ γ zs b o =
        qed 𝓛 (‵ (fdead κ) ∷ ‵ (flent κ (Held R n b o γ)) ∷ ‵ (finally R γ zs) ∷ []) ∵ updating ! $ use3 𝓛 (later (‵ ((Arr (mem R) n).own_at zs b o))) (slice_back 𝓛 R κ γ zs n b o) $ await ! tt $
        fsplit ! $ move ! (1 ∷ []) $ rewrite ! 0 (λ (G : Fml). ‵ G) (sym (parts-cells R full_share zs b o)) refl $ move ! (1 ∷ 0 ∷ []) $ fjoin ! $
        use1 𝓛 (‵ (part_at (Array R n) full_share zs b o)) (Array-whole 𝓛 R full_share n zs b o) $
        use1 𝓛 (some (λ (v : Val). ‵ (cell b o v) ⊛ ‵ ((Array R n).own_val zs (v ∷ [])))) (out_of_memory zs b o) $ pick ! (λ v. at_once ! $
        show ! (λ (u : Val). sep 𝓤 (sem 𝓛 (cell b o u)) (sem 𝓛 ((Array R n).own_val zs (u ∷ [])))) v $ done !)
