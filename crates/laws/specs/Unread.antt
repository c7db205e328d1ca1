-- `pivoted_root`: entries in used rows and columns are never read again (document 02, request b; DECISIONS 19). So they can hold something else: the
-- code keeps a column in its pivot's row.
use Prim.Native.Nat.{ℕ, zero, suc, ◌≤◌, ◌<◌}
use Rattle.std.specs.Prelude.{◌≡◌, Bool, not, ◌&&◌, List, [], ◌∷◌, set, Float}
use Rattle.std.proofs.Math.Path.{refl, sym, ap}
use Rattle.std.proofs.Common.{◌∙◌, true≢false, arith}
use Rattle.std.proofs.Math.Bool.{true, false, cond}
use Rattle.std.proofs.Math.ListN.{get_or}
use Rattle.definition.specs.Num.{ent, at, 0ᶠ, ◌⊖◌, ◌⊗◌, ◌⊘◌, ◌>ᶠ◌}
use Rattle.definition.specs.Star.{Pivot, Growing, better, pivot_to, column_at, column, left_at, left_of}
use Rattle.laws.specs.Lists.{tab_cong, matrix_at}

-- the same at the places that are free, row and column
abbrev pub Agree : ℕ → List Bool → List Float → List Float → Type 0
Agree k used a b = (i j : ℕ) → i < k → j < k → get_or used i false ≡ false → get_or used j false ≡ false → ent k a i j ≡ ent k b i j

-- the same root so far, and the same left of the matrix where it is free
pub record Alike (k : ℕ) (g h : Growing) : Type 0 where
  pub used : g.used ≡ h.used
  pub rank : g.rank ≡ h.rank
  pub cols : g.cols ≡ h.cols
  pub left : Agree k g.used g.left h.left

pub alike_refl : (k : ℕ) (g : Growing) → Alike k g g
alike_refl k g = record { used = refl; rank = refl; cols = refl; left = λ i j p q u v. refl }

pub alike_trans : (k : ℕ) (f g h : Growing) → Alike k f g → Alike k g h → Alike k f h
alike_trans k f g h a b = record {
  used = a.used ∙ b.used;
  rank = a.rank ∙ b.rank;
  cols = a.cols ∙ b.cols;
  left = λ i j p q u v. a.left i j p q u v ∙ b.left i j p q (rw a.used at u) (rw a.used at v);
}

module _ (k : ℕ) (used : List Bool) (a b : List Float) (same : Agree k used a b) where
  unread_better : (j : ℕ) (x : Pivot) → j < k → better k a used j x ≡ better k b used j x
  unfolding better
  unread_better j x h = by_test (get_or used j false) refl
    where
      by_test : (t : Bool) → get_or used j false ≡ t → cond (not t && (ent k a j j >ᶠ x.best)) (record { place = j; best = ent k a j j }) x
          ≡ cond (not t && (ent k b j j >ᶠ x.best)) (record { place = j; best = ent k b j j }) x
      by_test true e = refl
      by_test false e = rw (same j j h h e e)

  pub unread_pivot : (n : ℕ) → n ≤ k → pivot_to k a used n ≡ pivot_to k b used n
  unfolding pivot_to
  unread_pivot zero h = refl
  unread_pivot (suc n) h = unread_better n (pivot_to k a used n) (omega arith) ∙ ap (better k b used n) (unread_pivot n (omega arith))

  pub unread_column : (j : ℕ) (sd : Float) → j < k → get_or used j false ≡ false → column k a used j sd ≡ column k b used j sd
  unfolding column column_at
  unread_column j sd h e = tab_cong k 0 (column_at k a used j sd) (column_at k b used j sd) (λ i u v. by_test i (omega arith) (get_or used i false) refl)
    where
      by_test : (i : ℕ) → i < k → (t : Bool) → get_or used i false ≡ t → cond t 0ᶠ (ent k a i j ⊘ sd) ≡ cond t 0ᶠ (ent k b i j ⊘ sd)
      by_test i w true q = refl
      by_test i w false q = rw (same i j w h q e)

  pub unread_left : (col : List Float) → Agree k used (left_of k a col) (left_of k b col)
  unfolding left_of left_at
  unread_left col i j p q u v = matrix_at k k i j (left_at k a col) p q ∙ ap (λ (x : Float). x ⊖ at col i ⊗ at col j) (same i j p q u v) ∙ sym (matrix_at k k i j (left_at k b col) p q)

-- a pivot that is found is a free place
pub pivot_free : (k : ℕ) (a : List Float) (used : List Bool) (n : ℕ) → n ≤ k → ((pivot_to k a used n).place ≡ k → ⊥)
    → ((pivot_to k a used n).place < n) × (get_or used (pivot_to k a used n).place false ≡ false)
unfolding pivot_to better
pivot_free k a used zero h none = absurd (none refl)
pivot_free k a used (suc n) h none = by_test (get_or used n false) refl (ent k a n n >ᶠ (pivot_to k a used n).best) (pivot_to k a used n) (pivot_free k a used n (omega arith)) none
  where
    by_test : (t : Bool) → get_or used n false ≡ t → (s : Bool) (b : Pivot) → ((b.place ≡ k → ⊥) → (b.place < n) × (get_or used b.place false ≡ false))
        → ((cond (not t && s) (record { place = n; best = ent k a n n }) b).place ≡ k → ⊥)
        → ((cond (not t && s) (record { place = n; best = ent k a n n }) b).place < suc n)
        × (get_or used (cond (not t && s) (record { place = n; best = ent k a n n }) b).place false ≡ false)
    by_test true e s b ih here = let f = ih here in (omega (arith, f.0), f.1)
    by_test false e true b ih here = (omega arith, e)
    by_test false e false b ih here = let f = ih here in (omega (arith, f.0), f.1)

-- what is free with one place more used up was free before
pub still_free : (used : List Bool) (j i : ℕ) → get_or (set used j true) i false ≡ false → get_or used i false ≡ false
still_free [] j i e = e
still_free (x ∷ used) zero zero e = absurd (true≢false e)
still_free (x ∷ used) zero (suc i) e = e
still_free (x ∷ used) (suc j) zero e = e
still_free (x ∷ used) (suc j) (suc i) e = still_free used j i e
