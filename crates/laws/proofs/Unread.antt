-- `pivoted_root`: entries in used rows and columns are never read again, in a step and in all.
use Prim.Native.Nat.{ℕ, zero, suc}
use Rattle.std.specs.Prelude.{◌≡◌, Bool, List, ◌++◌, eqb, Float}
use Rattle.std.proofs.Math.Path.{refl, ap, subst}
use Rattle.std.proofs.Common.{◌∙◌, arith}
use Rattle.std.proofs.Math.Bool.{true, false, cond}
use Rattle.std.proofs.lemmas.Bool.{eqb-false}
use Rattle.definition.specs.Num.{ent}
use Rattle.definition.specs.Root.{sqrt_of}
use Rattle.definition.specs.Star.{Pivot, Growing, pivot_to, column, left_of, grown, grow, grow_to}
use Rattle.laws.specs.Unread.{Agree, Alike, unread_pivot, unread_column, unread_left, pivot_free, still_free}

module _ (k : ℕ) (used : List Bool) (rank : ℕ) (cols a b : List Float) (same : Agree k used a b) where
  abbrev With : List Float → Growing
  With left = record { left = left; used = used; rank = rank; cols = cols }

  unread_same : Alike k (grow k (With a)) (grow k (With b))
  unfolding grow grown
  unread_same =
      subst (λ (c : Pivot). Alike k (grow k (With a)) (cond (eqb c.place k) (With b) (grown k (With b) c.place (column k b used c.place (sqrt_of c.best)))))
      (unread_pivot k used a b same k (omega arith))
      (by_test (eqb pivot.place k) refl)
    where
      pivot : Pivot
      pivot = pivot_to k a used k

      by_test : (t : Bool) → eqb pivot.place k ≡ t
          → Alike k (cond t (With a) (grown k (With a) pivot.place (column k a used pivot.place (sqrt_of pivot.best))))
          (cond t (With b) (grown k (With b) pivot.place (column k b used pivot.place (sqrt_of pivot.best))))
      by_test true e = record { used = refl; rank = refl; cols = refl; left = same }
      by_test false e =
          let f = pivot_free k a used k (omega arith) (eqb-false pivot.place k e) in
          let q = unread_column k used a b same pivot.place (sqrt_of pivot.best) f.0 f.1 in
          record {
            used = refl;
            rank = refl;
            cols = ap (λ (x : List Float). cols ++ x) q;
            left = λ i j hi hj u v.
                unread_left k used a b same (column k a used pivot.place (sqrt_of pivot.best)) i j hi hj (still_free used pivot.place i u) (still_free used pivot.place j v)
                ∙ ap (λ (x : List Float). ent k (left_of k b x) i j) q;
          }

-- Entries in used rows and columns are never read again: two matrices that agree elsewhere go on to the same pivots and columns.
pub unread : (k : ℕ) (g h : Growing) → Alike k g h → Alike k (grow k g) (grow k h)
unread k g h w =
    subst (λ (x : Growing). Alike k (grow k g) (grow k x)) (ap₃ w.used w.rank w.cols)
    (unread_same k g.used g.rank g.cols g.left h.left w.left)
  where
    ap₃ : {u u' : List Bool} {r r' : ℕ} {c c' : List Float} → u ≡ u' → r ≡ r' → c ≡ c'
        → ◌≡◌ {A = Growing} (record { left = h.left; used = u; rank = r; cols = c }) (record { left = h.left; used = u'; rank = r'; cols = c' })
    ap₃ e1 e2 e3 = rw (e1, e2, e3)

pub unread_to : (k : ℕ) (g h : Growing) → Alike k g h → (n : ℕ) → Alike k (grow_to k g n) (grow_to k h n)
unfolding grow_to
unread_to k g h w zero = w
unread_to k g h w (suc n) = unread k (grow_to k g n) (grow_to k h n) (unread_to k g h w n)
