-- The carried state: its parts lie within it; what is written part by part is the whole, and what lies behind stays.
use mathlib.Core.Path.{◌≡◌, refl, sym, ap, ap₂, ◌∙◌}
use Prim.Native.Nat.{ℕ, ◌+◌, ◌-◌, ◌*◌, ◌≤◌}
use native.Mathlib.Omega.{arith}
use mathlib.Core.Bool.{Bool}
use mathlib.Core.List.{List, ◌++◌}
use lib.ListN.{length, take, drop, length-append, length-take, length-drop, take-append-drop}
use lib.Seq.{length-take-le}
use lib.Ieee.{Float}
use borrow.Author.Tests.{eq-eqb, ne_eqb}
use borrow.Rule.Slice.PartMut.{mid_of, put_mid}
use Rattle.definition.specs.Cov.{Cov}
use Rattle.definition.specs.Inputs.{start_from}
use Rattle.laws.specs.Sizes.{square_le}
use Rattle.laws.specs.Passes.{lay_next}
use Rattle.dense.specs.Places.{Saved, saved}
use Rattle.dense.specs.Views.{vec, rect, mat}
use Rattle.dense.proofs.Laws.{loaded_vec}
use Rattle.track.specs.View.{cov_of}
use Rattle.carried.specs.State.{StateFits, cov_from, cov_laid, mean_from, mean_kept, Written}

-- ---- sizes

module _ {m size size' : ℕ} (f : StateFits m size) (some : size ≡ 0 → ⊥) (same : size' ≡ size) where
  -- the four parts of m * m numbers
  pub four_in : m * m ≤ 64 × m + m * m + m * m + m * m ≤ 512 × m + m * m + m * m + m * m + m * m ≤ size'
  four_in = let q = square_le m f.m8 in let w = f.whole some in (q, omega (arith, f.m8), omega arith)

  pub mean_in_lem : m ≤ size'
  mean_in_lem = let w = f.whole some in omega arith

-- ---- one part, of k numbers

part_long : (s : List Float) (from k : ℕ) → from + k ≤ length s → length (mid_of from (from + k - from) s) ≡ k
part_long s from k h = simp (length-take, length-drop) (omega arith)

pub read : (s r : List Float) (from k : ℕ) → from + k ≤ length s → vec (length (mid_of from (from + k - from) s)) r ≡ mid_of from (from + k - from) s → vec k r ≡ take k (drop from s)
read s r from k h e = let z : from + k - from ≡ k = omega arith in loaded_vec k r (part_long s from k h) e ∙ ap (λ (i : ℕ). take i (drop from s)) z

pub written : (from k : ℕ) (old a ys : List Float) → from + k ≤ length old → Saved (length (mid_of from (from + k - from) old)) a ys → Written from k a old (put_mid from (from + k - from) old ys)
written from k old a ys h s =
    let l = part_long old from k h in
    let e : ys ≡ take k a = saved l s in
    record { is = ap (put_mid from (from + k - from) old) e; long = ap length (sym e) ∙ s.kept ∙ l }

-- ---- the covariances

pub begun : (m : ℕ) (s : List Float) (live : Bool) (p_star : List Float) (flags : List ℕ) (c : Cov) → length s ≡ 0 → c ≡ start_from m p_star flags → c ≡ cov_from m s live p_star flags
unfolding cov_from
begun m s live p_star flags c e h = rw (eq-eqb _ _ e) h

pub resumed : (m : ℕ) (s : List Float) (live : Bool) (p_star : List Float) (flags : List ℕ) (a b c d : List Float) → (length s ≡ 0 → ⊥) → vec (m * m) a ≡ take (m * m) (drop m s) → vec (m * m) b ≡ take (m * m) (drop (m + m * m) s) → vec (m * m) c ≡ take (m * m) (drop (m + m * m + m * m) s) → vec (m * m) d ≡ take (m * m) (drop (m + m * m + m * m + m * m) s)
    → cov_of m a b c d live ≡ cov_from m s live p_star flags
unfolding cov_from vec rect
resumed m s live p_star flags a b c d h e1 e2 e3 e4 = rw (ne_eqb _ _ h, e1, e2, e3, e4) refl

-- what stands before place a, and a part written after it
record Up (a : ℕ) (w old new : List Float) : Type 0 where
  is : new ≡ w ++ drop a old
  long : length w ≡ a

up_next : (a k : ℕ) (w b old s s' : List Float) → Up a w old s → Written a k b s s' → Up (a + k) (w ++ take k b) old s'
up_next a k w b old s s' u h =
    record {
      is = h.is ∙ ap (λ (l : List Float). put_mid a (a + k - a) l (take k b)) u.is ∙ lay_next a k w (take k b) old u.long h.long;
      long = length-append w (take k b) ∙ ap₂ ◌+◌ u.long h.long;
    }

pub kept_none : (m : ℕ) (s a b c d : List Float) → length s ≡ 0 → s ≡ cov_laid m s a b c d
unfolding cov_laid
kept_none m s a b c d e = rw (eq-eqb _ _ e) refl

pub kept : (m : ℕ) (s s1 s2 s3 s4 a b c d : List Float) → StateFits m (length s) → (length s ≡ 0 → ⊥) → Written m (m * m) a s s1 → Written (m + m * m) (m * m) b s1 s2 → Written (m + m * m + m * m) (m * m) c s2 s3 → Written (m + m * m + m * m + m * m) (m * m) d s3 s4
    → s4 ≡ cov_laid m s (mat m a) (mat m b) (mat m c) (mat m d)
unfolding cov_laid rect
kept m s s1 s2 s3 s4 a b c d f h w1 w2 w3 w4 =
    let u0 : Up m (take m s) s s = record { is = sym (take-append-drop m s); long = length-take-le m s (mean_in_lem f h refl) } in
    let u4 = up_next _ _ _ d s s3 s4 (up_next _ _ _ c s s2 s3 (up_next _ _ _ b s s1 s2 (up_next _ _ _ a s s s1 u0 w1) w2) w3) w4 in
    rw (ne_eqb _ _ h) u4.is

-- ---- the mean

pub mean_begun : (m : ℕ) (s a1 r : List Float) → length a1 ≡ m → length s ≡ 0 → vec (length a1) r ≡ a1 → vec m r ≡ mean_from m s a1
unfolding mean_from
mean_begun m s a1 r l e h = rw (eq-eqb _ _ e) (loaded_vec m r l h)

-- its part is the first m numbers
pub mean_resumed : (m : ℕ) (s a1 r : List Float) → m ≤ length s → (length s ≡ 0 → ⊥) → vec (length (take m s)) r ≡ take m s → vec m r ≡ mean_from m s a1
unfolding mean_from
mean_resumed m s a1 r h e q = rw (ne_eqb _ _ e) (loaded_vec m r (length-take-le m s h) q)

pub mean_none : (m : ℕ) (s a : List Float) → length s ≡ 0 → s ≡ mean_kept m s a
unfolding mean_kept
mean_none m s a e = rw (eq-eqb _ _ e) refl

pub mean_kept_lem : (m : ℕ) (s a ys : List Float) → m ≤ length s → (length s ≡ 0 → ⊥) → Saved (length (take m s)) a ys → ys ++ drop m s ≡ mean_kept m s (vec m a)
unfolding mean_kept vec
mean_kept_lem m s a ys h e w = rw (ne_eqb _ _ e, saved (length-take-le m s h) w) refl
