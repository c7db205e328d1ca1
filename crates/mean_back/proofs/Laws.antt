-- Laws of one element back, of a period's elements from the last to the first, and of a period.
use mathlib.Core.Path.{◌≡◌, refl, sym, ap, ap₂, ◌∙◌}
use Prim.Native.Nat.{ℕ, suc, ◌+◌, ◌-◌, ◌*◌, ◌≤◌, ◌<◌}
use native.Mathlib.Nat.{zero-add}
use native.Mathlib.Omega.{arith}
use mathlib.Core.Bool.{Bool, cond}
use mathlib.Core.List.{List}
use lib.ListN.{length, get_or, take, drop}
use lib.Dec.{ltb}
use lib.Ieee.{Float, nan}
use Rattle.definition.specs.Num.{◌⊕◌, ◌⊗◌, 1ᶠ, is_zero, at, sum_but, matrix}
use Rattle.definition.specs.Dense.{axpy, scaled, row, mat_vec, mat_tVec, mat_tVec_term, mat_vec_term, zero_at}
use Rattle.definition.specs.Run.{fold_back, pairs}
use Rattle.definition.specs.Cov.{Decision, diffuse}
use Rattle.definition.specs.Smooth.{Rs, l_zero, l_one, f_one, k_one, l_usual, l_diffuse, usual_r, diffuse_r, back_r, back_mean_element, elements_r, back_a, step_rs, back_mean_of}
use Rattle.laws.specs.Lists.{tab_at, length_tab, matrix_at, pairs_at, length_pairs}
use Rattle.laws.specs.Flat.{Flat, no_decision, read_back, decisions_at, decisions_long, decision_at, block_at, look_at, mean_look_at}
use Rattle.dense.proofs.Laws.{but_next}
use Rattle.dense.specs.Views.{vec}
use Rattle.laws.specs.Backward.{fold_none, fold_step, part_block}
use Rattle.promise.specs.declared.Cause.{Cause}
use Rattle.promise.specs.declared.Kind.{Kind}
use Rattle.promise.specs.declared.Kind.TheVariants.{Skipped, Usual, Diffuse}
use Rattle.promise.specs.Records.{kind_from}
use Rattle.record.specs.Read.{read}
use Rattle.mean_back.specs.View.{looked_at}

-- ---- L' r by the entries of L

pub term : (m i j : ℕ) (l : ℕ → ℕ → Float) (r : List Float) {v : Float} → i < m → j < m → v ≡ l i j ⊗ at r i → v ≡ mat_tVec_term m (matrix m m l) r j i
unfolding mat_tVec_term
term m i j l r hi hj e = let q = matrix_at m m i j l hi hj in cc

-- a row of A x: one term more, or none where x is 0
pub kept_next : (m i j : ℕ) (a x : List Float) {s y r : Float} → s ≡ sum_but j (zero_at x) (mat_vec_term m a x i) → y ≡ at x j → r ≡ cond (is_zero y) s (s ⊕ at a (i * m + j) ⊗ y) → r ≡ sum_but (j + 1) (zero_at x) (mat_vec_term m a x i)
unfolding zero_at mat_vec_term
kept_next m i j a x {s} {y} {r} h e q =
    but_next (zero_at x) (mat_vec_term m a x i) j s r (at a (i * m + j) ⊗ y) (is_zero y) h (ap is_zero e) (ap (λ (u : Float). at a (i * m + j) ⊗ u) e) q

-- ---- one element, over what each call left

module _ (m : ℕ) (z : List Float) where
  -- a and b are r0 and r1 after the element; x0 and x3 before it
  pub diffuse_r_lem : (v f f∞ g : Float) (m* m∞ a b k0 k1 x0 x1 c x2 x3 : List Float) → g ≡ f_one f∞ → k0 ≡ scaled m m∞ g → k1 ≡ k_one m f f∞ m* m∞ → x0 ≡ mat_tVec m (l_zero m k0 z) a → x1 ≡ mat_tVec m (l_zero m k0 z) b → c ≡ mat_tVec m (l_one m k1 z) a
      → x2 ≡ axpy m x1 1ᶠ c → x3 ≡ axpy m x2 (v ⊗ g) z → ◌≡◌ {A = Rs} (record { r0 = x0; r1 = x3 }) (back_r m z (record { r0 = a; r1 = b }) (diffuse f f∞ m* m∞) v)
  unfolding back_r diffuse_r l_usual l_diffuse
  diffuse_r_lem _ _ _ _ _ _ _ _ _ _ _ _ _ _ _ e1 e2 e3 e4 e5 e6 e7 e8 = cc

-- ---- by the kind that is told at place k: the row and the gain vectors are the parts that the definition reads

module _ (m i k : ℕ) (design : List Float) (l : Flat) (vs : List Float) {q : Kind} (so : q ≡ kind_from (get_or l.kinds k 0) (at vs k) (at l.f_stars k) (at l.f_infs k)) where
  pub back_none : (s : Rs) {c : Cause} → q ≡ Skipped c → s ≡ back_r m (row m design i) s (read_back m l k) (at vs k)
  unfolding back_r
  back_none s e = rw (read m l (at vs k) k so e).2 refl

  module _ (z ms : List Float) (ez : vec m z ≡ row m design i) (es : vec m ms ≡ block_at m l.m_stars k) where
    pub back_usual : (a b a' : List Float) {v f : Float} → q ≡ Usual v f → a' ≡ usual_r m (vec m z) v (f_one f) (l_usual m (vec m z) f (vec m ms)) a
        → ◌≡◌ {A = Rs} (record { r0 = a'; r1 = b }) (back_r m (row m design i) (record { r0 = a; r1 = b }) (read_back m l k) (at vs k))
    unfolding back_r
    back_usual a b a' e h = let t = read m l (at vs k) k so e in let h' = rw (ez, es) at h in rw (t.1, t.0, h') refl

    pub back_diffuse : (mi : List Float) → vec m mi ≡ block_at m l.m_infs k → (s s' : Rs) {v f f∞ : Float} → q ≡ Diffuse v f f∞ → s' ≡ back_r m (vec m z) s (diffuse f f∞ (vec m ms) (vec m mi)) v → s' ≡ back_r m (row m design i) s (read_back m l k) (at vs k)
    back_diffuse mi ei s s' e h = let t = read m l (at vs k) k so e in let h' = rw (ez, es, ei) at h in rw (t.1, t.0) h'

-- ---- the parts that a period reads

pub smooth_at : (m t : ℕ) (live : Bool) (r : Rs) (pm pc pi out : List Float) → t * m + m ≤ length pm → t * (m * m) + m * m ≤ length pc → t * (m * m) + m * m ≤ length pi
    → out ≡ back_a m live (take (t * (m * m) + m * m - t * (m * m)) (drop (t * (m * m)) pc)) (take (t * (m * m) + m * m - t * (m * m)) (drop (t * (m * m)) pi)) (take (t * m + m - t * m) (drop (t * m) pm)) r → out ≡ back_a m live (block_at (m * m) pc t) (block_at (m * m) pi t) (block_at m pm t) r
smooth_at m t live r pm pc pi out hm hc hi h = rw (part_block t m pm hm, part_block t (m * m) pc hc, part_block t (m * m) pi hi) at h

-- ---- the elements of a period

module _ (p m t : ℕ) (r : Flat) (vs : List Float) where
  abbrev pub told : List (Decision × Float)
  told = pairs (decisions_at p m r t) (block_at p vs t)

  news_long : length (block_at p vs t) ≡ p
  unfolding block_at
  news_long = length_tab p 0 (λ i. at vs (t * p + i))

  told_long : length told ≡ p
  told_long = length_pairs p (decisions_at p m r t) (block_at p vs t) (decisions_long p m t r) news_long

  told_at : (i : ℕ) → i < p → get_or told i (no_decision, nan) ≡ (read_back m r (t * p + i), at vs (t * p + i))
  unfolding block_at
  told_at i h =
      pairs_at (decisions_at p m r t) (block_at p vs t) i no_decision nan (no_decision, nan) (rw (decisions_long p m t r) h) (rw news_long h)
      ∙ ap₂ (λ (d : Decision) (x : Float). (d, x)) (decision_at p m t r i h) (tab_at p 0 i (λ i. at vs (t * p + i)) nan h ∙ ap (λ (j : ℕ). at vs (t * p + j)) (zero-add i))

  -- the loop over them: what holds with the elements from i on done
  module _ (design : List Float) (s₀ : Rs) where
    pub record Down (i : ℕ) (s : Rs) : Type 0 where
      pub low : i ≤ p
      pub state : s ≡ fold_back (back_mean_element m design) i s₀ (drop i told)

    pub down_none : Down p s₀
    down_none = record { low = omega arith; state = fold_none (back_mean_element m design) told s₀ p told_long }

    pub down_next : {i : ℕ} {s s' : Rs} → Down i s → 0 < i → s' ≡ back_r m (row m design (i - 1)) s (read_back m r (t * p + (i - 1))) (at vs (t * p + (i - 1))) → Down (i - 1) s'
    unfolding back_mean_element
    down_next {i} {s} {s'} g h e =
        let up : i ≡ suc (i - 1) = omega arith in
        let b : i - 1 < p = omega (arith, g.low) in
        let f = back_mean_element m design in
        let st : s ≡ fold_back f (suc (i - 1)) s₀ (drop (suc (i - 1)) told) = g.state ∙ ap (λ (k : ℕ). fold_back f k s₀ (drop k told)) up in
        record {
          low = omega (arith, g.low);
          state = e ∙ ap₂ (λ (u : Rs) (x : Decision × Float). back_r m (row m design (i - 1)) u x.0 x.1) st (sym (told_at (i - 1) b)) ∙ sym (fold_step f told s₀ (i - 1) (no_decision, nan) (rw told_long b));
        }

    pub down_all : {i : ℕ} {s : Rs} → Down i s → i ≤ 0 → s ≡ elements_r m design s₀ told
    unfolding elements_r
    down_all {i} {s} g h = let e : i ≡ 0 = omega arith in rw e at g.state

-- ---- a period: its elements, its smoothed mean, the step

-- b and b∞ are the predicted mean after P r0, and what is kept of it after P∞ r1
pub smoothed : (m : ℕ) (live : Bool) (p p∞ a : List Float) (r : Rs) (x b c out : List Float) → x ≡ a → b ≡ axpy m x 1ᶠ (mat_vec m p r.r0) → c ≡ cond live (axpy m b 1ᶠ (mat_vec m p∞ r.r1)) b → out ≡ c → out ≡ back_a m live p p∞ a r
unfolding back_a
smoothed _ _ _ _ _ _ _ _ _ _ e1 e2 e3 e4 = cc

pub whole : (p m dd t : ℕ) (tr design pm pc pi vs : List Float) (r : Flat) (s e s' : Rs) (out : List Float) → e ≡ elements_r m design s (told p m t r vs) → out ≡ back_a m (ltb t dd) (block_at (m * m) pc t) (block_at (m * m) pi t) (block_at m pm t) e → s' ≡ step_rs m tr e
    → ◌≡◌ (out, s') (back_mean_of m tr design s (looked_at p m dd pm pc pi vs r t))
unfolding back_mean_of look_at mean_look_at
whole p m dd t tr design pm pc pi vs r s e s' out h g q = rw (q, g, h) refl
