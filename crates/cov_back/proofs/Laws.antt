-- Laws of one period back: what is read off the lent parts, the elements from the last, the smoothed covariance, the step.
use mathlib.Core.Path.{◌≡◌, sym, ap, ap₂, ◌∙◌}
use Prim.Native.Nat.{ℕ, suc, ◌+◌, ◌-◌, ◌*◌, ◌≤◌, ◌<◌}
use native.Mathlib.Omega.{arith}
use mathlib.Core.Bool.{Bool, cond}
use mathlib.Core.List.{List}
use lib.ListN.{length, get_or, take, drop}
use lib.Dec.{ltb}
use lib.Ieee.{Float}
use Rattle.definition.specs.Num.{at}
use Rattle.definition.specs.Dense.{mul, transposed, minus, quad, symmetrise, row}
use Rattle.definition.specs.Run.{fold_back}
use Rattle.definition.specs.Smooth.{Ns, back_n, back_element, elements_n, between, diffuse_v, back_v, step_ns, back_cov_of}
use Rattle.laws.specs.Flat.{Flat, no_decision, read_back, decisions_at, decisions_long, decision_at, block_at, look_at}
use Rattle.laws.specs.Backward.{fold_none, fold_step, part_block}
use Rattle.dense.specs.Views.{mat}
use Rattle.dense.specs.Places.{Saved}
use Rattle.dense.proofs.Laws.{saved_rect}
use Rattle.promise.specs.declared.Kind.{Kind}
use Rattle.promise.specs.Records.{kind_from}
use Rattle.element_back.specs.View.{decided, decided_from}

-- ---- one element, by the record at place k

pub element_back : (m i k : ℕ) (live : Bool) (design : List Float) (r : Flat) (n : Ns) (v : Float) {q : Kind} {x : Ns} → q ≡ kind_from (get_or r.kinds k 0) v (at r.f_stars k) (at r.f_infs k)
    → x ≡ back_n m live (row m design i) n (decided q (block_at m r.m_stars k) (block_at m r.m_infs k)) → x ≡ back_element m live design i n (read_back m r k)
unfolding back_element read_back block_at
element_back m i k live design r n v e h =
    h ∙ ap (back_n m live (row m design i) n) (ap (λ (q : Kind). decided q (block_at m r.m_stars k) (block_at m r.m_infs k)) e ∙ decided_from (get_or r.kinds k 0) v (at r.f_stars k) (at r.f_infs k) (block_at m r.m_stars k) (block_at m r.m_infs k))

-- ---- the elements of a period, last to first

module _ (p m t : ℕ) (r : Flat) where
  -- the loop over them: what holds with the elements from i on done
  module _ (live : Bool) (design : List Float) (s₀ : Ns) where
    pub record Along (i : ℕ) (s : Ns) : Type 0 where
      pub low : i ≤ p
      pub ran : s ≡ fold_back (back_element m live design) i s₀ (drop i (decisions_at p m r t))

    pub along_none : Along p s₀
    along_none = record { low = omega arith; ran = fold_none (back_element m live design) (decisions_at p m r t) s₀ p (decisions_long p m t r) }

    pub along_next : {i j : ℕ} {s s' : Ns} → Along i s → j + 1 ≡ i → s' ≡ back_element m live design j s (read_back m r (t * p + j)) → Along j s'
    along_next {i} {j} {s} {s'} g e h =
        let e' : i ≡ suc j = omega arith in
        let b : j < p = omega (arith, g.low) in
        let so : s ≡ fold_back (back_element m live design) (suc j) s₀ (drop (suc j) (decisions_at p m r t)) = rw e' at g.ran in
        record {
          low = omega arith;
          ran = h ∙ ap₂ (back_element m live design j) so (sym (decision_at p m t r j b)) ∙ sym (fold_step (back_element m live design) (decisions_at p m r t) s₀ j no_decision (rw (decisions_long p m t r) b));
        }

    pub along_all : {i : ℕ} {s : Ns} → Along i s → i ≤ 0 → s ≡ elements_n m live design s₀ (decisions_at p m r t)
    unfolding elements_n
    along_all {i} {s} g h = let e : i ≡ 0 = omega arith in rw e at g.ran

-- ---- the smoothed covariance

module _ (m : ℕ) where
  pub less : (v a n b : List Float) {an anb v' : List Float} → an ≡ mul m a n → anb ≡ mul m an b → v' ≡ minus m v anb → v' ≡ minus m v (between m a n b)
  unfolding between
  less v a n b e1 e2 e3 = cc

  pub diffuse_less : (v p p∞ n0 n1 n2 : List Float) {a x x' v' v'' w : List Float} → a ≡ mul m p∞ n1 → x ≡ mul m a p → v' ≡ minus m v x → x' ≡ transposed m x → v'' ≡ minus m v' x' → w ≡ minus m v'' (between m p∞ n2 p∞) → w ≡ diffuse_v m p p∞ (record { n0 = n0; n1 = n1; n2 = n2 }) v
  unfolding diffuse_v between
  diffuse_less v p p∞ n0 n1 n2 e1 e2 e3 e4 e5 e6 = cc

  pub backed : (live : Bool) (n : Ns) (pred inf p v w x out : List Float) {k : ℕ} → mat m p ≡ pred → mat m v ≡ minus m (mat m p) (between m (mat m p) n.n0 (mat m p)) → mat m w ≡ cond live (diffuse_v m (mat m p) inf n (mat m v)) (mat m v) → mat m x ≡ symmetrise m (mat m w) → k ≡ m * m → Saved k x out → out ≡ back_v m live pred inf n
  unfolding back_v
  backed live n pred inf p v w x out ep ev ew ex ek es = let eo = saved_rect m m ek es in rw (← ep) (eo ∙ ex ∙ ap (symmetrise m) (rw ev at ew))

  -- P and P∞ as period t's blocks of the parts
  pub of_blocks : (t : ℕ) (live : Bool) (pc pi : List Float) (n : Ns) {out : List Float} → t * (m * m) + m * m ≤ length pc → t * (m * m) + m * m ≤ length pi
      → out ≡ back_v m live (take (t * (m * m) + m * m - t * (m * m)) (drop (t * (m * m)) pc)) (take (t * (m * m) + m * m - t * (m * m)) (drop (t * (m * m)) pi)) n → out ≡ back_v m live (block_at (m * m) pc t) (block_at (m * m) pi t) n
  of_blocks t live pc pi n hc hi e = rw (part_block t (m * m) pc hc, part_block t (m * m) pi hi) at e

  -- ---- the step

  pub by_t : (t n : List Float) {a b : List Float} → a ≡ mul m (transposed m t) n → b ≡ mul m a t → b ≡ quad m t n t
  unfolding quad
  by_t t n e g = cc

  pub all_by_t : (t n0 n1 n2 : List Float) {a b c : List Float} → a ≡ quad m t n0 t → b ≡ quad m t n1 t → c ≡ quad m t n2 t → ◌≡◌ {A = Ns} (record { n0 = a; n1 = b; n2 = c }) (step_ns m t (record { n0 = n0; n1 = n1; n2 = n2 }))
  unfolding step_ns
  all_by_t t n0 n1 n2 e1 e2 e3 = cc

-- ---- the whole period

pub whole : (p m t dd : ℕ) (pc pi tr design : List Float) (r : Flat) (n : Ns) {e s : Ns} {out : List Float} → e ≡ elements_n m (ltb t dd) design n (decisions_at p m r t) → out ≡ back_v m (ltb t dd) (block_at (m * m) pc t) (block_at (m * m) pi t) e → s ≡ step_ns m tr e → ◌≡◌ (out, s) (back_cov_of m tr design n (look_at p m dd pc pi r t))
unfolding back_cov_of look_at
whole p m t dd pc pi tr design r n ee eo es = rw (← ee) (ap₂ (λ (o : List Float) (s : Ns). (o, s)) eo es)
