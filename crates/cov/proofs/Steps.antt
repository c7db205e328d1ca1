-- One period: what the calls of each of its three steps leave, put together, and the three steps as the definition's period.
use mathlib.Core.Path.{◌≡◌, refl, ap, ap₂, ◌∙◌, subst}
use Prim.Native.Nat.{ℕ, ◌*◌}
use mathlib.Core.Bool.{Bool}
use mathlib.Core.List.{List}
use lib.ListN.{length, take}
use lib.Ieee.{Float}
use Rattle.definition.specs.Dense.{symmetrise}
use Rattle.definition.specs.Run.{scan}
use Rattle.definition.specs.Cov.{Cov, element_of, stepped, ended, period_of}
use Rattle.definition.specs.Parts.{cov_block, kind_block}
use Rattle.dense.specs.Places.{Saved, saved}
use Rattle.dense.specs.Views.{vec, mat, rect}
use Rattle.laws.specs.Flat.{Flat}
use Rattle.track.specs.declared.State.{State}
use Rattle.track.specs.View.{cov_in}
use Rattle.element.specs.Views.{Kept}
use Rattle.period.specs.Views.{Ran, Begun, before_first}
use Rattle.cov.specs.View.{OfRecords, Entered, absorb_of, Absorbed, Left, Held}

module _ (m : ℕ) {s s' : State} where
  pub entering : {pc pi : List Float} {a b : ℕ} → Begun m s s' → a ≡ m * m → Saved a s'.star pc → b ≡ m * m → Saved b s'.p_inf pi → Entered m s s' pc pi
  unfolding rect
  entering b la wa lb wb = record { begun = b; pred = saved la wa; pred_inf = saved lb wb }

module _ (p m : ℕ) (h design : List Float) (s s' : State) (gaps : List Bool) (z : List Float) (n : Flat) where
  pub absorbed : {ks : List ℕ} {fs fi ms mi : List Float} {lk ls li lms lmi : ℕ} → length design ≡ p * m → vec (length design) z ≡ design
      → Ran p m (scan (element_of p m h (record { diffuse = s.live; z = rect p m z; pre = mat m s.star; unres = mat m s.unres })) 0 (before_first m s) gaps) n s'
      → OfRecords p m lk ls li lms lmi → Saved lk n.kinds ks → Saved ls n.f_stars fs → Saved li n.f_infs fi → Saved lms n.m_stars ms → Saved lmi n.m_infs mi
      → Absorbed m (absorb_of p m h design (cov_in m s) gaps) s' ks fs fi ms mi
  unfolding absorb_of vec rect
  absorbed e ez r l w1 w2 w3 w4 w5 =
      let zi : take (p * m) z ≡ design = rw e at ez in
      let k = subst (λ (d : List Float). Ran p m (scan (element_of p m h (record { diffuse = s.live; z = d; pre = mat m s.star; unres = mat m s.unres })) 0 (before_first m s) gaps) n s') zi r in
      record {
        kinds = saved l.kinds w1 ∙ k.kinds;
        stars = saved l.stars w2 ∙ k.f_stars;
        infs = saved l.infs w3 ∙ k.f_infs;
        m_stars = saved l.m_stars w4 ∙ k.m_stars;
        m_infs = saved l.m_infs w5 ∙ k.m_infs;
        star = k.star;
        pinf = k.pinf;
        root = k.root;
      }

module _ (m : ℕ) (tr rqr : List Float) (c : Cov) (s q : List Float) where
  pub left : {c' : Cov} {fc : List Float} {n : ℕ} → mat m s ≡ symmetrise m c.star → mat m q ≡ symmetrise m c.pinf → n ≡ m * m → Saved n s fc → c' ≡ stepped m tr rqr c.live (mat m s) (mat m q) c.root c.unres
      → Left m tr rqr c c' fc
  unfolding rect
  left e1 e2 l w g = record { filt = saved l w ∙ e1; state = g ∙ ap₂ (λ (a : List Float) (b : List Float). stepped m tr rqr c.live a b c.root c.unres) e1 e2 }

-- the three steps, in order: from the state s to s0, s1 and s2
module _ (p m : ℕ) (h tr rqr z : List Float) (s s0 s1 s2 : State) (gaps : List Bool) where
  pub whole : {pc pi fc : List Float} {ks : List ℕ} {fs fi ms mi : List Float} → Entered m s s0 pc pi
      → Absorbed m (absorb_of p m h z (cov_in m s0) gaps) s1 ks fs fi ms mi → Kept s0 s1 → Left m tr rqr (cov_in m s1) (cov_in m s2) fc
      → Held m (period_of p m h tr rqr z (cov_in m s) gaps) (cov_in m s2) pc pi fc ks fs fi ms mi
  unfolding period_of ended stepped absorb_of cov_block kind_block
  whole en ab k le =
      rw (← en.begun.lasts, ← en.begun.pinf, ← en.begun.star, ← en.begun.root, ← en.begun.unres)
      (record {
        state = le.state ∙ rw (ab.star, ab.pinf, ab.root, k.live, k.unres) refl;
        diffuse = ap (λ (c : Cov). c.live) le.state ∙ k.live;
        pred = en.pred;
        pred_inf = en.pred_inf;
        filt = le.filt ∙ ap (symmetrise m) ab.star;
        kinds = ab.kinds;
        stars = ab.stars;
        infs = ab.infs;
        m_stars = ab.m_stars;
        m_infs = ab.m_infs;
      })
