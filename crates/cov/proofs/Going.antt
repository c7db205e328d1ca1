-- The loop over the periods: what holds before period i, how a period keeps it, and what it comes to.
use mathlib.Core.Path.{◌≡◌, refl, sym, ap, ap₂, ◌∙◌, subst}
use Prim.Native.Nat.{ℕ, zero, suc, ◌+◌, ◌-◌, ◌*◌, ◌≤◌, ◌<◌}
use native.Mathlib.Omega.{arith}
use mathlib.Core.Bool.{Bool, true, false, cond}
use mathlib.Core.List.{List, [], ◌∷◌, ◌++◌, map}
use lib.ListN.{length, get_or, take, drop}
use lib.Seq.{take_all}
use lib.Ieee.{Float}
use borrow.Rule.Slice.PartMut.{mid_of}
use Rattle.definition.specs.Run.{scan, count, join}
use Rattle.definition.specs.Cov.{System, Cov, CovPeriod, period_of, period, cov_run}
use Rattle.definition.specs.Inputs.{class_of, is_gap, gap_rows, system_from, part_from, transition_from}
use Rattle.definition.specs.Parts.{predCov, pred_inf, filtCov, fStar, fInf, mStar, mInf, cov_block, kind_block}
use Rattle.definition.specs.Outcome.{cov_written, kinds_written}
use Rattle.laws.specs.Lists.{length-chunks}
use Rattle.laws.specs.Passes.{wrote_none, wrote_next, wrote_all, state_next, state_all, count_next, count-append, chunk_at, block_in, over, lay_last}
use Rattle.laws.specs.Passes as passes
use Rattle.laws.specs.Backward.{block_long}
use Rattle.laws.specs.Blocks.{part_in}
use Rattle.dense.specs.Views.{mat, rect}
use Rattle.dense.specs.Places.{Saved, saved}
use Rattle.track.specs.declared.State.{State}
use Rattle.track.specs.View.{cov_in}
use Rattle.period.specs.Views.{gaps_of}
use Rattle.carried.specs.State.{cov_kept}
use Rattle.cov.specs.View.{Blocks, Held, Room, LoopedTo, Passed}

-- what is mapped over a part is a part of what is mapped over the whole
map-take : {A B : Type 0} (f : A → B) (k : ℕ) (l : List A) → map f (take k l) ≡ take k (map f l)
map-take f zero l = refl
map-take f (suc k) [] = refl
map-take {B = B} f (suc k) (x ∷ l) = ap (λ (r : List B). f x ∷ r) (map-take f k l)

map-drop : {A B : Type 0} (f : A → B) (k : ℕ) (l : List A) → map f (drop k l) ≡ drop k (map f l)
map-drop f zero l = refl
map-drop f (suc k) [] = refl
map-drop f (suc k) (x ∷ l) = map-drop f k l

map_part : {A B : Type 0} (f : A → B) (k a : ℕ) (l : List A) → map f (take k (drop a l)) ≡ take k (drop a (map f l))
map_part f k a l = map-take f k (drop a l) ∙ ap (take k) (map-drop f a l)

-- the count of diffuse periods, one period further
diffuse_more : (l : List CovPeriod) (b : CovPeriod) → count (λ c. c.diffuse) (l ++ (b ∷ [])) ≡ count (λ c. c.diffuse) l + cond b.diffuse 1 0
unfolding count
diffuse_more l b = let e = count-append (λ (c : CovPeriod). c.diffuse) l (b ∷ []) in omega arith

one_more : (b : Bool) (d d' i : ℕ) → d' ≡ d + cond b 1 0 → d ≤ i → d' ≤ i + 1
one_more true d d' i e h = omega arith
one_more false d d' i e h = omega arith

-- how long block i of a part is
abbrev long_at : {X : Type 0} → ℕ → ℕ → List X → ℕ
long_at i k o = length (mid_of (i * k) (i * k + k - i * k) o)

module _ (p m : ℕ) (z zs h t ts r : List Float) (c : Cov) (y : List Float) (n : ℕ) where
  abbrev Y : System
  Y = system_from p m z zs h t ts r

  abbrev gs : List (List Bool)
  gs = gap_rows n p (map class_of y)

  abbrev past : ℕ → List CovPeriod × Cov
  past i = scan (period Y) 0 c (take i gs)

  rows : length gs ≡ n
  unfolding gap_rows
  rows = length-chunks n p (map is_gap (map class_of y))

  -- the gaps of period i, in its own part of the readings
  abbrev own_gaps : ℕ → List Bool
  own_gaps i = gaps_of (take (i * p + p - i * p) (drop (i * p) y))

  row-at : (i : ℕ) → i < n → own_gaps i ≡ get_or gs i []
  unfolding gap_rows
  row-at i l =
      let k : i * p + p - i * p ≡ p = omega arith in
      rw k (ap (map is_gap) (map_part class_of p (i * p) y) ∙ map_part is_gap p (i * p) (map class_of y) ∙ sym (chunk_at n p (map is_gap (map class_of y)) i l))

  pub record Going (i : ℕ) (s : Cov) (d : ℕ) (pc₀ pc pi₀ pi fc₀ fc : List Float) (k₀ k : List ℕ) (fs₀ fs fi₀ fi ms₀ ms mi₀ mi : List Float) : Type 0 where
    pub low : i ≤ n
    pub state : s ≡ (past i).1
    pub diffuse : d ≡ count (λ c. c.diffuse) (past i).0
    pub few : d ≤ i
    pub pred : passes.Wrote (period Y) (cov_block m predCov) (m * m) gs c pc₀ pc i
    pub pred_inf : passes.Wrote (period Y) (cov_block m pred_inf) (m * m) gs c pi₀ pi i
    pub filt : passes.Wrote (period Y) (cov_block m filtCov) (m * m) gs c fc₀ fc i
    pub kinds : passes.Wrote (period Y) kind_block p gs c k₀ k i
    pub stars : passes.Wrote (period Y) (cov_block m fStar) p gs c fs₀ fs i
    pub infs : passes.Wrote (period Y) (cov_block m fInf) p gs c fi₀ fi i
    pub m_stars : passes.Wrote (period Y) (cov_block m mStar) (p * m) gs c ms₀ ms i
    pub m_infs : passes.Wrote (period Y) (cov_block m mInf) (p * m) gs c mi₀ mi i

  pub going_none : (s : Cov) (pc pi fc : List Float) (k : List ℕ) (fs fi ms mi : List Float) → s ≡ c → Going 0 s 0 pc pc pi pi fc fc k k fs fs fi fi ms ms mi mi
  unfolding scan count
  going_none s pc pi fc k fs fi ms mi e =
      record {
        low = omega arith;
        state = e;
        diffuse = refl;
        few = omega arith;
        pred = wrote_none (period Y) (cov_block m predCov) (m * m) gs c pc;
        pred_inf = wrote_none (period Y) (cov_block m pred_inf) (m * m) gs c pi;
        filt = wrote_none (period Y) (cov_block m filtCov) (m * m) gs c fc;
        kinds = wrote_none (period Y) kind_block p gs c k;
        stars = wrote_none (period Y) (cov_block m fStar) p gs c fs;
        infs = wrote_none (period Y) (cov_block m fInf) p gs c fi;
        m_stars = wrote_none (period Y) (cov_block m mStar) (p * m) gs c ms;
        m_infs = wrote_none (period Y) (cov_block m mInf) (p * m) gs c mi;
      }

  module _ {i d : ℕ} {s : Cov} {pc₀ pc pi₀ pi fc₀ fc : List Float} {k₀ k : List ℕ} {fs₀ fs fi₀ fi ms₀ ms mi₀ mi : List Float} where
    -- the parts that period i is handed are its blocks
    pub blocks_in : Going i s d pc₀ pc pi₀ pi fc₀ fc k₀ k fs₀ fs fi₀ fi ms₀ ms mi₀ mi → i < n → Room p m n (length pc₀) (length pi₀) (length fc₀) (length k₀) (length fs₀) (length fi₀) (length ms₀) (length mi₀)
        → Blocks p m (long_at i (m * m) pc) (long_at i (m * m) pi) (long_at i (m * m) fc) (long_at i p k) (long_at i p fs) (long_at i p fi) (long_at i (p * m) ms) (long_at i (p * m) mi)
    blocks_in g h' room =
        record {
          pred = block_long i (m * m) pc (part_in (m * m) h' room.pred g.pred.0);
          pred_inf = block_long i (m * m) pi (part_in (m * m) h' room.pred_inf g.pred_inf.0);
          filt = block_long i (m * m) fc (part_in (m * m) h' room.filt g.filt.0);
          records =
              record {
                kinds = block_long i p k (part_in p h' room.kinds g.kinds.0);
                stars = block_long i p fs (part_in p h' room.stars g.stars.0);
                infs = block_long i p fi (part_in p h' room.infs g.infs.0);
                m_stars = block_long i (p * m) ms (part_in (p * m) h' room.m_stars g.m_stars.0);
                m_infs = block_long i (p * m) mi (part_in (p * m) h' room.m_infs g.m_infs.0);
              };
        }

  module _ {i d d' : ℕ} {s s' : Cov} {zi ti : List Float} {pc₀ pc pi₀ pi fc₀ fc : List Float} {k₀ k : List ℕ} {fs₀ fs fi₀ fi ms₀ ms mi₀ mi : List Float} (pcb pib fcb : List Float) (kb : List ℕ) (fsb fib msb mib : List Float) where
    -- period i leaves its blocks, each in its own part
    pub going_next : Going i s d pc₀ pc pi₀ pi fc₀ fc k₀ k fs₀ fs fi₀ fi ms₀ ms mi₀ mi → i < n → Room p m n (length pc₀) (length pi₀) (length fc₀) (length k₀) (length fs₀) (length fi₀) (length ms₀) (length mi₀)
        → Blocks p m (length pcb) (length pib) (length fcb) (length kb) (length fsb) (length fib) (length msb) (length mib)
        → zi ≡ part_from (p * m) z zs i → ti ≡ transition_from m t ts i → Held m (period_of p m h ti r zi s (own_gaps i)) s' pcb pib fcb kb fsb fib msb mib → d' ≡ d + cond s'.live 1 0
        → Going (i + 1) s' d' pc₀ (over i (m * m) pc pcb) pi₀ (over i (m * m) pi pib) fc₀ (over i (m * m) fc fcb) k₀ (over i p k kb) fs₀ (over i p fs fsb) fi₀ (over i p fi fib) ms₀ (over i (p * m) ms msb) mi₀ (over i (p * m) mi mib)
    unfolding system_from
    going_next g h' room long ez et w ed =
        let low : i < length gs = rw rows h' in
        let here = period Y i (past i).1 (get_or gs i []) in
        let now : period_of p m h ti r zi s (own_gaps i) ≡ here = ap₂ (λ (u v : List Float). period_of p m h u r v s (own_gaps i)) et ez ∙ ap₂ (λ (w : Cov) (v : List Bool). period Y i w v) g.state (row-at i h') in
        let held = subst (λ (q : CovPeriod × Cov). Held m q s' pcb pib fcb kb fsb fib msb mib) now w in
        record {
          low = omega arith;
          state = state_next (period Y) gs c i [] (past i).1 s' low refl held.state;
          diffuse = count_next (period Y) gs c (λ (q : CovPeriod). cond q.diffuse 1 0) (count (λ (q : CovPeriod). q.diffuse)) diffuse_more i [] d d' low g.diffuse (ed ∙ ap (λ (b : Bool). d + cond b 1 0) held.diffuse);
          few = one_more s'.live d d' i ed g.few;
          pred = wrote (cov_block m predCov) (m * m) pc₀ pc pcb low h' room.pred g.pred long.pred held.pred;
          pred_inf = wrote (cov_block m pred_inf) (m * m) pi₀ pi pib low h' room.pred_inf g.pred_inf long.pred_inf held.pred_inf;
          filt = wrote (cov_block m filtCov) (m * m) fc₀ fc fcb low h' room.filt g.filt long.filt held.filt;
          kinds = wrote kind_block p k₀ k kb low h' room.kinds g.kinds long.records.kinds held.kinds;
          stars = wrote (cov_block m fStar) p fs₀ fs fsb low h' room.stars g.stars long.records.stars held.stars;
          infs = wrote (cov_block m fInf) p fi₀ fi fib low h' room.infs g.infs long.records.infs held.infs;
          m_stars = wrote (cov_block m mStar) (p * m) ms₀ ms msb low h' room.m_stars g.m_stars long.records.m_stars held.m_stars;
          m_infs = wrote (cov_block m mInf) (p * m) mi₀ mi mib low h' room.m_infs g.m_infs long.records.m_infs held.m_infs;
        }
      where
        wrote : {X : Type 0} (f : CovPeriod → List X) (k : ℕ) (old o b : List X) → i < length gs → i < n → n * k ≤ length old → passes.Wrote (period Y) f k gs c old o i → length b ≡ k → b ≡ f (period Y i (past i).1 (get_or gs i [])).0
            → passes.Wrote (period Y) f k gs c old (over i k o b) (i + 1)
        wrote f k old o b a h room w l e = wrote_next (period Y) f k gs c i [] old o b a (omega (arith, block_in i n k h)) w l e

  module _ {i d : ℕ} (z' : State) {pc₀ pc pi₀ pi fc₀ fc : List Float} {k₀ k : List ℕ} {fs₀ fs fi₀ fi ms₀ ms mi₀ mi : List Float} where
    pub going_all : Going i (cov_in m z') d pc₀ pc pi₀ pi fc₀ fc k₀ k fs₀ fs fi₀ fi ms₀ ms mi₀ mi → n ≤ i → Room p m n (length pc₀) (length pi₀) (length fc₀) (length k₀) (length fs₀) (length fi₀) (length ms₀) (length mi₀)
        → LoopedTo p m n (cov_run Y 0 c gs) z' d pc₀ pc pi₀ pi fc₀ fc k₀ k fs₀ fs fi₀ fi ms₀ ms mi₀ mi
    unfolding cov_run
    going_all g h' room =
        let e : i ≡ n = omega (arith, g.low) in
        let st = state_all (period Y) gs c n i (cov_in m z') rows e g.state in
        let all : take i gs ≡ gs = take_all i gs (omega (arith, rows)) in
        record {
          state = st;
          diffuse = g.diffuse ∙ ap (λ (l : List (List Bool)). count (λ c. c.diffuse) (scan (period Y) 0 c l).0) all;
          pred = wrote_all (period Y) (cov_block m predCov) (m * m) gs c n i pc₀ pc rows e room.pred g.pred;
          pred_inf = wrote_all (period Y) (cov_block m pred_inf) (m * m) gs c n i pi₀ pi rows e room.pred_inf g.pred_inf;
          filt = wrote_all (period Y) (cov_block m filtCov) (m * m) gs c n i fc₀ fc rows e room.filt g.filt;
          kinds = wrote_all (period Y) kind_block p gs c n i k₀ k rows e room.kinds g.kinds;
          stars = wrote_all (period Y) (cov_block m fStar) p gs c n i fs₀ fs rows e room.stars g.stars;
          infs = wrote_all (period Y) (cov_block m fInf) p gs c n i fi₀ fi rows e room.infs g.infs;
          m_stars = wrote_all (period Y) (cov_block m mStar) (p * m) gs c n i ms₀ ms rows e room.m_stars g.m_stars;
          m_infs = wrote_all (period Y) (cov_block m mInf) (p * m) gs c n i mi₀ mi rows e room.m_infs g.m_infs;
        }

-- place n stored too, in its own part, and the state kept
module _ (p m n : ℕ) {r : List CovPeriod × Cov} {z : State} {d : ℕ} {s s' : List Float} {pc₀ pc pi₀ pi fc₀ fc : List Float} {k₀ k : List ℕ} {fs₀ fs fi₀ fi ms₀ ms mi₀ mi : List Float} (pcb pib : List Float) where
  pub passed : LoopedTo p m n r z d pc₀ pc pi₀ pi fc₀ fc k₀ k fs₀ fs fi₀ fi ms₀ ms mi₀ mi → length pcb ≡ m * m → pcb ≡ mat m z.star → length pib ≡ m * m → pib ≡ mat m z.p_inf → s' ≡ cov_kept m s (cov_in m z) → Passed p m n r (record { live = z.live; diffuse = d }) s s' pc₀ (over n (m * m) pc pcb) pi₀ (over n (m * m) pi pib) fc₀ fc k₀ k fs₀ fs fi₀ fi ms₀ ms mi₀ mi
  unfolding cov_written kinds_written
  passed l lc ec li ei q =
      record {
        live = ap (λ (c : Cov). c.live) l.state;
        diffuse = l.diffuse;
        state = q ∙ ap (λ (c : Cov). cov_kept m s c) l.state;
        pred = rw (← ap (λ (c : Cov). c.star) l.state, ← ec) (lay_last n (m * m) (join (map (cov_block m predCov) r.0)) pcb pc₀ pc l.pred lc);
        pred_inf = rw (← ap (λ (c : Cov). c.pinf) l.state, ← ei) (lay_last n (m * m) (join (map (cov_block m pred_inf) r.0)) pib pi₀ pi l.pred_inf li);
        filt = l.filt;
        kinds = l.kinds;
        stars = l.stars;
        infs = l.infs;
        m_stars = l.m_stars;
        m_infs = l.m_infs;
      }

-- the pass: the inputs as they were lent
module _ (p m n : ℕ) (z zs : List Float) (gs : List (List Bool)) (h h' t ts r : List Float) (c c' : Cov) where
  same_run : h' ≡ h → c' ≡ c → cov_run (system_from p m z zs h' t ts r) 0 c' gs ≡ cov_run (system_from p m z zs h t ts r) 0 c gs
  same_run a e = cc

  module _ {e : State} {d : ℕ} {s s' : List Float} {pc₀ pc pi₀ pi fc₀ fc : List Float} {k₀ k : List ℕ} {fs₀ fs fi₀ fi ms₀ ms mi₀ mi : List Float} (pcb pib : List Float) where
    pub finished : h' ≡ h → c' ≡ c → LoopedTo p m n (cov_run (system_from p m z zs h' t ts r) 0 c' gs) e d pc₀ pc pi₀ pi fc₀ fc k₀ k fs₀ fs fi₀ fi ms₀ ms mi₀ mi
        → {a b : ℕ} → a ≡ m * m → Saved a e.star pcb → b ≡ m * m → Saved b e.p_inf pib → s' ≡ cov_kept m s (cov_in m e)
        → Passed p m n (cov_run (system_from p m z zs h t ts r) 0 c gs) (record { live = e.live; diffuse = d }) s s' pc₀ (over n (m * m) pc pcb) pi₀ (over n (m * m) pi pib) fc₀ fc k₀ k fs₀ fs fi₀ fi ms₀ ms mi₀ mi
    unfolding rect
    finished a ce l ec wc ei wi q = passed p m n pcb pib (subst (λ (r : List CovPeriod × Cov). LoopedTo p m n r e d pc₀ pc pi₀ pi fc₀ fc k₀ k fs₀ fs fi₀ fi ms₀ ms mi₀ mi) (same_run a ce) l) (wc.kept ∙ ec) (saved ec wc) (wi.kept ∙ ei) (saved ei wi) q
