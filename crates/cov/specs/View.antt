-- What the covariance pass's functions need of the lent parts, and what they promise.
use Rattle.std.specs.Prelude.{◌≡◌, ℕ, ◌+◌, ◌*◌, ◌≤◌, Bool, List, [], map, length, Float}
use Rattle.definition.specs.Dense.{symmetrise}
use Rattle.definition.specs.Run.{scan, join, count}
use Rattle.definition.specs.Cov.{Cov, CovPeriod, Decision, Inner, element_of, stepped}
use Rattle.definition.specs.Parts.{predCov, pred_inf, filtCov, fStar, fInf, mStar, mInf, cov_block, kind_block, kind_no, m_star_of, m_inf_of}
use Rattle.definition.specs.Parts as parts
use Rattle.definition.specs.Outcome.{cov_written, kinds_written}
use Rattle.laws.specs.Passes.{Laid}
use Rattle.dense.specs.Views.{mat}
use Rattle.model.specs.Lists.{PartFits}
use Rattle.model.specs.Places.{StartFits}
use Rattle.promise.specs.declared.Model.{Model}
use Rattle.track.specs.declared.State.{State}
use Rattle.track.specs.View.{cov_in}
use Rattle.period.specs.Views.{Begun}
use Rattle.carried.specs.State.{cov_kept}
use Rattle.cov.specs.declared.Ended.{Ended}

-- ---- one period, in three steps

-- its design, of p rows, and its p readings
pub record OfPeriod (p m : ℕ) (design ys : ℕ) : Type 0 where
  pub p8 : p ≤ 8
  pub m8 : m ≤ 8
  pub designed : design ≡ p * m
  pub readings : ys ≡ p

-- its own part of each output: as long as its block, and no longer
pub record OfRecords (p m : ℕ) (ks fs fi ms mi : ℕ) : Type 0 where
  pub kinds : ks ≡ p
  pub stars : fs ≡ p
  pub infs : fi ≡ p
  pub m_stars : ms ≡ p * m
  pub m_infs : mi ≡ p * m

pub record Blocks (p m : ℕ) (pc pi fc ks fs fi ms mi : ℕ) : Type 0 where
  pub pred : pc ≡ m * m
  pub pred_inf : pi ≡ m * m
  pub filt : fc ≡ m * m
  pub records : OfRecords p m ks fs fi ms mi

-- the test, P∞ as it enters, and the predicted P* and P∞ stored
pub record Entered (m : ℕ) (s s' : State) (pc pi : List Float) : Type 0 where
  pub begun : Begun m s s'
  pub pred : pc ≡ mat m s'.star
  pub pred_inf : pi ≡ mat m s'.p_inf

-- the decisions, and the state after the elements
unfoldable pub absorb_of : ℕ → ℕ → List Float → List Float → Cov → List Bool → List Decision × Inner
absorb_of p m h z c gaps =
    scan (element_of p m h (record { diffuse = c.live; z = z; pre = c.star; unres = c.unres })) 0 (record { star = c.star; pinf = c.pinf; root = c.root; taken = [] }) gaps

-- those decisions stored
pub record Absorbed (m : ℕ) (want : List Decision × Inner) (s : State) (ks : List ℕ) (fs fi ms mi : List Float) : Type 0 where
  pub kinds : ks ≡ map kind_no want.0
  pub stars : fs ≡ map parts.f_star_of want.0
  pub infs : fi ≡ map parts.f_inf_of want.0
  pub m_stars : ms ≡ join (map (m_star_of m) want.0)
  pub m_infs : mi ≡ join (map (m_inf_of m) want.0)
  pub star : mat m s.star ≡ want.1.star
  pub pinf : mat m s.p_inf ≡ want.1.pinf
  pub root : mat m s.root ≡ want.1.root

-- the filtered P* stored, and the state gone on by T
pub record Left (m : ℕ) (tr rqr : List Float) (c c' : Cov) (fc : List Float) : Type 0 where
  pub filt : fc ≡ symmetrise m c.star
  pub state : c' ≡ stepped m tr rqr c.live (symmetrise m c.star) (symmetrise m c.pinf) c.root c.unres

-- what the whole period leaves, over the definition's period q: the state, and in each part the block that q has for it
pub record Held (m : ℕ) (q : CovPeriod × Cov) (s : Cov) (pc pi fc : List Float) (ks : List ℕ) (fs fi ms mi : List Float) : Type 0 where
  pub state : s ≡ q.1
  pub diffuse : s.live ≡ q.0.diffuse
  pub pred : pc ≡ cov_block m predCov q.0
  pub pred_inf : pi ≡ cov_block m pred_inf q.0
  pub filt : fc ≡ cov_block m filtCov q.0
  pub kinds : ks ≡ kind_block q.0
  pub stars : fs ≡ cov_block m fStar q.0
  pub infs : fi ≡ cov_block m fInf q.0
  pub m_stars : ms ≡ cov_block m mStar q.0
  pub m_infs : mi ≡ cov_block m mInf q.0

-- ---- all n periods: the design, the transition and the readings, and room for the blocks

pub record Periods (p m n : ℕ) (z zs t ts y : ℕ) : Type 0 where
  pub n4096 : n ≤ 4096
  pub design : PartFits p m z zs
  pub transition : PartFits m m t ts
  pub readings : y ≡ n * p

pub record Room (p m n : ℕ) (pc pi fc ks fs fi ms mi : ℕ) : Type 0 where
  pub pred : n * (m * m) ≤ pc
  pub pred_inf : n * (m * m) ≤ pi
  pub filt : n * (m * m) ≤ fc
  pub kinds : n * p ≤ ks
  pub stars : n * p ≤ fs
  pub infs : n * p ≤ fi
  pub m_stars : n * (p * m) ≤ ms
  pub m_infs : n * (p * m) ≤ mi

-- what the loop leaves, over the run r: the state, the count of diffuse periods, and the periods' blocks laid over the parts
pub record LoopedTo (p m n : ℕ) (r : List CovPeriod × Cov) (s : State) (d : ℕ) (pc₀ pc pi₀ pi fc₀ fc : List Float) (ks₀ ks : List ℕ) (fs₀ fs fi₀ fi ms₀ ms mi₀ mi : List Float) : Type 0 where
  pub state : cov_in m s ≡ r.1
  pub diffuse : d ≡ count (λ c. c.diffuse) r.0
  pub pred : Laid (n * (m * m)) (join (map (cov_block m predCov) r.0)) pc₀ pc
  pub pred_inf : Laid (n * (m * m)) (join (map (cov_block m pred_inf) r.0)) pi₀ pi
  pub filt : Laid (n * (m * m)) (join (map (cov_block m filtCov) r.0)) fc₀ fc
  pub kinds : Laid (n * p) (join (map kind_block r.0)) ks₀ ks
  pub stars : Laid (n * p) (join (map (cov_block m fStar) r.0)) fs₀ fs
  pub infs : Laid (n * p) (join (map (cov_block m fInf) r.0)) fi₀ fi
  pub m_stars : Laid (n * (p * m)) (join (map (cov_block m mStar) r.0)) ms₀ ms
  pub m_infs : Laid (n * (p * m)) (join (map (cov_block m mInf) r.0)) mi₀ mi

-- ---- the pass

-- what a call that is past refusals 1 and 2 has for it: the lengths of Z, the listed Z, H, T, the listed T, P*, the flags and y
pub record Ready (p m n : ℕ) (z zs h t ts p* flags y : ℕ) : Type 0 where
  pub n4096 : n ≤ 4096
  pub design : PartFits p m z zs
  pub noise : h ≡ p * p
  pub transition : PartFits m m t ts
  pub start : StartFits m p* flags
  pub readings : y ≡ n * p

abbrev pub ReadyFor : Model → ℕ → Type 0
ReadyFor x y = Ready x.p x.m x.n (length x.z.now) (length x.zs.now) (length x.h.now) (length x.t.now) (length x.ts.now) (length x.p_star.now) (length x.flags.now) y

-- and the outputs: one more block of the predicted moments
pub record Rooms (p m n : ℕ) (pc pi fc ks fs fi ms mi : ℕ) : Type 0 where
  pub pred : n * (m * m) + m * m ≤ pc
  pub pred_inf : n * (m * m) + m * m ≤ pi
  pub filt : n * (m * m) ≤ fc
  pub kinds : n * p ≤ ks
  pub stars : n * p ≤ fs
  pub infs : n * p ≤ fi
  pub m_stars : n * (p * m) ≤ ms
  pub m_infs : n * (p * m) ≤ mi

-- what it leaves: whether the diffuse state lasts, the count of diffuse periods, the carried state, and each part as the definition writes it, its tail as
-- it was
pub record Passed (p m n : ℕ) (r : List CovPeriod × Cov) (e : Ended) (s s' pc₀ pc pi₀ pi fc₀ fc : List Float) (ks₀ ks : List ℕ) (fs₀ fs fi₀ fi ms₀ ms mi₀ mi : List Float) : Type 0 where
  pub live : e.live ≡ r.1.live
  pub diffuse : e.diffuse ≡ count (λ c. c.diffuse) r.0
  pub state : s' ≡ cov_kept m s r.1
  pub pred : Laid (n * (m * m) + m * m) (cov_written m r predCov) pc₀ pc
  pub pred_inf : Laid (n * (m * m) + m * m) (cov_written m r pred_inf) pi₀ pi
  pub filt : Laid (n * (m * m)) (cov_written m r filtCov) fc₀ fc
  pub kinds : Laid (n * p) (kinds_written r) ks₀ ks
  pub stars : Laid (n * p) (cov_written m r fStar) fs₀ fs
  pub infs : Laid (n * p) (cov_written m r fInf) fi₀ fi
  pub m_stars : Laid (n * (p * m)) (cov_written m r mStar) ms₀ ms
  pub m_infs : Laid (n * (p * m)) (cov_written m r mInf) mi₀ mi
