-- What the way back through the means reads off the lent parts, and what it needs of them.
use Rattle.std.specs.Prelude.{◌≡◌, ℕ, ◌+◌, ◌*◌, ◌≤◌, ◌<◌, List, length, Float}
use Rattle.definition.specs.Run.{pairs, scan_back}
use Rattle.definition.specs.Cov.{CovPeriod}
use Rattle.definition.specs.Mean.{MeanPeriod}
use Rattle.laws.specs.Flat.{Flat, Holds, look_at, looks, mean_look_at, mean_looks}
use Rattle.model.specs.Lists.{PartFits}
use Rattle.dense.specs.Views.{vec}
use Rattle.definition.specs.Inputs.{frame_from}
use Rattle.definition.specs.Smooth.{Rs, back_mean, no_rs}
use Rattle.promise.specs.declared.Model.{Model}
use Rattle.mean_back.specs.declared.Predicted.{Predicted}
use Rattle.mean_back.specs.declared.Rs as declared

-- r0 and r1 of m states: the places in use of the code's arrays
abbrev pub rs_of : ℕ → declared.Rs → Rs
rs_of m s = record { r0 = vec m s.r0; r1 = vec m s.r1 }

-- ---- what a period looks at, and what n periods look at: the parts of the predicted means, of P, of P∞ and of v, and the records

abbrev pub looked_at : ℕ → ℕ → ℕ → List Float → List Float → List Float → List Float → Flat → ℕ → CovPeriod × MeanPeriod
looked_at p m dd pm pc pi vs r t = (look_at p m dd pc pi r t, mean_look_at p m pm vs t)

abbrev pub looked : ℕ → ℕ → ℕ → ℕ → List Float → List Float → List Float → List Float → Flat → List (CovPeriod × MeanPeriod)
looked n p m dd pm pc pi vs r = pairs (looks n p m dd pc pi r) (mean_looks n p m pm vs)

-- ---- what has to be there

-- row i of a matrix of m by m
pub record Square (m i a : ℕ) : Type 0 where
  pub m8 : m ≤ 8
  pub row : i < m
  pub whole : a ≡ m * m

-- element i of a period, by its v and the record at place k
pub record Element (m i k : ℕ) (design v : ℕ) (r : Flat) : Type 0 where
  pub m8 : m ≤ 8
  pub row : i * m + m ≤ design
  pub news : k < v
  pub kind : k < length r.kinds
  pub fs : k < length r.f_stars
  pub fi : k < length r.f_infs
  pub ms : k * m + m ≤ length r.m_stars
  pub mi : k * m + m ≤ length r.m_infs

-- the elements of period t: p rows, and the v and the records of its block
pub record Period (p m t : ℕ) (design v : ℕ) (r : Flat) : Type 0 where
  pub p8 : p ≤ 8
  pub m8 : m ≤ 8
  pub rows : p * m ≤ design
  pub news : t * p + p ≤ v
  pub holds : Holds m (t * p + p) r

-- a period's smoothed mean: the block for it, the predicted mean, P and P∞
pub record Smoothed (m o a c c∞ : ℕ) : Type 0 where
  pub m8 : m ≤ 8
  pub out : o ≡ m
  pub pred : a ≡ m
  pub cov : c ≡ m * m
  pub inf : c∞ ≡ m * m

-- the predicted moments of period t
pub record Block (m t : ℕ) (pm pc pi : ℕ) : Type 0 where
  pub m8 : m ≤ 8
  pub t4096 : t < 4096
  pub means : t * m + m ≤ pm
  pub covs : t * (m * m) + m * m ≤ pc
  pub infs : t * (m * m) + m * m ≤ pi

-- all n periods: the design, the transition, the predicted moments, v and the records; and room for their smoothed means
pub record Periods (p m n : ℕ) (z zs t ts pm pc pi v : ℕ) (r : Flat) (sm : ℕ) : Type 0 where
  pub n4096 : n ≤ 4096
  pub design : PartFits p m z zs
  pub transition : PartFits m m t ts
  pub means : n * m ≤ pm
  pub covs : n * (m * m) ≤ pc
  pub infs : n * (m * m) ≤ pi
  pub news : n * p ≤ v
  pub holds : Holds m (n * p) r
  pub room : n * m ≤ sm

-- the same of the lent model and the predicted moments
abbrev pub PeriodsFor : Model → Predicted → ℕ → Flat → ℕ → Type 0
PeriodsFor x q v r sm = Periods x.p x.m x.n (length x.z.now) (length x.zs.now) (length x.t.now) (length x.ts.now) (length q.mean.now) (length q.cov.now) (length q.inf.now) v r sm

abbrev pub BlockFor : ℕ → ℕ → Predicted → Type 0
BlockFor m t q = Block m t (length q.mean.now) (length q.cov.now) (length q.inf.now)

-- ---- the smoothed means of n periods, by the predicted moments, v and the records

abbrev pub smoothed_means : Model → ℕ → Predicted → List Float → Flat → List (List Float)
smoothed_means x dd q vs r = (scan_back (back_mean (frame_from x.p x.m x.z.now x.zs.now x.t.now x.ts.now)) 0 (no_rs x.m) (looked x.n x.p x.m dd q.mean.now q.cov.now q.inf.now vs r)).0
