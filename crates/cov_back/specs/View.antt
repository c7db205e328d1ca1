-- What the covariances' way back reads off the lent parts, what it needs of them, and what it promises.
use Rattle.std.specs.Prelude.{◌≡◌, ℕ, ◌+◌, ◌*◌, ◌≤◌, ◌<◌, List, length, Float}
use Rattle.definition.specs.Run.{scan_back}
use Rattle.definition.specs.Inputs.{frame_from}
use Rattle.definition.specs.Smooth.{back_cov, no_ns}
use Rattle.laws.specs.Flat.{Flat, Holds, looks}
use Rattle.model.specs.Lists.{PartFits}
use Rattle.promise.specs.declared.Model.{Model}

-- ---- what has to be there

-- element i of a period, by the record at place k
pub record Element (m i k design : ℕ) (r : Flat) : Type 0 where
  pub m8 : m ≤ 8
  pub row : i * m + m ≤ design
  pub kind : k < length r.kinds
  pub fs : k < length r.f_stars
  pub fi : k < length r.f_infs
  pub ms : k * m + m ≤ length r.m_stars
  pub mi : k * m + m ≤ length r.m_infs

-- the elements of period t: p rows, and the records of its block
pub record Period (p m t design : ℕ) (r : Flat) : Type 0 where
  pub p8 : p ≤ 8
  pub m8 : m ≤ 8
  pub t4096 : t < 4096
  pub rows : p * m ≤ design
  pub holds : Holds m (t * p + p) r

-- the predicted covariances of period t, and room for its smoothed one
pub record Blocks (m t pc pi out : ℕ) : Type 0 where
  pub m8 : m ≤ 8
  pub t4096 : t < 4096
  pub pred : t * (m * m) + m * m ≤ pc
  pub inf : t * (m * m) + m * m ≤ pi
  pub own : out ≡ m * m

-- what a call that is past refusals 1 and 2 has for the pass: the lengths of Z, the listed Z, T, the listed T and the predicted covariances, and the records
pub record Ready (p m n z zs t ts pc pi : ℕ) (r : Flat) : Type 0 where
  pub n4096 : n ≤ 4096
  pub design : PartFits p m z zs
  pub transition : PartFits m m t ts
  pub pred : n * (m * m) ≤ pc
  pub inf : n * (m * m) ≤ pi
  pub ks : n * p ≤ length r.kinds
  pub fs : n * p ≤ length r.f_stars
  pub fi : n * p ≤ length r.f_infs
  pub ms : n * (p * m) ≤ length r.m_stars
  pub mi : n * (p * m) ≤ length r.m_infs

-- the same of the lent model
abbrev pub ReadyFor : Model → ℕ → ℕ → Flat → Type 0
ReadyFor x pc pi r = Ready x.p x.m x.n (length x.z.now) (length x.zs.now) (length x.t.now) (length x.ts.now) pc pi r

-- ---- the smoothed covariances of n periods, by the predicted ones and the records

abbrev pub smoothed_covs : Model → ℕ → List Float → List Float → Flat → List (List Float)
smoothed_covs x dd pc pi r = (scan_back (back_cov (frame_from x.p x.m x.z.now x.zs.now x.t.now x.ts.now)) 0 (no_ns x.m) (looks x.n x.p x.m dd pc pi r)).0
