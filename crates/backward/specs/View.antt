-- What the two passes back have to have, and what they leave.
use Rattle.std.specs.Prelude.{ℕ, ◌*◌, ◌≤◌, List, length, Float}
use Rattle.definition.specs.Run.{scan_back, join}
use Rattle.definition.specs.Inputs.{frame_from}
use Rattle.definition.specs.Smooth.{back_cov, back_mean, no_ns, no_rs}
use Rattle.laws.specs.Flat.{Flat, looks}
use Rattle.laws.specs.Passes.{Laid}
use Rattle.promise.specs.declared.Model.{Model}
use Rattle.mean_back.specs.declared.Predicted.{Predicted}
use Rattle.cov_back.specs.View as cov-back
use Rattle.mean_back.specs.View as mean-back

-- the lengths of Z, the listed Z, T, the listed T, the predicted means, P, P∞ and v, the records, and the lengths of the smoothed means and covariances
pub record ReadyBack (p m n : ℕ) (z zs t ts pm pc pi v : ℕ) (r : Flat) (sm sc : ℕ) : Type 0 where
  pub covs : cov-back.Ready p m n z zs t ts pc pi r
  pub means : mean-back.Periods p m n z zs t ts pm pc pi v r sm
  pub cov_room : n * (m * m) ≤ sc

pub record Back (p m n dd : ℕ) (z zs t ts pm pc pi v : List Float) (r : Flat) (sm₀ sm sc₀ sc : List Float) : Type 0 where
  pub mean : Laid (n * m) (join (scan_back (back_mean (frame_from p m z zs t ts)) 0 (no_rs m) (mean-back.looked n p m dd pm pc pi v r)).0) sm₀ sm
  pub cov : Laid (n * (m * m)) (join (scan_back (back_cov (frame_from p m z zs t ts)) 0 (no_ns m) (looks n p m dd pc pi r)).0) sc₀ sc

-- the same of the lent model and the predicted moments
abbrev pub ReadyFor : Model → Predicted → ℕ → Flat → ℕ → ℕ → Type 0
ReadyFor x q v r sm sc = ReadyBack x.p x.m x.n (length x.z.now) (length x.zs.now) (length x.t.now) (length x.ts.now) (length q.mean.now) (length q.cov.now) (length q.inf.now) v r sm sc

abbrev pub BackOf : Model → ℕ → Predicted → List Float → Flat → List Float → List Float → List Float → List Float → Type 0
BackOf x dd q v r sm₀ sm sc₀ sc = Back x.p x.m x.n dd x.z.now x.zs.now x.t.now x.ts.now q.mean.now q.cov.now q.inf.now v r sm₀ sm sc₀ sc
