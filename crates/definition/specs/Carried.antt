-- A run in stretches: what is carried from one period to the next, and how a stretch of x.n periods takes it on. What the covariances and the counts
-- go by is apart from the mean, as everywhere.
use Rattle.std.specs.Prelude.{ℕ, ◌+◌, List, map, Float}
use Rattle.definition.specs.Num.{0ᶠ}
use Rattle.definition.specs.Run.{chunks, pairs}
use Rattle.definition.specs.Cov.{Cov, CovPeriod, cov_run}
use Rattle.definition.specs.Mean.{Mean, MeanPeriod, mean_run}
use Rattle.definition.specs.Inputs.{Model, Offsets, Class, class_of, system_of, frame_of, start_of, gap_rows}
use Rattle.definition.specs.Reports.{cov_report, mean_report, told_before}
use Rattle.definition.specs.Outcome.{Counts, counts_of, decisions_of}

-- how many periods are done, the covariances that they left; the counts and the covariance report since the run began
pub record Past : Type 0 where
  pub done : ℕ
  pub cov : Cov
  pub counts : Counts
  pub cov_off : ℕ

-- and the mean, with the log-likelihood and the mean report since the run began
pub record Carried : Type 0 where
  pub past : Past
  pub mean : Mean
  pub mean_off : ℕ

-- ---- a run begins

unfoldable pub begun_past : Model → Past
begun_past x = record { done = 0; cov = start_of x; counts = record { d_diffuse = 0; heard = 0; news = 0 }; cov_off = 0 }

unfoldable pub begun_mean : Offsets → Mean
begun_mean o = record { a = o.a1; loglik = 0ᶠ }

-- ---- a stretch goes on from there: its periods are numbered from the run's first, and so are the entries of the list of designs

unfoldable pub cov_from : Model → Past → List Class → List CovPeriod × Cov
cov_from x s ks = cov_run (system_of x) s.done s.cov (gap_rows x.n x.p ks)

unfoldable pub mean_from : Model → Offsets → ℕ → Mean → List CovPeriod → List Float → List MeanPeriod × Mean
mean_from x o done s cs y =
    mean_run (frame_of x) (record { c = o.c; d = o.d }) done s (pairs (decisions_of cs) (chunks x.n x.p y))

unfoldable pub plus : Counts → Counts → Counts
plus l k = record { d_diffuse = l.d_diffuse + k.d_diffuse; heard = l.heard + k.heard; news = l.news + k.news }

unfoldable pub past_on : Model → Past → List Class → Past
past_on x s ks =
    let r = cov_from x s ks in
    record {
      done = s.done + x.n;
      cov = r.1;
      counts = plus s.counts (counts_of r.0 ks);
      cov_off = told_before s.cov_off (cov_report s.done r.0);
    }

unfoldable pub mean_on : Model → Offsets → Carried → List Float → List MeanPeriod × Mean
mean_on x o s y = mean_from x o s.past.done s.mean (cov_from x s.past (map class_of y)).0 y

unfoldable pub mean_off_on : Model → Offsets → Carried → List Float → ℕ
mean_off_on x o s y = told_before s.mean_off (mean_report s.past.done (mean_on x o s y).0)

unfoldable pub went : Model → Offsets → Carried → List Float → Carried
went x o s y = record { past = past_on x s.past (map class_of y); mean = (mean_on x o s y).1; mean_off = mean_off_on x o s y }
