-- What the two passes have to have, and what they leave.
use Rattle.std.specs.Prelude.{◌≡◌, ℕ, ◌+◌, ◌*◌, ◌≤◌, Bool, List, map, Float}
use Rattle.std.proofs.Common.{arith}
use Rattle.definition.specs.Run.{pairs, chunks}
use Rattle.definition.specs.Cov.{Cov, CovPeriod, cov_run}
use Rattle.definition.specs.Mean.{Mean, MeanPeriod, mean_run}
use Rattle.definition.specs.Parts.{CovPart, MeanPart}
use Rattle.definition.specs.Inputs.{Model, Offsets, Class, class_of, gap_rows, noise, system_of, frame_of}
use Rattle.definition.specs.Reports.{cov_report, mean_report, told_before}
use Rattle.definition.specs.Outcome.{CovParts, MeanParts, Counts, kinds_need, cov_need, mean_need, kinds_written, cov_written, mean_written, decisions_of, counts_of, roomy}
use Rattle.laws.specs.Passes.{Laid}
use Rattle.laws.specs.Accepted.{Accepted, InRange, InputsFit, Roomy, room_of}
use Rattle.carried.specs.State.{StateFits, cov_from, cov_kept, mean_from, mean_kept}
use Rattle.dense.specs.Views.{mat}
use Rattle.promise.specs.declared.Answer.{Answer}
use Rattle.forward.specs.declared.End.{End}

-- ---- what a call past the refusals before the run has

pub record Fit (x : Model) (o : Offsets) (y : ℕ) (w : CovParts) (w' : MeanParts) : Type 0 where
  pub accepted : Accepted x o y (roomy x w w')

-- ---- the run from a carried state s, and from the answer before it. An empty state: from the start

unfoldable pub cov_on : Model → List Float → Bool → List Class → List CovPeriod × Cov
cov_on x s live ks = cov_run (system_of x) 0 (cov_from x.m s live x.p_star x.flags) (gap_rows x.n x.p ks)

unfoldable pub mean_on : Model → Offsets → List Float → Float → List CovPeriod → List Float → List MeanPeriod × Mean
mean_on x o s l cs y =
    mean_run (frame_of x) (record { c = o.c; d = o.d }) 0 (record { a = mean_from x.m s o.a1; loglik = l }) (pairs (decisions_of cs) (chunks x.n x.p y))

-- the answer before it with the counts added, with what ran off of the covariances, then of the means; and with all that the run came to
abbrev pub counted_on : Answer → ℕ → ℕ → ℕ → ℕ → Answer
counted_on b d h k t =
    record {
      loglik = b.loglik;
      d_diffuse = b.d_diffuse + d;
      heard = b.heard + h;
      news = b.news + k;
      cov_off = told_before b.cov_off t;
      mean_off = b.mean_off;
    }

abbrev pub reported_on : Answer → ℕ → Answer
reported_on b t =
    record {
      loglik = b.loglik;
      d_diffuse = b.d_diffuse;
      heard = b.heard;
      news = b.news;
      cov_off = b.cov_off;
      mean_off = told_before b.mean_off t;
    }

abbrev pub onward : Answer → Counts → ℕ → Float → ℕ → Answer
onward b k t l u =
    record {
      loglik = l;
      d_diffuse = b.d_diffuse + k.d_diffuse;
      heard = b.heard + k.heard;
      news = b.news + k.news;
      cov_off = told_before b.cov_off t;
      mean_off = told_before b.mean_off u;
    }

-- ---- what it has to have; there may be no periods

-- the counts of one call at the most, so that two of them fit a usize
pub record Tallies (b : Answer) : Type 0 where
  pub diffuse : b.d_diffuse ≤ 4096
  pub heard : b.heard ≤ 65536
  pub news : b.news ≤ 65536

-- rqr: R Q R', worked out before
pub record FitOn (x : Model) (o : Offsets) (y : ℕ) (rqr : List Float) (w : CovParts) (w' : MeanParts) (size done : ℕ) (before : Answer) : Type 0 where
  pub sizes : InRange x.p x.m x.r x.n
  pub inputs : InputsFit x o
  pub readings : y ≡ x.n * x.p
  pub noise : mat x.m rqr ≡ noise x
  pub room : Roomy x w w'
  pub state : StateFits x.m size
  pub early : done ≤ 4096
  pub tallies : Tallies before

pub fit_on : {x : Model} {o : Offsets} {y : ℕ} {rqr : List Float} {w : CovParts} {w' : MeanParts} {size : ℕ} {before : Answer} → Fit x o y w w' → mat x.m rqr ≡ noise x → StateFits x.m size → Tallies before → FitOn x o y rqr w w' size 0 before
fit_on {x} {w = w} {w'} f e s t =
    record {
      sizes = f.accepted.sizes;
      inputs = f.accepted.inputs;
      readings = f.accepted.readings;
      noise = e;
      room = room_of x w w' f.accepted.roomy;
      state = s;
      early = omega arith;
      tallies = t;
    }

-- the counts that are added
pub record Few (b : Answer) (d h k : ℕ) : Type 0 where
  pub tallies : Tallies b
  pub diffuse : d ≤ 4096
  pub heard : h ≤ 65536
  pub news : k ≤ 65536

-- ---- what it leaves; w is what was lent, b what it holds afterwards

pub record Ran (x : Model) (o : Offsets) (y s : List Float) (on : Bool) (done : ℕ) (before : Answer) (e : End) (s' : List Float) (w b : CovParts) (w' b' : MeanParts) : Type 0 where
  pub answer : e.answer
      ≡ onward before (counts_of (cov_on x s on (map class_of y)).0 (map class_of y)) (cov_report done (cov_on x s on (map class_of y)).0)
      (mean_on x o s before.loglik (cov_on x s on (map class_of y)).0 y).1.loglik (mean_report done (mean_on x o s before.loglik (cov_on x s on (map class_of y)).0 y).0)
  pub live : e.live ≡ (cov_on x s on (map class_of y)).1.live
  pub state : s' ≡ mean_kept x.m (cov_kept x.m s (cov_on x s on (map class_of y)).1) (mean_on x o s before.loglik (cov_on x s on (map class_of y)).0 y).1.a
  pub kinds : Laid (kinds_need x) (kinds_written (cov_on x s on (map class_of y))) w.kinds b.kinds
  pub cov : (q : CovPart) → Laid (cov_need x q) (cov_written x.m (cov_on x s on (map class_of y)) q) (w.part q) (b.part q)
  pub mean : (q : MeanPart) → Laid (mean_need x q) (mean_written (mean_on x o s before.loglik (cov_on x s on (map class_of y)).0 y) q) (w' q) (b' q)
