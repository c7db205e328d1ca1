-- What the mean track's functions read off the lent parts, what they need of them, and what they promise.
use Rattle.std.specs.Prelude.{◌≡◌, ℕ, ◌+◌, ◌*◌, ◌≤◌, ◌<◌, List, map, length, take, drop, Float}
use Rattle.definition.specs.Run.{join, pairs, chunks}
use Rattle.definition.specs.Inputs.{frame_from}
use Rattle.definition.specs.Cov.{Decision}
use Rattle.definition.specs.Dense.{axpy, over}
use Rattle.definition.specs.Mean.{Mean, MeanPeriod, Shift, innovation, hear, mean_run}
use Rattle.definition.specs.Parts.{predMean, filtMean, innovations, mean_block}
use Rattle.definition.specs.Outcome.{mean_written}
use Rattle.laws.specs.Flat.{Flat, Holds, decisions_at, decision_rows}
use Rattle.laws.specs.Passes.{Laid}
use Rattle.dense.specs.Views.{vec}
use Rattle.model.specs.Lists.{PartFits}
use Rattle.carried.specs.State.{mean_kept}
use Rattle.promise.specs.declared.Model.{Model}
use Rattle.promise.specs.declared.Offsets.{Offsets}
use Rattle.promise.specs.declared.Record.{Record}
use Rattle.promise.specs.Records.{record_of}
use Rattle.promise.specs.declared.Answer.{Answer}
use Rattle.mean.specs.declared.Mean as declared
use Rattle.mean.specs.declared.Shift as offsets

-- ---- what the arrays and the flat parts stand for

-- the state of the means, of m states: the places in use of its array
abbrev pub mean_in : ℕ → List Float → Float → Mean
mean_in m a l = record { a = vec m a; loglik = l }

abbrev pub mean_of : ℕ → declared.Mean → Mean
mean_of m s = mean_in m s.a s.loglik

-- the offsets, the states' intercept by the places in use of its array
abbrev pub shift_of : ℕ → offsets.Shift → Shift
shift_of m s = record { c = vec m s.c; d = s.d.now }

-- what a period hears: its decisions and its readings, the same element by element, and what n periods hear
unfoldable pub entry_at : ℕ → ℕ → Flat → List Float → ℕ → List Decision × List Float
entry_at p m r y t = (decisions_at p m r t, take p (drop (t * p) y))

abbrev pub heard_at : ℕ → ℕ → Flat → List Float → ℕ → List (Decision × Float)
heard_at p m r y t = pairs (entry_at p m r y t).0 (entry_at p m r y t).1

unfoldable pub entries : ℕ → ℕ → ℕ → Flat → List Float → List (List Decision × List Float)
entries n p m r y = pairs (decision_rows n p m r) (chunks n p y)

-- the run over n periods of the lent model, by what they hear, from the state s on
abbrev pub run_in : Model → Shift → Mean → Flat → List Float → List MeanPeriod × Mean
run_in x c s r y = mean_run (frame_from x.p x.m x.z.now x.zs.now x.t.now x.ts.now) c 0 s (entries x.n x.p x.m r y)

-- what a period leaves
abbrev pub left_in : List Float → List Float → List Float → MeanPeriod
left_in pred vs filt = record { pred = pred; vs = vs; filt = filt }

-- the counts go through unchanged
abbrev pub with_loglik : Answer → Float → Answer
with_loglik a l = record { loglik = l; d_diffuse = a.d_diffuse; heard = a.heard; news = a.news; cov_off = a.cov_off; mean_off = a.mean_off }

-- ---- what has to be there

-- element i of a period, by what stands at place k: its row and intercept, its reading, its M
pub record Place (m i k : ℕ) (design d y gains : ℕ) : Type 0 where
  pub m8 : m ≤ 8
  pub row : i * m + m ≤ design
  pub intercept : i < d
  pub reading : k < y
  pub gain : k * m + m ≤ gains

pub record Element (m i k : ℕ) (design d y : ℕ) (r : Flat) : Type 0 where
  pub kind : k < length r.kinds
  pub fs : k < length r.f_stars
  pub fi : k < length r.f_infs
  pub usual : Place m i k design d y (length r.m_stars)
  pub diffuse : Place m i k design d y (length r.m_infs)

-- the elements of period t: p rows and intercepts, the readings and records of its block, and p places for v
pub record Period (p m t : ℕ) (design d y v : ℕ) (r : Flat) : Type 0 where
  pub p8 : p ≤ 8
  pub m8 : m ≤ 8
  pub rows : p * m ≤ design
  pub intercepts : p ≤ d
  pub readings : t * p + p ≤ y
  pub vs : v ≡ p
  pub holds : Holds m (t * p + p) r

-- all n periods: the design, the transition, p intercepts, the readings and the records
pub record Periods (p m n : ℕ) (z zs t ts d y : ℕ) (r : Flat) : Type 0 where
  pub n4096 : n ≤ 4096
  pub design : PartFits p m z zs
  pub transition : PartFits m m t ts
  pub intercepts : p ≤ d
  pub readings : n * p ≤ y
  pub holds : Holds m (n * p) r

abbrev pub PeriodsFor : Model → ℕ → ℕ → Flat → Type 0
PeriodsFor x d y r = Periods x.p x.m x.n (length x.z.now) (length x.zs.now) (length x.t.now) (length x.ts.now) d y r

-- the blocks that they leave
pub record Room (p m n : ℕ) (pm' fm' v' : ℕ) : Type 0 where
  pub pm : n * m ≤ pm'
  pub fm : n * m ≤ fm'
  pub vs : n * p ≤ v'

-- what a call that is past refusals 1 and 2 has for the pass: the lengths of Z, the listed Z, T, the listed T, c, d, a1 and y, and the
-- records
pub record Ready (p m n : ℕ) (z zs t ts c d a1 y : ℕ) (r : Flat) : Type 0 where
  pub n4096 : n ≤ 4096
  pub design : PartFits p m z zs
  pub transition : PartFits m m t ts
  pub shift : c ≡ m
  pub intercepts : d ≡ p
  pub start : a1 ≡ m
  pub readings : y ≡ n * p
  pub ks : n * p ≤ length r.kinds
  pub fs : n * p ≤ length r.f_stars
  pub fi : n * p ≤ length r.f_infs
  pub ms : n * (p * m) ≤ length r.m_stars
  pub mi : n * (p * m) ≤ length r.m_infs

abbrev pub ReadyFor : Model → Offsets → ℕ → Flat → Type 0
ReadyFor x o y r = Ready x.p x.m x.n (length x.z.now) (length x.zs.now) (length x.t.now) (length x.ts.now) (length o.c.now) (length o.d.now) (length o.a1.now) y r

-- and the outputs: one more block of the predicted means
pub record Rooms (p m n : ℕ) (pm' fm' v' : ℕ) : Type 0 where
  pub pm : n * m + m ≤ pm'
  pub fm : n * m ≤ fm'
  pub vs : n * p ≤ v'

-- ---- promises

-- one element that is not skipped: v by its row z of the design and its intercept d, and the mean moved by v times M / F
pub record Followed (m : ℕ) (z : List Float) (d reading : Float) (gain : List Float) (f : Float) (a a' : List Float) (v : Float) : Type 0 where
  pub is : v ≡ innovation m z d (vec m a) reading
  pub moved : vec m a' ≡ axpy m (vec m a) v (over m gain f)

-- element i, by what was decided of it: its record, with the v that is heard, and the state after it
pub record Recorded (m : ℕ) (design ds : List Float) (i : ℕ) (s : Mean) (d : Decision) (reading : Float) (r : Record) (s' : Mean) : Type 0 where
  pub is : r ≡ record_of d (hear m design ds i s (d, reading)).0
  pub after : s' ≡ (hear m design ds i s (d, reading)).1

-- what the loop leaves, over the run r: the state, and the periods' blocks laid over the parts
pub record Looped (p m n : ℕ) (r : List MeanPeriod × Mean) (s : Mean) (pm₀ pm' fm₀ fm' v₀ v' : List Float) : Type 0 where
  pub state : s ≡ r.1
  pub pm : Laid (n * m) (join (map (mean_block predMean) r.0)) pm₀ pm'
  pub fm : Laid (n * m) (join (map (mean_block filtMean) r.0)) fm₀ fm'
  pub vs : Laid (n * p) (join (map (mean_block innovations) r.0)) v₀ v'

-- what the pass leaves: the answer with the log-likelihood, the carried state, and each part as the definition writes it, its tail as it was
pub record Passed (p m n : ℕ) (r : List MeanPeriod × Mean) (x x' : Answer) (s s' pm₀ pm' fm₀ fm' v₀ v' : List Float) : Type 0 where
  pub answer : x' ≡ with_loglik x r.1.loglik
  pub state : s' ≡ mean_kept m s r.1.a
  pub pm : Laid (n * m + m) (mean_written r predMean) pm₀ pm'
  pub fm : Laid (n * m) (mean_written r filtMean) fm₀ fm'
  pub vs : Laid (n * p) (mean_written r innovations) v₀ v'
