-- A call as the oracle's small cases have it (oracle/FORMAT.md), and the rows that hold the definition to it: the filter's call and the smoother's.
-- `StretchCall` has a stretch's call over the same.
-- Doubles are their bits. Every lent output is filled with a pattern first, so that what a call leaves alone shows.
use Rattle.std.specs.Prelude.{ℕ, zero, suc, ◌-◌, List, [], ◌∷◌, ◌++◌, map, Bool, false, not, ◌||◌, cond, eqb, length, replicate, Float}
use Rattle.std.specs.Float.{binary64}
use Rattle.std.specs.Float.Ieee.{of_bits, to_bits}
use Rattle.definition.specs.Inputs.{Model, Offsets}
use Rattle.definition.specs.Parts.{CovPart, predCov, pred_inf, filtCov, fStar, fInf, mStar, mInf, MeanPart, predMean, filtMean, innovations}
use Rattle.definition.specs.Outcome.{CovParts, MeanParts, CovOutcome, MeanOutcome, outcome, smooth_outcome}
use Rattle.definition.specs.Computed.{bits}

-- an output: how long it is lent, and what the call writes from its start
pub record Lent : Type 0 where
  pub long : ℕ
  pub written : List ℕ

-- what every call has: the inputs, and eleven outputs. A marker is yes where it is not 0
pub record Call : Type 0 where
  pub p : ℕ
  pub m : ℕ
  pub r : ℕ
  pub n : ℕ
  pub z : List ℕ
  pub zs : List ℕ
  pub repeats : ℕ
  pub h : List ℕ
  pub t : List ℕ
  pub ts : List ℕ
  pub rr : List ℕ
  pub q : List ℕ
  pub c : List ℕ
  pub d : List ℕ
  pub a1 : List ℕ
  pub p_star : List ℕ
  pub flags : List ℕ
  pub y : List ℕ
  pub pred_mean : Lent
  pub pred_cov : Lent
  pub pred_inf : Lent
  pub filt_mean : Lent
  pub filt_cov : Lent
  pub kinds : Lent
  pub v : Lent
  pub f_star : Lent
  pub f_inf : Lent
  pub m_star : Lent
  pub m_inf : Lent

-- a case, through both calls. An answer is a refusal's number alone, or 0 with log-likelihood, d_diffuse, heard, news and the two reports
pub record Case : Type 0 where
  pub call : Call
  pub filter : List ℕ
  pub smooth : List ℕ
  pub sm_mean : Lent
  pub sm_cov : Lent

-- ---- the definition's call

abbrev pub doubles : List ℕ → List Float
doubles a = map (of_bits binary64) a

abbrev pub model_of : Call → Model
model_of k =
    record {
      p = k.p;
      m = k.m;
      r = k.r;
      n = k.n;
      z_once = doubles k.z;
      z_list = doubles k.zs;
      repeats = not (eqb k.repeats 0);
      h = doubles k.h;
      t_once = doubles k.t;
      t_list = doubles k.ts;
      rr = doubles k.rr;
      q = doubles k.q;
      flags = k.flags;
      p_star = doubles k.p_star;
    }

abbrev pub offsets_of : Call → Offsets
offsets_of k = record { c = doubles k.c; d = doubles k.d; a1 = doubles k.a1 }

-- the parts by their names
abbrev cov : Call → CovPart → Lent
cov k predCov = k.pred_cov
cov k pred_inf = k.pred_inf
cov k filtCov = k.filt_cov
cov k fStar = k.f_star
cov k fInf = k.f_inf
cov k mStar = k.m_star
cov k mInf = k.m_inf

abbrev mean : Call → MeanPart → Lent
mean k predMean = k.pred_mean
mean k filtMean = k.filt_mean
mean k innovations = k.v

-- the pattern: of doubles, and of kinds
abbrev fill : ℕ
fill = 0xa5a5a5a5a5a5a5a5

abbrev pub kind_fill : ℕ
kind_fill = 0xa5

abbrev filled : Lent → List Float
filled l = replicate l.long (of_bits binary64 fill)

abbrev pub cov_parts : Call → CovParts
cov_parts k = record { kinds = replicate k.kinds.long kind_fill; part = λ q. filled (cov k q) }

abbrev pub mean_parts : Call → MeanParts
mean_parts k = λ q. filled (mean k q)

-- ---- what it gives, and what the oracle says

abbrev answer_by : ℕ → CovOutcome → MeanOutcome → List ℕ
answer_by zero c s = 0 ∷ to_bits binary64 s.loglik ∷ c.counts.d_diffuse ∷ c.counts.heard ∷ c.counts.news ∷ c.cov_off ∷ s.mean_off ∷ []
answer_by (suc k) c s = suc k ∷ []

abbrev pub answer_of : CovOutcome → MeanOutcome → List ℕ
answer_of c s = answer_by c.refused c s

-- a call that is refused writes nothing, but for refusal 12
abbrev pub writes : List ℕ → Bool
writes [] = false
writes (k ∷ ks) = eqb k 0 || eqb k 12

abbrev pub left : Bool → ℕ → Lent → List ℕ
left wrote pattern l = let w = cond wrote l.written [] in w ++ replicate (l.long - length w) pattern

-- the row of a call: its answer, then each output as it is afterwards
abbrev pub cov_rows : Bool → Call → CovOutcome → List (List ℕ × List ℕ)
cov_rows wrote k c =
    (c.parts.kinds, left wrote kind_fill k.kinds)
    ∷ map (λ q. (bits (c.parts.part q), left wrote fill (cov k q))) (predCov ∷ pred_inf ∷ filtCov ∷ fStar ∷ fInf ∷ mStar ∷ mInf ∷ [])

abbrev pub mean_rows : Bool → Call → MeanOutcome → List (List ℕ × List ℕ)
mean_rows wrote k s = map (λ q. (bits (s.parts q), left wrote fill (mean k q))) (predMean ∷ filtMean ∷ innovations ∷ [])

abbrev filter_rows : Case → List (List ℕ × List ℕ)
filter_rows e =
    let k = e.call in
    let o = outcome (model_of k) (offsets_of k) (doubles k.y) (cov_parts k) (mean_parts k) in
    let wrote = writes e.filter in
    (answer_of o.0 o.1, e.filter) ∷ cov_rows wrote k o.0 ++ mean_rows wrote k o.1

abbrev smooth_rows : Case → List (List ℕ × List ℕ)
smooth_rows e =
    let k = e.call in
    let o = smooth_outcome (model_of k) (offsets_of k) (doubles k.y) (cov_parts k) (mean_parts k) (filled e.sm_mean) (filled e.sm_cov) in
    let wrote = writes e.smooth in
    (answer_of o.0.filter o.1.filter, e.smooth)
    ∷ (bits o.0.smoothed, left wrote fill e.sm_cov)
    ∷ (bits o.1.smoothed, left wrote fill e.sm_mean)
    ∷ cov_rows wrote k o.0.filter ++ mean_rows wrote k o.1.filter

abbrev pub agreed : List Case → List (List ℕ × List ℕ)
agreed [] = []
agreed (e ∷ es) = filter_rows e ++ (smooth_rows e ++ agreed es)
