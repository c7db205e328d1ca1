-- What a call is given and lent, as the definition's: `given` and `lent` take the parameters in the order in which every call has them.
use Rattle.std.specs.Prelude.{ℕ, Bool, List, Float}
use Rattle.definition.specs.Inputs.{Model, Offsets}
use Rattle.definition.specs.Parts.{CovPart, predCov, pred_inf, filtCov, fStar, fInf, mStar, mInf, predMean, filtMean, innovations}
use Rattle.definition.specs.Outcome.{CovParts, MeanParts}
use Rattle.definition.specs.Stretch.{From}
use Rattle.promise.specs.declared.Model as system
use Rattle.promise.specs.declared.Offsets as shift

-- ---- the inputs, in the order of the calls' parameters

abbrev pub model_of : ℕ → ℕ → ℕ → ℕ → List Float → List Float → Bool → List Float → List Float → List Float → List Float → List Float → List Float → List ℕ → Model
model_of p m r n z zs repeats h t ts rr q p* flags =
    record { p = p; m = m; r = r; n = n; z_once = z; z_list = zs; repeats = repeats; h = h; t_once = t; t_list = ts; rr = rr; q = q; flags = flags; p_star = p* }

-- as a call in Rattle is given them
abbrev pub model_in : system.Model → Model
model_in x = model_of x.p x.m x.r x.n x.z.now x.zs.now x.repeats x.h.now x.t.now x.ts.now x.rr.now x.q.now x.p_star.now x.flags.now

abbrev pub offsets_of : List Float → List Float → List Float → Offsets
offsets_of c d a1 = record { c = c; d = d; a1 = a1 }

abbrev pub offsets_in : shift.Offsets → Offsets
offsets_in o = offsets_of o.c.now o.d.now o.a1.now

-- ---- the outputs, in that order too: those that only the covariances reach, and those that the means reach

unfoldable pub cov_parts : List Float → List Float → List Float → List ℕ → List Float → List Float → List Float → List Float → CovParts
cov_parts pc pi fc ks fs fi ms mi = record { kinds = ks; part = by }
  where
    by : CovPart → List Float
    by predCov = pc
    by pred_inf = pi
    by filtCov = fc
    by fStar = fs
    by fInf = fi
    by mStar = ms
    by mInf = mi

unfoldable pub mean_parts : List Float → List Float → List Float → MeanParts
mean_parts pm fm vs predMean = pm
mean_parts pm fm vs filtMean = fm
mean_parts pm fm vs innovations = vs

-- ---- all of them

pub record Given : Type 0 where
  pub model : Model
  pub offsets : Offsets
  pub readings : List Float

abbrev pub given : ℕ → ℕ → ℕ → ℕ → List Float → List Float → Bool → List Float → List Float → List Float → List Float → List Float → List Float → List Float → List Float → List Float → List ℕ → List Float → Given
given p m r n z zs repeats h t ts rr q c d a1 p* flags y =
    record { model = model_of p m r n z zs repeats h t ts rr q p* flags; offsets = offsets_of c d a1; readings = y }

abbrev pub given_in : system.Model → shift.Offsets → List Float → Given
given_in x o y = record { model = model_in x; offsets = offsets_in o; readings = y }

pub record Lent : Type 0 where
  pub cov : CovParts
  pub mean : MeanParts

abbrev pub lent : List Float → List Float → List Float → List Float → List Float → List ℕ → List Float → List Float → List Float → List Float → List Float → Lent
lent pm pc pi fm fc ks v fs fi ms mi = record { cov = cov_parts pc pi fc ks fs fi ms mi; mean = mean_parts pm fm v }

-- the smoother's call is lent two parts more
pub record LentSmooth : Type 0 where
  pub filter : Lent
  pub mean : List Float
  pub cov : List Float

abbrev pub lent_smooth : List Float → List Float → List Float → List Float → List Float → List ℕ → List Float → List Float → List Float → List Float → List Float → List Float → List Float → LentSmooth
lent_smooth pm pc pi fm fc ks v fs fi ms mi sm sc = record { filter = lent pm pc pi fm fc ks v fs fi ms mi; mean = sm; cov = sc }

-- a stretch's call is given where it goes on from and whether it is the last, and is lent a part to save in
pub record GivenStretch : Type 0 where
  pub filter : Given
  pub from : From
  pub last : Bool

abbrev pub given_stretch : Given → Bool → List ℕ → Bool → GivenStretch
given_stretch x begins saved last = record { filter = x; from = record { begins = begins; saved = saved }; last = last }

pub record LentStretch : Type 0 where
  pub filter : Lent
  pub save : List ℕ

abbrev pub lent_stretch : Lent → List ℕ → LentStretch
lent_stretch w save = record { filter = w; save = save }
