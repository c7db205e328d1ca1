-- What an exported call promises: the call's own promise, and how its outcome is told: 0 and the answer's six numbers, or the refusal's number
-- and the six as they were.
use Rattle.std.specs.Prelude.{◌≡◌, ℕ, Bool, not, eqb, Float, Ok, Err}
use Rattle.promise.specs.Lent.{Given, Lent, LentSmooth, GivenStretch, LentStretch}
use Rattle.promise.specs.Calls.{Outcome, refusal_of, Filtered, Smoothed, Stretched}

-- the places for the answer: log-likelihood, d_diffuse, heard, news, cov_off, mean_off
pub record Places : Type 0 where
  pub loglik : Float
  pub diffuse : ℕ
  pub heard : ℕ
  pub news : ℕ
  pub cov_off : ℕ
  pub mean_off : ℕ

abbrev pub places : Float → ℕ → ℕ → ℕ → ℕ → ℕ → Places
places l d h w c m = record { loglik = l; diffuse = d; heard = h; news = w; cov_off = c; mean_off = m }

-- the places afterwards
abbrev pub places_of : Outcome → Places → Places
places_of (Err e) old = old
places_of (Ok a) old = places a.loglik a.d_diffuse a.heard a.news a.cov_off a.mean_off

pub record Told (o : Outcome) (k : ℕ) (old new : Places) : Type 0 where
  pub number : k ≡ refusal_of o
  pub answer : new ≡ places_of o old

-- a marker: any number but 0 is yes
abbrev pub is_yes : ℕ → Bool
is_yes b = not (eqb b 0)

-- ---- the exported calls' promises: some outcome as the call promises it, and how that is told. x is what the call is given, w what it is lent, b what is
-- lent afterwards; old and new are the answer's places, k the number that is handed back

pub record FilteredC (x : Given) (w : Lent) (old : Places) (k : ℕ) (b : Lent) (new : Places) : Type 0 where
  pub outcome : Outcome
  pub promise : Filtered x w outcome b
  pub told : Told outcome k old new

pub record SmoothedC (x : Given) (w : LentSmooth) (old : Places) (k : ℕ) (b : LentSmooth) (new : Places) : Type 0 where
  pub outcome : Outcome
  pub promise : Smoothed x w outcome b
  pub told : Told outcome k old new

pub record StretchedC (x : GivenStretch) (w : LentStretch) (old : Places) (k : ℕ) (b : LentStretch) (new : Places) : Type 0 where
  pub outcome : Outcome
  pub promise : Stretched x w outcome b
  pub told : Told outcome k old new
