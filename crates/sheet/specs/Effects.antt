-- What a right line does: the settings after it, and its readings.
use Rattle.std.specs.Prelude.{◌≡◌, ℕ, ◌+◌, Bool, true, false, cond, List, [], ◌∷◌, ◌++◌, length, take, drop, pos, Some, None, Float}
use Rattle.std.specs.Float.{nan, fin, binary64}
use Rattle.std.specs.Float.Ieee.{neg, of_int}
use Rattle.sheet.specs.declared.answers.Spread.{Spread}
use Rattle.sheet.specs.declared.answers.Spread.TheVariants.{Sd, Variance}
use Rattle.sheet.specs.declared.answers.Noise.{Noise}
use Rattle.sheet.specs.declared.answers.Noise.TheVariants.{One, Two}
use Rattle.sheet.specs.declared.answers.Start.{Start}
use Rattle.sheet.specs.declared.answers.Start.TheVariants.{Unknown, Known}
use Rattle.sheet.specs.declared.kinds.Name.{Name}
use Rattle.sheet.specs.declared.kinds.Name.TheVariants.{Period, Noise as OfNoise, Radio, WanderOffset, WanderRate, StartOffset, StartRate, RateKeeps, Season}
use Rattle.sheet.specs.declared.kinds.Word.{Word}
use Rattle.sheet.specs.declared.kinds.Word.TheVariants.{Setting, Planned, Number, Negative, Variance as AVariance}
use Rattle.sheet.specs.declared.parts.Given.{Given}
use Rattle.sheet.specs.declared.parts.Tokens.{Tokens}
use Rattle.sheet.specs.Kinds.{is_end, has_checks, size_of}

-- nothing is given yet
abbrev pub fresh : Given
fresh = record { period = None; noise = None; radio = None; wander_offset = None; wander_rate = None; offset = None; rate = None; rate_keeps = None; season = None }

-- sd A, or variance A
abbrev pub spread_by : Word → Word → Spread
spread_by AVariance b = Variance (size_of b)
spread_by _ b = Sd (size_of b)

abbrev pub start_from : Word → Spread → Start
start_from (Number n) spread = Known false n spread
start_from (Negative n) spread = Known true n spread
start_from _ spread = Unknown

abbrev pub start_by : Tokens → Start
start_by t = start_from t.second (spread_by t.third t.fourth)

-- one number, one input; two numbers, two inputs
abbrev pub noise_by : Tokens → Noise
noise_by t = cond (is_end t.fourth) (One (spread_by t.second t.third)) (Two (spread_by t.second t.third) (spread_by t.second t.fourth))

abbrev pub inputs_of : Noise → ℕ
inputs_of (One a) = 1
inputs_of (Two a b) = 2

-- ---- the settings with one of them set
abbrev pub with : Name → Given → Tokens → Given
with Period g t = record g { period = Some (size_of t.second) }
with OfNoise g t = record g { noise = Some (noise_by t) }
with Radio g t = record g { radio = Some (spread_by t.second t.third) }
with WanderOffset g t = record g { wander_offset = Some (spread_by t.second t.third) }
with WanderRate g t = record g { wander_rate = Some (spread_by t.second t.third) }
with StartOffset g t = record g { offset = Some (start_by t) }
with StartRate g t = record g { rate = Some (start_by t) }
with RateKeeps g t = record g { rate_keeps = Some (size_of t.second) }
with Season g t = record g { season = Some (record { first = size_of t.second; keeps = size_of t.third }) }

-- by a line's first word. A line that is no setting leaves them
abbrev pub settled_by : Word → Given → Tokens → Given
settled_by (Setting name) g t = with name g t
settled_by _ g t = g

abbrev pub settled : Given → Tokens → Given
settled g t = settled_by t.first g t

-- ---- readings: NaN for a check that is missing, 0.0 in a table, else the number
abbrev pub reading_of : Bool → Word → Float
reading_of table Planned = fin false 0 (pos 0)
reading_of table (Number n) = cond table (fin false 0 (pos 0)) (of_int binary64 (pos n))
reading_of table (Negative n) = cond table (fin false 0 (pos 0)) (neg (of_int binary64 (pos n)))
reading_of table _ = nan

-- a line with checks has two readings, any other none
unfoldable pub line_readings : Bool → Tokens → List Float
line_readings table t = cond (has_checks t.first) (reading_of table t.first ∷ reading_of table t.second ∷ []) []

-- from place a on the list has the new readings; the rest of it is as it was
pub record Laid (a : ℕ) (new old now : List Float) : Type 0 where
  pub before : take (a + length new) now ≡ take a old ++ new
  pub after : drop (a + length new) now ≡ drop (a + length new) old
  pub long : length now ≡ length old
