-- What is wrong with a line, by its words: the first wrong word. Whether the line may stand there is asked before its other words are looked at.
use Rattle.std.specs.Prelude.{ℕ, ◌+◌, Bool, true, false, cond, not, ◌==◌, nat_lt, Option, Some, is_some, Result, Ok, Err}
use Rattle.sheet.specs.declared.answers.Noise.{Noise}
use Rattle.sheet.specs.declared.answers.Noise.TheVariants.{Two}
use Rattle.sheet.specs.declared.answers.Wanted.{Wanted}
use Rattle.sheet.specs.declared.answers.Wanted.TheVariants.{Line, Seconds, SdOrVariance, Size, UnknownOrValue, Thousandths, SeasonStart, LineEnd, Check, OneCheck, Once, SettingsFirst, PeriodSetting, NoiseSetting, FewerPeriods}
use Rattle.sheet.specs.declared.kinds.Name.{Name}
use Rattle.sheet.specs.declared.kinds.Name.TheVariants.{Period, Noise as OfNoise, Radio, WanderOffset, WanderRate, StartOffset, StartRate, RateKeeps, Season}
use Rattle.sheet.specs.declared.kinds.Word.{Word}
use Rattle.sheet.specs.declared.kinds.Word.TheVariants.{End, Setting, Gap, Planned, Number, Negative, NoCheck}
use Rattle.sheet.specs.declared.parts.Given.{Given}
use Rattle.sheet.specs.declared.parts.Tokens.{Tokens}
use Rattle.sheet.specs.declared.parts.Fault.{Fault}
use Rattle.sheet.specs.Kinds.{is_end, is_spread, is_number, is_within, is_value, is_unknown, is_check}

-- what is right, or the first fault
abbrev pub Found : Type 0
Found = Result (Unit {0}) Fault

abbrev pub right : Found
right = Ok tt

abbrev pub wrong_at : Wanted → ℕ → Found
wrong_at wanted word = Err (record { wanted = wanted; word = word })

abbrev pub need : Bool → Wanted → ℕ → Found
need holds wanted word = cond holds right (wrong_at wanted word)

-- one test after another, up to the first that fails
infixl 10 ◌>>=◌
abbrev pub ◌>>=◌ : Found → (Unit {0} → Found) → Found
Ok u >>= f = f u
Err e >>= f = Err e

-- no word more
abbrev pub end_fault : Word → ℕ → Found
end_fault w at = need (is_end w) LineEnd at

-- ---- settings

-- period SECONDS
abbrev pub period_fault : Tokens → Found
period_fault t = do
  _ ← need (is_within 1 999999999 t.second) Seconds 1
  end_fault t.third 2

-- noise sd A, noise sd A B; or variance
abbrev pub noise_fault : Tokens → Found
noise_fault t = do
  _ ← need (is_spread t.second) SdOrVariance 1
  _ ← need (is_number t.third) Size 2
  cond (is_end t.fourth) right (need (is_number t.fourth) Size 3 >>= λ _. end_fault t.fifth 4)

-- sd A, or variance A, from word `at` on, and no more
abbrev pub spread_fault : Word → Word → Word → ℕ → Found
spread_fault a b c at = do
  _ ← need (is_spread a) SdOrVariance at
  _ ← need (is_number b) Size (at + 1)
  end_fault c (at + 2)

-- unknown; or VALUE sd A; or VALUE variance A
abbrev pub start_fault : Tokens → Found
start_fault t = cond (is_unknown t.second) (end_fault t.third 2) (need (is_value t.second) UnknownOrValue 1 >>= λ _. spread_fault t.third t.fourth t.fifth 2)

-- THOUSANDTHS as word `at`, and no more
abbrev pub keeps_fault : Word → Word → ℕ → Found
keeps_fault a b at = do
  _ ← need (is_within 1 999999999999999 a) Thousandths at
  end_fault b (at + 1)

-- season PERIOD THOUSANDTHS
abbrev pub season_fault : Tokens → Found
season_fault t = do
  _ ← need (is_within 2 4096 t.second) SeasonStart 1
  keeps_fault t.third t.fourth 2

abbrev pub is_given : Given → Name → Bool
is_given g Period = is_some g.period
is_given g OfNoise = is_some g.noise
is_given g Radio = is_some g.radio
is_given g WanderOffset = is_some g.wander_offset
is_given g WanderRate = is_some g.wander_rate
is_given g StartOffset = is_some g.offset
is_given g StartRate = is_some g.rate
is_given g RateKeeps = is_some g.rate_keeps
is_given g Season = is_some g.season

-- the words after a setting's name
abbrev pub words_fault : Name → Tokens → Found
words_fault Period t = period_fault t
words_fault OfNoise t = noise_fault t
words_fault Radio t = spread_fault t.second t.third t.fourth 1
words_fault WanderOffset t = spread_fault t.second t.third t.fourth 1
words_fault WanderRate t = spread_fault t.second t.third t.fourth 1
words_fault StartOffset t = start_fault t
words_fault StartRate t = start_fault t
words_fault RateKeeps t = keeps_fault t.second t.third 1
words_fault Season t = season_fault t

-- after so many periods
abbrev pub setting_fault : Given → ℕ → Name → Tokens → Found
setting_fault g periods name t = do
  _ ← need (periods == 0) SettingsFirst 0
  _ ← need (not (is_given g name)) Once 0
  words_fault name t

-- ---- periods

abbrev pub is_for_two : Option Noise → Bool
is_for_two (Some (Two a b)) = true
is_for_two _ = false

-- a check, and nothing after it, or one more where noise is for two inputs
abbrev pub pair_fault : Bool → Option Noise → Tokens → Found
pair_fault table noise t = do
  _ ← need (is_check table t.first) Check 0
  cond (is_end t.second) right (do
    _ ← need (is_for_two noise) OneCheck 1
    _ ← need (is_check table t.second) Check 1
    end_fault t.third 2)

abbrev pub checks_fault : Bool → Given → ℕ → Tokens → Found
checks_fault table g periods t = do
  _ ← need (is_some g.period) PeriodSetting 0
  _ ← need (is_some g.noise) NoiseSetting 0
  _ ← need (nat_lt periods 4096) FewerPeriods 0
  pair_fault table g.noise t

-- ---- a line, by its first word
abbrev pub fault_by : Word → Bool → Given → ℕ → Tokens → Found
fault_by End table g periods t = right
fault_by (Setting name) table g periods t = setting_fault g periods name t
fault_by Gap table g periods t = checks_fault table g periods t
fault_by Planned table g periods t = checks_fault table g periods t
fault_by (Number n) table g periods t = checks_fault table g periods t
fault_by (Negative n) table g periods t = checks_fault table g periods t
fault_by NoCheck table g periods t = checks_fault table g periods t
fault_by _ table g periods t = wrong_at Line 0

abbrev pub fault_of : Bool → Given → ℕ → Tokens → Found
fault_of table g periods t = fault_by t.first table g periods t
