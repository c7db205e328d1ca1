-- What the definitions say of some texts: antt computes them. Assumes nothing.
use Rattle.std.specs.Prelude.{◌≡◌, ℕ, true, false, List, [], ◌∷◌, ◌++◌, pos, Some, Result, Ok, Err, codes, refl}
use Rattle.std.specs.Float.{nan, fin}
use Rattle.std.specs.Float.Ieee.{neg, of_int}
use Rattle.decimal.specs.Reading.{is_digit, all_digits, value_from, number_of, read_of, stretch}
use Rattle.decimal.specs.Words.{is_blank, keeps, run_of, word_at}
use Rattle.sheet.specs.declared.answers.Noise.TheVariants.{One, Two}
use Rattle.sheet.specs.declared.answers.Settings.{Settings}
use Rattle.sheet.specs.declared.answers.Sheet.{Sheet}
use Rattle.sheet.specs.declared.answers.Spread.TheVariants.{Sd, Variance}
use Rattle.sheet.specs.declared.answers.Start.TheVariants.{Unknown, Known}
use Rattle.sheet.specs.declared.answers.Wanted.{Wanted}
use Rattle.sheet.specs.declared.answers.Wanted.TheVariants.{Line, Seconds, SdOrVariance, Size, UnknownOrValue, Thousandths, SeasonStart, LineEnd, Check, OneCheck, Once, SettingsFirst, PeriodSetting, NoiseSetting, FewerPeriods}
use Rattle.sheet.specs.declared.answers.Wrong.{Wrong}
use Rattle.sheet.specs.declared.parts.Given.{Given}
use Rattle.sheet.specs.Lines.{run_to, onto, lines_of, content_of}
use Rattle.sheet.specs.Tokens.{start_no, word_no, token_no}
use Rattle.sheet.specs.Effects.{fresh, line_readings}
use Rattle.sheet.specs.Sheets.{counted, wrong_line, settings_by, sheet_from, readings_from, sheet_of, readings_of}

-- a good sheet of so many periods; a text that is wrong in that line, from that place up to the other
abbrev good : Settings → ℕ → Result Sheet Wrong
good settings periods = Ok (record { settings = settings; periods = periods })

abbrev bad : ℕ → ℕ → ℕ → Wanted → Result Sheet Wrong
bad line from to wanted = Err (record { line = line; from = from; to = to; wanted = wanted })

abbrev base : List ℕ
base = codes "period 1\nnoise sd 2\n"

-- what `base` gives
abbrev base_given : Given
base_given = record fresh { period = Some 1; noise = Some (One (Sd 2)) }

abbrev base_settings : Settings
base_settings = settings_by base_given 1 (One (Sd 2))

-- what is answered
pub sheets :
    (sheet_of false (codes "period 60\nnoise variance 4 5\nradio sd 1\nwander-offset sd 2\nwander-rate variance 3\nrate-keeps 980\nseason 113 950\nstart-offset unknown\nstart-rate -7 sd 8\n") ≡ good
    (record {
      period = 60;
      noise = Two (Variance 4) (Variance 5);
      radio = Some (Sd 1);
      wander_offset = Some (Sd 2);
      wander_rate = Some (Variance 3);
      offset = Some Unknown;
      rate = Some (Known true 7 (Sd 8));
      rate_keeps = Some 980;
      season = Some (record { first = 113; keeps = 950 });
    }) 0)
    × (sheet_of false (codes "# a\r\nperiod 1 # b\r\n\nnoise\tsd 2\n -5") ≡ good base_settings 1)
    -- in a table
    × (sheet_of true (base ++ (codes "7\n+\n-\n")) ≡ good base_settings 3)
    -- in no table
    × (sheet_of false (base ++ (codes "7\n+\n-\n")) ≡ bad 4 22 23 Check)
    × (sheet_of false (codes "x") ≡ bad 1 0 1 Line)
    × (sheet_of false (codes "period 0") ≡ bad 1 7 8 Seconds)
    × (sheet_of false (codes "radio 5") ≡ bad 1 6 7 SdOrVariance)
    × (sheet_of false (codes "noise sd -") ≡ bad 1 9 10 Size)
    -- sixteen digits
    × (sheet_of false (codes "noise sd 1000000000000000") ≡ bad 1 9 25 Size)
    -- what counts ends before the #
    × (sheet_of false (codes "noise sd # 5") ≡ bad 1 9 9 Size)
    × (sheet_of false (codes "start-rate x") ≡ bad 1 11 12 UnknownOrValue)
    × (sheet_of false (codes "rate-keeps 0") ≡ bad 1 11 12 Thousandths)
    × (sheet_of false (codes "rate-keeps 980\nrate-keeps 980") ≡ bad 2 15 25 Once)
    × (sheet_of false (codes "season 1 950") ≡ bad 1 7 8 SeasonStart)
    × (sheet_of false (codes "season 4097 950") ≡ bad 1 7 11 SeasonStart)
    × (sheet_of false (codes "season 2 0") ≡ bad 1 9 10 Thousandths)
    × (sheet_of false (codes "season 4096 950 9") ≡ bad 1 16 17 LineEnd)
    × (sheet_of false (codes "season 9 8\nseason 9 8") ≡ bad 2 11 17 Once)
    × (sheet_of false (codes "period 1 2") ≡ bad 1 9 10 LineEnd)
    -- asked before its other words
    × (sheet_of false (codes "period 1\nperiod x") ≡ bad 2 9 15 Once)
    × (sheet_of false (base ++ (codes "1x")) ≡ bad 3 20 22 Check)
    × (sheet_of false (base ++ (codes "1 2")) ≡ bad 3 22 23 OneCheck)
    × (sheet_of false (base ++ (codes "1\nperiod 1")) ≡ bad 4 22 28 SettingsFirst)
    × (sheet_of false (codes "1") ≡ bad 1 0 1 PeriodSetting)
    × (sheet_of false (codes "period 1\n5") ≡ bad 2 9 10 NoiseSetting)
    -- "5" as the period after 4096
    × (sheet_from false 9 base_given 4096 4098 7 (lines_of (codes "5")) ≡ bad 4099 7 8 FewerPeriods)
    -- the end
    × (sheet_of false [] ≡ bad 1 0 0 PeriodSetting)
    -- the end
    × (sheet_of false (codes "period 1\n") ≡ bad 2 9 9 NoiseSetting)
unfolding sheet_of sheet_from readings_from counted wrong_line run_to onto lines_of content_of start_no word_no token_no line_readings is_digit all_digits value_from number_of read_of stretch is_blank keeps run_of word_at
sheets = (refl, refl, refl, refl, refl, refl, refl, refl, refl, refl, refl, refl, refl, refl, refl, refl, refl, refl, refl, refl, refl, refl, refl, refl, refl, refl, refl, refl)

-- what is stored
pub readings :
    (readings_of false (codes "# a\r\nperiod 1 # b\r\n\nnoise\tsd 2\n -5") ≡ fin true 5 (pos 0) ∷ nan ∷ [])
    × (readings_of false (codes "period 1\nnoise sd 2 3\n5 -\n- 6\n0 -0\n") ≡ fin false 5 (pos 0) ∷ nan ∷ nan ∷ fin false 3 (pos 1) ∷ fin false 0 (pos 0) ∷ fin true 0 (pos 0) ∷ [])
    -- in a table
    × (readings_of true (base ++ (codes "7\n+\n-\n")) ≡ fin false 0 (pos 0) ∷ nan ∷ fin false 0 (pos 0) ∷ nan ∷ nan ∷ nan ∷ [])
    -- up to the wrong line
    × (readings_of false (base ++ (codes "5\nx\n6\n")) ≡ fin false 5 (pos 0) ∷ nan ∷ [])
unfolding readings_of readings_from counted wrong_line run_to onto lines_of content_of start_no word_no token_no line_readings is_digit all_digits value_from number_of read_of stretch is_blank keeps run_of word_at neg of_int
readings = (refl, refl, refl, refl)
