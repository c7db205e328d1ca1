-- The text: its lines one after the other, until one is wrong.
use Rattle.std.specs.Prelude.{ℕ, suc, ◌+◌, Bool, cond, List, [], ◌∷◌, ◌++◌, length, Option, Some, None, Result, Ok, Err, Float}
use Rattle.sheet.specs.declared.answers.Noise.{Noise}
use Rattle.sheet.specs.declared.answers.Settings.{Settings}
use Rattle.sheet.specs.declared.answers.Sheet.{Sheet}
use Rattle.sheet.specs.declared.answers.Wanted.{Wanted}
use Rattle.sheet.specs.declared.answers.Wanted.TheVariants.{PeriodSetting, NoiseSetting}
use Rattle.sheet.specs.declared.answers.Wrong.{Wrong}
use Rattle.sheet.specs.declared.parts.Tokens.{Tokens}
use Rattle.sheet.specs.declared.parts.Fault.{Fault}
use Rattle.sheet.specs.declared.parts.Given.{Given}
use Rattle.sheet.specs.Kinds.{has_checks}
use Rattle.sheet.specs.Lines.{lines_of, content_of}
use Rattle.sheet.specs.Tokens.{word_no, tokens_of}
use Rattle.sheet.specs.Faults.{Found, fault_of}
use Rattle.sheet.specs.Effects.{fresh, settled, line_readings}

-- a line's words are those of its content
abbrev pub line_tokens : List ℕ → Tokens
line_tokens l = tokens_of (content_of l)

abbrev pub line_fault : Bool → Given → ℕ → List ℕ → Found
line_fault table g periods l = fault_of table g periods (line_tokens l)

-- one period more after a line with checks
unfoldable pub counted : ℕ → Tokens → ℕ
counted periods t = cond (has_checks t.first) (periods + 1) periods

-- the wrong word of a line that starts at place `at`
unfoldable pub wrong_line : ℕ → ℕ → List ℕ → Fault → Wrong
wrong_line line at l f = record { line = line; from = at + (word_no (content_of l) f.word).from; to = at + (word_no (content_of l) f.word).to; wanted = f.wanted }

-- what lacks at the end of a text of so many lines and bytes
abbrev pub at_end : ℕ → ℕ → Wanted → Wrong
at_end lines size wanted = record { line = lines; from = size; to = size; wanted = wanted }

-- the settings, where the two that must be given are
abbrev pub settings_by : Given → ℕ → Noise → Settings
settings_by g period noise = record {
  period = period;
  noise = noise;
  radio = g.radio;
  wander_offset = g.wander_offset;
  wander_rate = g.wander_rate;
  offset = g.offset;
  rate = g.rate;
  rate_keeps = g.rate_keeps;
  season = g.season;
}

abbrev pub end_by : Option ℕ → Option Noise → Given → ℕ → ℕ → ℕ → Result Sheet Wrong
end_by None noise g periods lines size = Err (at_end lines size PeriodSetting)
end_by (Some period) None g periods lines size = Err (at_end lines size NoiseSetting)
end_by (Some period) (Some noise) g periods lines size = Ok (record { settings = settings_by g period noise; periods = periods })

-- the end of the text: period and noise must have been given
abbrev pub end_of : Given → ℕ → ℕ → ℕ → Result Sheet Wrong
end_of g periods lines size = end_by g.period g.noise g periods lines size

-- what a right line leads to, or a wrong one
abbrev pub unless_wrong : {A : Type 0} → Found → A → (Fault → A) → A
unless_wrong (Ok u) next stop = next
unless_wrong (Err f) next stop = stop f

-- the lines that are left of a text of `size` bytes: n lines stand before them, and the first of them starts at place `at`
unfoldable pub sheet_from : Bool → ℕ → Given → ℕ → ℕ → ℕ → List (List ℕ) → Result Sheet Wrong
sheet_from table size g periods n at [] = end_of g periods n size
sheet_from table size g periods n at (l ∷ ls) =
    unless_wrong (line_fault table g periods l)
    (sheet_from table size (settled g (line_tokens l)) (counted periods (line_tokens l)) (suc n) (suc (at + length l)) ls)
    (λ f. Err (wrong_line (suc n) at l f))

-- their readings, as far as the lines are right
unfoldable pub readings_from : Bool → Given → ℕ → List (List ℕ) → List Float
readings_from table g periods [] = []
readings_from table g periods (l ∷ ls) =
    unless_wrong (line_fault table g periods l)
    (line_readings table (line_tokens l) ++ readings_from table (settled g (line_tokens l)) (counted periods (line_tokens l)) ls)
    (λ f. [])

unfoldable pub sheet_of : Bool → List ℕ → Result Sheet Wrong
sheet_of table text = sheet_from table (length text) fresh 0 0 0 (lines_of text)

unfoldable pub readings_of : Bool → List ℕ → List Float
readings_of table text = readings_from table fresh 0 (lines_of text)
