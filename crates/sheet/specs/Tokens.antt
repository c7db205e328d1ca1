-- The words of a line and what each of them is. A word is a stretch with no blank, by `word_at`.
use Rattle.std.specs.Prelude.{◌≡◌, refl, ℕ, zero, suc, Bool, true, false, cond, List, [], ◌∷◌, ◌==◌, Option, Some, None, Result, Ok, Err, codes}
use Rattle.std.specs.Str.{bytes_eq}
use Rattle.std.proofs.lemmas.Slice.Eq.{bytes_eq-Decides}
use Rattle.decimal.specs.declared.answers.Whole.{Whole}
use Rattle.decimal.specs.declared.answers.NotRead.{NotRead}
use Rattle.decimal.specs.declared.answers.NotRead.TheVariants.{Empty, TooLong, NotANumber}
use Rattle.decimal.specs.declared.answers.Span.{Span}
use Rattle.decimal.specs.Reading.{is_digit, read_of, stretch}
use Rattle.decimal.specs.Words.{word_at}
use Rattle.sheet.specs.declared.kinds.Name.{Name}
use Rattle.sheet.specs.declared.kinds.Name.TheVariants.{Period, Noise, Radio, WanderOffset, WanderRate, StartOffset, StartRate, RateKeeps, Season}
use Rattle.sheet.specs.declared.kinds.Word.{Word}
use Rattle.sheet.specs.declared.kinds.Word.TheVariants.{End, Setting, Gap, Planned, Number, Negative, NoCheck, Sd, Variance, Unknown, Other}
use Rattle.sheet.specs.declared.parts.Tokens.{Tokens}

-- two words are the same exactly where the test says so
pub equal_is : (a b : List ℕ) → bytes_eq a b ≡ true → a ≡ b
equal_is a b e = (bytes_eq-Decides a b).0 e

pub equal_same : (a : List ℕ) → bytes_eq a a ≡ true
equal_same a = (bytes_eq-Decides a a).1 refl

-- the setting of that name
abbrev pub setting_name : List ℕ → Option Name
setting_name w =
    cond (bytes_eq w (codes "period")) (Some Period)
    (cond (bytes_eq w (codes "noise")) (Some Noise)
    (cond (bytes_eq w (codes "radio")) (Some Radio)
    (cond (bytes_eq w (codes "wander-offset")) (Some WanderOffset)
    (cond (bytes_eq w (codes "wander-rate")) (Some WanderRate)
    (cond (bytes_eq w (codes "start-offset")) (Some StartOffset)
    (cond (bytes_eq w (codes "start-rate")) (Some StartRate)
    (cond (bytes_eq w (codes "rate-keeps")) (Some RateKeeps)
    (cond (bytes_eq w (codes "season")) (Some Season)
    None))))))))

-- whether it starts with a digit, a minus or a plus
abbrev pub starts_check : List ℕ → Bool
starts_check [] = false
starts_check (b ∷ bs) = cond (b == 43) true (cond (b == 45) true (is_digit b))

abbrev pub other_word : List ℕ → Word
other_word w =
    cond (bytes_eq w (codes "sd")) Sd
    (cond (bytes_eq w (codes "variance")) Variance
    (cond (bytes_eq w (codes "unknown")) Unknown
    (cond (bytes_eq w (codes "-")) Gap
    (cond (bytes_eq w (codes "+")) Planned
    (cond (starts_check w) NoCheck
    Other)))))

abbrev pub plain_by : Option Name → List ℕ → Word
plain_by (Some name) w = Setting name
plain_by None w = other_word w

-- a word that is no number
abbrev pub plain_word : List ℕ → Word
plain_word w = plain_by (setting_name w) w

-- by what it reads as. A number that is too long starts with a digit or a minus.
abbrev pub token_by : Result Whole NotRead → List ℕ → Word
token_by (Ok n) w = cond n.minus (Negative n.size) (Number n.size)
token_by (Err Empty) w = End
token_by (Err TooLong) w = NoCheck
token_by (Err NotANumber) w = plain_word w

abbrev pub token_of : List ℕ → Word
token_of w = token_by (read_of w) w

-- ---- the words of a line, counted from 0. Past the last they are empty, at the end of the line
unfoldable pub start_no : List ℕ → ℕ → ℕ
start_no line zero = 0
start_no line (suc k) = (word_at line (start_no line k)).to

unfoldable pub word_no : List ℕ → ℕ → Span
word_no line k = word_at line (start_no line k)

unfoldable pub token_no : List ℕ → ℕ → Word
token_no line k = token_of (stretch line (word_no line k).from (word_no line k).to)

-- no line is right that has more
abbrev pub tokens_of : List ℕ → Tokens
tokens_of line = record { first = token_no line 0; second = token_no line 1; third = token_no line 2; fourth = token_no line 3; fifth = token_no line 4 }
