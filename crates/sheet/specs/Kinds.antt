-- What a word may stand for, by its kind.
use Rattle.std.specs.Prelude.{ℕ, Bool, true, false, ◌&&◌, nat_le}
use Rattle.sheet.specs.declared.kinds.Word.{Word}
use Rattle.sheet.specs.declared.kinds.Word.TheVariants.{End, Setting, Gap, Planned, Number, Negative, Sd, Variance, Unknown}

abbrev pub is_end : Word → Bool
is_end End = true
is_end _ = false

-- sd or variance
abbrev pub is_spread : Word → Bool
is_spread Sd = true
is_spread Variance = true
is_spread _ = false

abbrev pub is_number : Word → Bool
is_number (Number n) = true
is_number _ = false

-- a number from one to another
abbrev pub is_within : ℕ → ℕ → Word → Bool
is_within least most (Number n) = nat_le least n && nat_le n most
is_within least most _ = false

-- a number, with a minus or with none
abbrev pub is_value : Word → Bool
is_value (Number n) = true
is_value (Negative n) = true
is_value _ = false

abbrev pub is_unknown : Word → Bool
is_unknown Unknown = true
is_unknown _ = false

-- a minus alone or a number; a plus alone in a table
abbrev pub is_check : Bool → Word → Bool
is_check table Gap = true
is_check table Planned = table
is_check table (Number n) = true
is_check table (Negative n) = true
is_check table _ = false

-- a line that starts with any other word is one with checks
abbrev pub has_checks : Word → Bool
has_checks End = false
has_checks (Setting name) = false
has_checks _ = true

-- without the minus; 0 of a word that is no number
abbrev pub size_of : Word → ℕ
size_of (Number n) = n
size_of (Negative n) = n
size_of _ = 0
