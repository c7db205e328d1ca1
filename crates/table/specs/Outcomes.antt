-- What became of a check, in words: the outcome column. docs/PANEL.md, "What it prints".
use Rattle.std.specs.Prelude.{◌≡◌, refl, List, [], ◌∷◌, ℕ, zero, suc, get_or, length}
use Rattle.rows.specs.declared.Check.{Check}
use Rattle.rows.specs.declared.Check.TheVariants.{Missing, Taken, FirstNews, AddsNothing, OnlyRounding, Doubtful}
use Rattle.rows.specs.Checks.{check_of}
use Rattle.cells.specs.Cells.{left_of, written}

-- "  no check"
abbrev pub no_check : List ℕ
no_check = 32 ∷ 32 ∷ 110 ∷ 111 ∷ 32 ∷ 99 ∷ 104 ∷ 101 ∷ 99 ∷ 107 ∷ []

-- "  taken"
abbrev pub taken : List ℕ
taken = 32 ∷ 32 ∷ 116 ∷ 97 ∷ 107 ∷ 101 ∷ 110 ∷ []

-- "  first news"
abbrev pub first_news : List ℕ
first_news = 32 ∷ 32 ∷ 102 ∷ 105 ∷ 114 ∷ 115 ∷ 116 ∷ 32 ∷ 110 ∷ 101 ∷ 119 ∷ 115 ∷ []

-- "  adds nothing"
abbrev pub adds_nothing : List ℕ
adds_nothing = 32 ∷ 32 ∷ 97 ∷ 100 ∷ 100 ∷ 115 ∷ 32 ∷ 110 ∷ 111 ∷ 116 ∷ 104 ∷ 105 ∷ 110 ∷ 103 ∷ []

-- "  only rounding"
abbrev pub only_rounding : List ℕ
only_rounding = 32 ∷ 32 ∷ 111 ∷ 110 ∷ 108 ∷ 121 ∷ 32 ∷ 114 ∷ 111 ∷ 117 ∷ 110 ∷ 100 ∷ 105 ∷ 110 ∷ 103 ∷ []

-- "  doubtful"
abbrev pub doubtful : List ℕ
doubtful = 32 ∷ 32 ∷ 100 ∷ 111 ∷ 117 ∷ 98 ∷ 116 ∷ 102 ∷ 117 ∷ 108 ∷ []

abbrev pub outcome_of : Check → List ℕ
outcome_of Missing = no_check
outcome_of Taken = taken
outcome_of FirstNews = first_news
outcome_of AddsNothing = adds_nothing
outcome_of OnlyRounding = only_rounding
outcome_of Doubtful = doubtful

-- a line afterwards: the word at the left of the column, which is 15 wide and begins at `at`
abbrev pub outcome_in : (check : Check) (at : ℕ) (line : List ℕ) → List ℕ
outcome_in check at line = written (length (outcome_of check)) at 15 (left_of 15 (outcome_of check)) line

-- ---- by the kind, as the library numbers it
pub by_kind : (kind : ℕ) → outcome_of (check_of kind) ≡ get_or (no_check ∷ taken ∷ first_news ∷ adds_nothing ∷ only_rounding ∷ []) kind doubtful
by_kind zero = refl
by_kind (suc zero) = refl
by_kind (suc (suc zero)) = refl
by_kind (suc (suc (suc zero))) = refl
by_kind (suc (suc (suc (suc zero)))) = refl
by_kind (suc (suc (suc (suc (suc kind))))) = refl
