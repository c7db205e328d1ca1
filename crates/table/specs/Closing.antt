-- The closing line: from which periods on numbers ran off. A report is such a period, counted from 1, or 0 for none. docs/PANEL.md, "What it prints".
use Rattle.std.specs.Prelude.{◌≡◌, refl, Bool, true, false, cond, List, [], ◌∷◌, ◌++◌, ℕ, eqb}
use Rattle.decimal.specs.Printed.{digits_onto, places_in, places_of, plain_of}

-- "numbers ran off     covariance from period "
abbrev pub cov_first : List ℕ
cov_first = 110 ∷ 117 ∷ 109 ∷ 98 ∷ 101 ∷ 114 ∷ 115 ∷ 32 ∷ 114 ∷ 97 ∷ 110 ∷ 32 ∷ 111 ∷ 102 ∷ 102 ∷ 32 ∷ 32 ∷ 32 ∷ 32 ∷ 32 ∷ 99 ∷ 111 ∷ 118 ∷ 97 ∷ 114 ∷ 105 ∷ 97 ∷ 110 ∷ 99 ∷ 101 ∷ 32 ∷ 102 ∷ 114 ∷ 111 ∷ 109 ∷ 32 ∷ 112 ∷ 101 ∷ 114 ∷ 105 ∷ 111 ∷ 100 ∷ 32 ∷ []

-- "numbers ran off     mean from period "
abbrev pub mean_first : List ℕ
mean_first = 110 ∷ 117 ∷ 109 ∷ 98 ∷ 101 ∷ 114 ∷ 115 ∷ 32 ∷ 114 ∷ 97 ∷ 110 ∷ 32 ∷ 111 ∷ 102 ∷ 102 ∷ 32 ∷ 32 ∷ 32 ∷ 32 ∷ 32 ∷ 109 ∷ 101 ∷ 97 ∷ 110 ∷ 32 ∷ 102 ∷ 114 ∷ 111 ∷ 109 ∷ 32 ∷ 112 ∷ 101 ∷ 114 ∷ 105 ∷ 111 ∷ 100 ∷ 32 ∷ []

-- ", mean from period "
abbrev pub mean_next : List ℕ
mean_next = 44 ∷ 32 ∷ 109 ∷ 101 ∷ 97 ∷ 110 ∷ 32 ∷ 102 ∷ 114 ∷ 111 ∷ 109 ∷ 32 ∷ 112 ∷ 101 ∷ 114 ∷ 105 ∷ 111 ∷ 100 ∷ 32 ∷ []

-- words and a period's number
abbrev pub part_of : List ℕ → ℕ → List ℕ
part_of words period = words ++ plain_of period

-- a newline ends the line; where nothing ran off there is none
unfoldable pub line_of : (cov mean : ℕ) → List ℕ
line_of cov mean =
    cond (eqb cov 0)
    (cond (eqb mean 0) [] (part_of mean_first mean ++ (10 ∷ [])))
    (cond (eqb mean 0) (part_of cov_first cov ++ (10 ∷ [])) ((part_of cov_first cov ++ part_of mean_next mean) ++ (10 ∷ [])))

-- a table has no means, so nothing is said of theirs
abbrev pub means_off : (table : Bool) (mean : ℕ) → ℕ
means_off table mean = cond table 0 mean

abbrev pub closing_of : (table : Bool) (cov mean : ℕ) → List ℕ
closing_of table cov mean = line_of cov (means_off table mean)

-- ---- computed: nothing; "numbers ran off     covariance from period 78, mean from period 156"; the same in a table
pub nothing : closing_of false 0 0 ≡ []
unfolding line_of
nothing = refl

pub both : closing_of false 78 156 ≡ 110 ∷ 117 ∷ 109 ∷ 98 ∷ 101 ∷ 114 ∷ 115 ∷ 32 ∷ 114 ∷ 97 ∷ 110 ∷ 32 ∷ 111 ∷ 102 ∷ 102 ∷ 32 ∷ 32 ∷ 32 ∷ 32 ∷ 32 ∷ 99 ∷ 111 ∷ 118 ∷ 97 ∷ 114 ∷ 105 ∷ 97 ∷ 110 ∷ 99 ∷ 101 ∷ 32 ∷ 102 ∷ 114 ∷ 111 ∷ 109 ∷ 32 ∷ 112 ∷ 101 ∷ 114 ∷ 105 ∷ 111 ∷ 100 ∷ 32 ∷ 55 ∷ 56 ∷ 44 ∷ 32 ∷ 109 ∷ 101 ∷ 97 ∷ 110 ∷ 32 ∷ 102 ∷ 114 ∷ 111 ∷ 109 ∷ 32 ∷ 112 ∷ 101 ∷ 114 ∷ 105 ∷ 111 ∷ 100 ∷ 32 ∷ 49 ∷ 53 ∷ 54 ∷ 10 ∷ []
unfolding line_of plain_of digits_onto places_of places_in
both = refl

pub in_a_table : closing_of true 78 156 ≡ 110 ∷ 117 ∷ 109 ∷ 98 ∷ 101 ∷ 114 ∷ 115 ∷ 32 ∷ 114 ∷ 97 ∷ 110 ∷ 32 ∷ 111 ∷ 102 ∷ 102 ∷ 32 ∷ 32 ∷ 32 ∷ 32 ∷ 32 ∷ 99 ∷ 111 ∷ 118 ∷ 97 ∷ 114 ∷ 105 ∷ 97 ∷ 110 ∷ 99 ∷ 101 ∷ 32 ∷ 102 ∷ 114 ∷ 111 ∷ 109 ∷ 32 ∷ 112 ∷ 101 ∷ 114 ∷ 105 ∷ 111 ∷ 100 ∷ 32 ∷ 55 ∷ 56 ∷ 10 ∷ []
unfolding line_of plain_of digits_onto places_of places_in
in_a_table = refl
