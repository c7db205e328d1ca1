-- What became of a check, by its kind as the library numbers it: 0 a gap, 1 usual, 2 diffuse, 3 too small against its scale, 4 below the dust line, and from
-- 5 on failed on replay.
use Rattle.std.specs.Prelude.{ℕ, [], ◌∷◌, get_or}
use Rattle.rows.specs.declared.Check.{Check}
use Rattle.rows.specs.declared.Check.TheVariants.{Missing, Taken, FirstNews, AddsNothing, OnlyRounding, Doubtful}

abbrev pub check_of : (kind : ℕ) → Check
check_of kind = get_or (Missing ∷ Taken ∷ FirstNews ∷ AddsNothing ∷ OnlyRounding ∷ []) kind Doubtful
