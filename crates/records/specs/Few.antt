-- Whether the list of records is too short for a call whose sizes are in range, and how many records a call has.
use Rattle.std.specs.Prelude.{ℕ, ◌*◌, Bool, not, ◌&&◌, cond, ltb}
use Rattle.definition.specs.Refusals.{outside}

unfoldable pub too_few : ℕ → ℕ → ℕ → ℕ → ℕ → Bool
too_few p m r n have = not (outside p m r n) && ltb have (n * p)

-- n·p, where both are in range
unfoldable pub capped : ℕ → ℕ → ℕ
capped p n = cond (ltb 8 p) 0 (cond (ltb 4096 n) 0 (n * p))
