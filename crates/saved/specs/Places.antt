-- Bytes by their places: a number read at one, numbers in a row, a list put at one; where each section of a saved run begins.
use Rattle.std.specs.Prelude.{◌≡◌, ℕ, ◌+◌, ◌*◌, ◌≤◌, List, ◌++◌, map, length, take, drop, Float}
use Rattle.definition.specs.Run.{chunks}
use Rattle.definition.specs.Saved.{from_bytes}

-- the number in the k bytes from a place on
abbrev pub bytes_at : ℕ → ℕ → List ℕ → ℕ
bytes_at k at bs = from_bytes (take k (drop at bs))

-- the w numbers of eight bytes from a place on
abbrev pub numbers_at : ℕ → ℕ → List ℕ → List ℕ
numbers_at w at bs = map from_bytes (chunks w 8 (drop at bs))

-- w in place of what stood from a place on
abbrev pub put_at : {A : Type 0} → ℕ → List A → List A → List A
put_at at w old = take at old ++ w ++ drop (at + length w) old

-- what all take, for m states
abbrev pub whole : ℕ → ℕ
whole m = 120 + m * 8 + m * m * 32

-- the bytes of a run of m states
abbrev pub WholeRun : ℕ → List ℕ → Type 0
WholeRun m bs = length bs ≡ whole m

-- room for a state: the mean, P*, P∞, its root, the unresolved matrix
abbrev pub Room : ℕ → List Float → Type 0
Room m s = m + m * m + m * m + m * m + m * m ≤ length s

-- for m of at most 8 states: where each section after the mean's begins, and where the last one ends
pub record Starts (m star pinf root unres loglik tallies end : ℕ) : Type 0 where
  pub small : m * m ≤ 64
  pub star_is : star ≡ 40 + m * 8
  pub pinf_is : pinf ≡ 44 + m * 8 + m * m * 8
  pub root_is : root ≡ 48 + m * 8 + m * m * 16
  pub unres_is : unres ≡ 52 + m * 8 + m * m * 24
  pub loglik_is : loglik ≡ 56 + m * 8 + m * m * 32
  pub tallies_is : tallies ≡ 68 + m * 8 + m * m * 32
  pub end_is : end ≡ whole m
