-- A stretch's table of refusals, document 02's: each condition as a statement about what the caller lends, in its order. 2 to 11 are the filter's
-- call's, and so are T's reach (2) and 14, over the periods done and the stretch's.
use Rattle.std.specs.Prelude.{◌≡◌, ℕ, ◌+◌, ◌*◌, ◌≤◌, ◌<◌, Bool, List, [], ◌∷◌, ◌++◌, map, T, length, take, drop, Float}
use Rattle.std.specs.Float.Ieee.{is_nan}
use Rattle.definition.specs.Inputs.{Model, Offsets, class_of}
use Rattle.definition.specs.Outcome.{CovParts, MeanParts, Counts}
use Rattle.definition.specs.Carried.{past_on}
use Rattle.definition.specs.Saved.{float, from_bytes, widths, saved_need, numbers_in, section_at, number_at, done_in, diffuse_in, heard_in, news_in, state_in, cov_off_in, mean_off_in}
use Rattle.definition.specs.Stretch.{From, past_in}
use Rattle.laws.specs.Says.{◌or◌, Within}
use Rattle.demands.specs.Conditions.{OutOf, Room, OfLengths, OfReach, OfEntries}

-- 1: as for the filter, but there may be no periods
abbrev pub StretchDimension : Model → Type 0
StretchDimension x = OutOf 8 x.p or OutOf 8 x.m or OutOf 8 x.r or (4096 < x.n)

-- 2: room to save in, too, unless it is the last
pub record RoomToo (x : Model) (last : Bool) (b : CovParts) (b' : MeanParts) (save : List ℕ) : Type 0 where
  pub outputs : Room x b b'
  pub saves : T last or (saved_need x.m ≤ length save)

-- 15: a wrong count or total length; p, m or r other than the call's; done plus stretch above 4096; a tally out of range; a NaN with other bits
abbrev pub WrongCount : List ℕ → List ℕ → Type 0
WrongCount [] bs = ⊥
WrongCount (w ∷ ws) bs = (from_bytes (take 4 bs) ≡ w → ⊥) or WrongCount ws (drop (4 + w * 8) bs)

abbrev pub OtherNan : ℕ → Type 0
OtherNan k = T (is_nan (float k)) × (k ≡ 0x7ff8000000000000 → ⊥)

abbrev pub OtherSizes : ℕ → ℕ → ℕ → ℕ → List (List ℕ) → Type 0
OtherSizes p m r n ns = (number_at ns 0 0 ≡ p → ⊥) or (number_at ns 0 1 ≡ m → ⊥) or (number_at ns 0 2 ≡ r → ⊥) or (4096 < done_in ns + n)

abbrev pub OutOfRange : ℕ → List (List ℕ) → Type 0
OutOfRange p ns =
    (done_in ns < diffuse_in ns) or (done_in ns * p < heard_in ns) or (heard_in ns < news_in ns) or (1 < state_in ns)
    or (done_in ns < cov_off_in ns) or (done_in ns < mean_off_in ns)

abbrev pub SomeOtherNan : List (List ℕ) → Type 0
SomeOtherNan ns =
    Within (section_at ns 1) 0 OtherNan or Within (section_at ns 2) 0 OtherNan or Within (section_at ns 3) 0 OtherNan
    or Within (section_at ns 4) 0 OtherNan or Within (section_at ns 5) 0 OtherNan or Within (section_at ns 6) 0 OtherNan

abbrev pub BadSaved : ℕ → ℕ → ℕ → ℕ → List ℕ → Type 0
BadSaved p m r n bs =
    let ns = numbers_in (widths m) bs in
    (length bs ≡ saved_need m → ⊥) or WrongCount (widths m) bs or OtherSizes p m r n ns or OutOfRange p ns or SomeOtherNan ns

-- and a run that begins is given bytes
abbrev pub BadFrom : Model → From → Type 0
BadFrom x w = (T w.begins × (length w.saved ≡ 0 → ⊥)) or ((T w.begins → ⊥) × BadSaved x.p x.m x.r x.n w.saved)

-- 12: in the last stretch, over the counts since the run began
abbrev pub counted : Model → From → List Float → Counts
counted x w y = (past_on x (past_in x w) (map class_of y)).counts

abbrev pub StretchSilent : Model → From → Bool → List Float → Type 0
StretchSilent x w last y = T last × ((0 < (counted x w y).heard) × ((counted x w y).news ≡ 0))

-- ---- the table: 15 after 11, then the lists' reach, 2 and 14, and 12 at the end

abbrev pub stretch_table : Model → Offsets → From → Bool → List Float → Type 0 → List (ℕ × Type 0)
stretch_table x o w last y Room =
    ((1, StretchDimension x) ∷ []) ++ OfLengths x o y Room ++ OfEntries x o y ++ ((15, BadFrom x w) ∷ []) ++ OfReach x ((past_in x w).done + x.n)
    ++ ((12, StretchSilent x w last y) ∷ [])
