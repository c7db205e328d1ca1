-- The refusals of a stretch, as a table of conditions on what the caller hands over: it refuses with the number of the first that applies, 15 after
-- 11, then the lists' reach, 2 and 14, and 12 at the end (`refuses`).
use Rattle.std.specs.Prelude.{◌≡◌, ◌↔◌, Bool, true, false, cond, ◌&&◌, T, length, take, drop, Float}
use Rattle.std.proofs.Math.Path.{refl}
use Rattle.std.proofs.Common.{inl, inr, ⊎_elim}
use Prim.Native.Nat.{ℕ, ◌+◌, ◌*◌}
use mathlib.Core.List.{List, [], ◌∷◌, ◌++◌, map}
use Rattle.std.specs.Float.Ieee.{is_nan}
use Rattle.definition.specs.Run.{any_of}
use Rattle.definition.specs.Inputs.{Model, Offsets, class_of, is_infinity}
use Rattle.definition.specs.Outcome.{CovParts, MeanParts, no_information}
use Rattle.definition.specs.Saved.{float, from_bytes, widths, saved_need, wrong_count, numbers_in, section_at, number_at, done_in, diffuse_in, heard_in, news_in, state_in, cov_off_in, mean_off_in, other_nan, bad_sizes, bad_tallies, bad_floats, bad_saved}
use Rattle.definition.specs.Stretch.{From, StretchOutcome, past_in, outside_stretch, bad_from, stretch_tests, stretch_refusal, roomy_stretch, stretch_ending, cov_stretch, stretch_outcome}
use Rattle.laws.specs.Says.{◌or◌, Within, Says, says_itself, says_not, says_and, says_or, says_eq, says_lt, says_within}
use Rattle.demands.specs.Conditions.{First}
use Rattle.demands.specs.Refusals.{Reads, ◌then◌, reads_lengths, reads_reach, first_is, says_out}
use Rattle.demands.specs.StretchConditions.{StretchDimension, RoomToo, WrongCount, OtherNan, BadSaved, BadFrom, counted, StretchSilent, stretch_table}
use Rattle.demands.specs.StretchRefusals.{says_room_too}
use Rattle.demands.proofs.Refusals.{reads_entries}

-- ---- each test says its condition

says_dimension : (x : Model) → Says (outside_stretch x.p x.m x.r x.n) (StretchDimension x)
unfolding outside_stretch
says_dimension x = says_or (says_or (says_or (says_out 8 x.p) (says_out 8 x.m)) (says_out 8 x.r)) (says_lt 4096 x.n)

says_count : (ws bs : List ℕ) → Says (wrong_count ws bs) (WrongCount ws bs)
unfolding wrong_count
says_count [] bs = record { to = λ h. h; from = λ h. h }
says_count (w ∷ ws) bs = says_or (says_not (says_eq (from_bytes (take 4 bs)) w)) (says_count ws (drop (4 + w * 8) bs))

says_nan : (k : ℕ) → Says (other_nan k) (OtherNan k)
unfolding other_nan
says_nan k = says_and (says_itself (is_nan (float k))) (says_not (says_eq k 0x7ff8000000000000))

says_bad : (p m r n : ℕ) (bs : List ℕ) → Says (bad_saved p m r n bs) (BadSaved p m r n bs)
unfolding bad_saved bad_sizes bad_tallies bad_floats
says_bad p m r n bs =
    let ns = numbers_in (widths m) bs in
    let nan : (k : ℕ) → Says (any_of other_nan (section_at ns k)) (Within (section_at ns k) 0 OtherNan) = λ k. says_within says_nan (section_at ns k) 0 in
    let same : (i j : ℕ) → Says _ (number_at ns 0 i ≡ j → ⊥) = λ i j. says_not (says_eq (number_at ns 0 i) j) in
    says_or
    (says_or
    (says_or
    (says_or (says_not (says_eq (length bs) (saved_need m))) (says_count (widths m) bs))
    (says_or (says_or (says_or (same 0 p) (same 1 m)) (same 2 r)) (says_lt 4096 (done_in ns + n))))
    (says_or
    (says_or (says_or (says_or (says_or (says_lt (done_in ns) (diffuse_in ns)) (says_lt (done_in ns * p) (heard_in ns))) (says_lt (heard_in ns) (news_in ns))) (says_lt 1 (state_in ns))) (says_lt (done_in ns) (cov_off_in ns)))
    (says_lt (done_in ns) (mean_off_in ns))))
    (says_or (says_or (says_or (says_or (says_or (nan 1) (nan 2)) (nan 3)) (nan 4)) (nan 5)) (nan 6))

chosen : (c a b : Bool) (P Q : Type 0) → Says a P → Says b Q → Says (cond c a b) ((T c × P) or ((T c → ⊥) × Q))
chosen true a b P Q s r = record { to = λ h. inl (tt, s.to h); from = λ h. ⊎_elim (λ p. s.from p.1) (λ q. absurd (q.0 tt)) h }
chosen false a b P Q s r = record { to = λ h. inr ((λ z. z), r.to h); from = λ h. ⊎_elim (λ p. absurd p.0) (λ q. r.from q.1) h }

says_from : (x : Model) (w : From) → Says (bad_from x w) (BadFrom x w)
unfolding bad_from
says_from x w = chosen w.begins _ _ _ _ (says_not (says_eq (length w.saved) 0)) (says_bad x.p x.m x.r x.n w.saved)

says_silent : (x : Model) (w : From) (last : Bool) (y : List Float) → Says (last && no_information (counted x w y)) (StretchSilent x w last y)
unfolding no_information
says_silent x w last y = says_and (says_itself last) (says_and (says_lt 0 (counted x w y).heard) (says_eq (counted x w y).news 0))

module _ (x : Model) (o : Offsets) (w : From) (final : Bool) (y : List Float) (b : CovParts) (b' : MeanParts) (save : List ℕ) where
  abbrev now : StretchOutcome
  now = stretch_outcome x o w final y b b' save

  abbrev room : Bool
  room = roomy_stretch x final b b' save

  abbrev before : List (ℕ × Bool)
  before = stretch_tests x o (length (map class_of y)) (any_of is_infinity (map class_of y)) room (bad_from x w) (past_in x w).done

  reads : Reads (before ++ ((12, final && no_information (counted x w y)) ∷ [])) (stretch_table x o w final y (RoomToo x final b b' save))
  unfolding stretch_tests
  reads =
      let sizes : Reads ((1, outside_stretch x.p x.m x.r x.n) ∷ []) ((1, StretchDimension x) ∷ []) = record { rows = ((refl, says_dimension x), tt) } in
      let saved : Reads ((15, bad_from x w) ∷ []) ((15, BadFrom x w) ∷ []) = record { rows = ((refl, says_from x w), tt) } in
      let run : Reads ((12, final && no_information (counted x w y)) ∷ []) ((12, StretchSilent x w final y) ∷ []) = record { rows = ((refl, says_silent x w final y), tt) } in
      let lengths = reads_lengths x o y room (RoomToo x final b b' save) (says_room_too x final b b' save) in
      sizes then lengths then reads_entries x o y then saved then reads_reach x ((past_in x w).done + x.n) then run

  pub refuses : (k : ℕ) → (now.cov.refused ≡ k) ↔ First k (stretch_table x o w final y (RoomToo x final b b' save))
  unfolding stretch_outcome cov_stretch stretch_ending stretch_refusal stretch_tests
  refuses = first_is before (final && no_information (counted x w y)) (stretch_table x o w final y (RoomToo x final b b' save)) tt reads
