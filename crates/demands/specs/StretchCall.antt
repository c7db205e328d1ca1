-- A stretch as the oracle's small ones have it (oracle/FORMAT.md), and the rows that hold the definition to it. It is a call (`Call`), with where it
-- goes on from, whether it is the last, and the part to save in.
use Rattle.std.specs.Prelude.{ℕ, List, [], ◌∷◌, ◌++◌, ltb, replicate}
use Rattle.definition.specs.Computed
use Rattle.definition.specs.Carried
use Rattle.definition.specs.Saved
use Rattle.definition.specs.Stretch
use Rattle.definition.specs.Stretch.{From, stretch_outcome}
use Rattle.demands.specs.Call.{Lent, Call, doubles, model_of, offsets_of, cov_parts, mean_parts, kind_fill, answer_of, writes, left, cov_rows, mean_rows}

-- saved bytes are numbers
pub record Stretched : Type 0 where
  pub call : Call
  pub begins : ℕ
  pub saved : List ℕ
  pub last : ℕ
  pub answer : List ℕ
  pub save : Lent

-- the row of a stretch: its answer, the part to save in, then each output as it is afterwards
abbrev stretch_rows : Stretched → List (List ℕ × List ℕ)
stretch_rows e =
    let k = e.call in
    let w : From = record { begins = ltb 0 e.begins; saved = e.saved } in
    let save = replicate e.save.long kind_fill in
    let o = stretch_outcome (model_of k) (offsets_of k) w (ltb 0 e.last) (doubles k.y) (cov_parts k) (mean_parts k) save in
    let wrote = writes e.answer in
    (answer_of o.cov o.mean, e.answer)
    ∷ (o.save, left wrote kind_fill e.save)
    ∷ cov_rows wrote k o.cov ++ mean_rows wrote k o.mean

abbrev pub agreed : List Stretched → List (List ℕ × List ℕ)
agreed [] = []
agreed (e ∷ es) = stretch_rows e ++ agreed es

-- ---- opened, for theorems by computation: `Computed.opened`, and the definitions of a run in stretches

unfoldable of_carried : Unit {0}
unfolding Carried.begun_past Carried.begun_mean Carried.cov_from Carried.mean_from Carried.plus Carried.past_on Carried.mean_on Carried.mean_off_on Carried.went
of_carried = tt

unfoldable of_saved : Unit {0}
unfolding lib.Ieee.is_nan Saved.bytes_of Saved.from_bytes Saved.section Saved.sections Saved.saved_of Saved.widths Saved.length_of Saved.wrong_count Saved.numbers_in Saved.other_nan Saved.bad_sizes Saved.bad_tallies Saved.bad_floats Saved.bad_saved Saved.loaded_past Saved.loaded_mean
of_saved = tt

unfoldable of_stretch : Unit {0}
unfolding Stretch.past_in Stretch.mean_in Stretch.mean_told_in Stretch.outside_stretch Stretch.bad_from Stretch.stretch_tests Stretch.stretch_refusal Stretch.roomy_stretch Stretch.stretch_ending Stretch.cov_stretch Stretch.mean_stretch Stretch.save_stretch Stretch.stretch_outcome
of_stretch = tt

unfoldable pub opened : Unit {0}
unfolding Computed.opened of_carried of_saved of_stretch
opened = tt
