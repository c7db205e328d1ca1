-- The call's three ends are the outcome's.
use mathlib.Core.Path.{◌≡◌, sym, ap, ◌∙◌}
use Prim.Native.Nat.{ℕ}
use mathlib.Core.Bool.{Bool, true}
use mathlib.Core.List.{List, map}
use lib.ListN.{length}
use lib.Ieee.{Float}
use Rattle.std.specs.Prelude.{Err}
use Rattle.definition.specs.Run.{any_of}
use Rattle.definition.specs.Inputs.{Model, Offsets, Class, class_of, is_infinity, noise}
use Rattle.definition.specs.Outcome.{CovParts, MeanParts, Ending, turned, ending, roomy, outcome, outcome_at}
use Rattle.laws.specs.Accepted.{accepted}
use Rattle.dense.specs.Views.{mat}
use Rattle.model.specs.Lengths.{Room, by_room}
use Rattle.forward.specs.View.{Fit, FitOn}
use Rattle.judged.specs.declared.Judged.{Judged}
use Rattle.judged.specs.Went.{Went, told_of}
use Rattle.promise.specs.declared.Refusal.{Refusal}
use Rattle.promise.specs.Refusals.{number}
use Rattle.promise.specs.Calls.{Outcome, Promise}
use Rattle.filter.specs.Ends as ends
use Rattle.filter.specs.Ends.{Checked}

abbrev kinds : List Float → List Class
kinds y = map class_of y

by_fate : (x : Model) (o : Offsets) (y : List Float) (w : CovParts) (w' : MeanParts) (f : Ending) → ending x o (kinds y) (roomy x w w') ≡ f → outcome x o y w w' ≡ ends.End x o y w w' f
unfolding outcome outcome_at
by_fate x o y w w' f e = ap (ends.End x o y w w') e

module _ {x : Model} {o : Offsets} {y : List Float} {w : CovParts} {w' : MeanParts} where
  pub checked : {k : ℕ} {room : Bool} → k ≡ ends.number x o y room → Room x o (length y) (any_of is_infinity (kinds y)) w w' room → Checked x o y w w' k
  checked e h = record { number = e ∙ by_room x o (length y) (any_of is_infinity (kinds y)) w w' h }

  pub refused : {e : Refusal} → Checked x o y w w' (number e) → Promise (outcome x o y w w') (Err e) w w'
  refused {e} h = rw (by_fate x o y w w' (turned (number e)) (ends.is_turned x o y (roomy x w w') e h.number)) (ends.turned_away x o y w w' e)

  module _ (none : Checked x o y w w' 0) where
    fit : Fit x o (length y) w w'
    fit = record { accepted = accepted x o (length y) (any_of is_infinity (kinds y)) (roomy x w w') (sym none.number) }

    -- lent no state, and R Q R' as the checks have left it
    pub fit_begun : {rqr : List Float} → mat x.m rqr ≡ noise x → FitOn x o (length y) rqr w w' 0 0 ends.nothing
    fit_begun q = ends.begun fit q

    pub told : {b : CovParts} {b' : MeanParts} {r : Outcome} → ends.Run x o y w w' r b b' → Promise (outcome x o y w w') r b b'
    told ran = rw (by_fate x o y w w' _ (ends.by_number x o y (roomy x w w') 0 none.number)) ran

-- the run itself
pub run_told : {x : Model} {o : Offsets} {y s s' : List Float} {w b : CovParts} {w' b' : MeanParts} {live : Bool} {g : Judged} {r : Outcome} → length s ≡ 0
    → Went x o y s live 0 ends.nothing true g s' w b w' b' → r ≡ told_of g → ends.Run x o y w w' r b b'
run_told {x} {o} {y} {w = w} {w' = w'} z v q = rw q (ends.ended x o y w w' z v)
