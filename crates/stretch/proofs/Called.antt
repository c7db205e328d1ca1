-- The call's steps: what each may rely on, and what they come to.
use mathlib.Core.Path.{◌≡◌, sym, ap, subst, ◌∙◌}
use Prim.Native.Nat.{ℕ, ◌+◌, ◌*◌, ◌≤◌}
use native.Mathlib.Omega.{arith}
use mathlib.Core.Bool.{Bool, true, false, ◌&&◌, ◌||◌, not, cond}
use mathlib.Core.List.{List, map}
use lib.ListN.{length}
use lib.Dec.{eqb, leb}
use lib.Ieee.{Float}
use Rattle.std.specs.Prelude.{Err}
use Rattle.definition.specs.Run.{any_of, lay}
use Rattle.definition.specs.Inputs.{Model, Offsets, class_of, is_infinity, noise}
use Rattle.definition.specs.Outcome.{CovParts, MeanParts}
use Rattle.definition.specs.Carried.{Carried}
use Rattle.definition.specs.Saved.{saved_need, bad_saved, saved_of, widths, numbers_in, done_in}
use Rattle.definition.specs.Stretch.{From, past_in, carried_in, bad_from, stretch_refusal, roomy_stretch, stretch_outcome}
use Rattle.laws.specs.Accepted.{InRange, InputsFit, inputs_fit_lem, lengths_pass, Roomy}
use Rattle.laws.specs.AcceptedStretch.{passes, sizes_pass}
use Rattle.laws.specs.SavedBack.{loaded}
use Rattle.dense.specs.Views.{mat}
use Rattle.model.specs.Lengths.{rooms_of, rooms_are}
use Rattle.carried.specs.State.{StateFits}
use Rattle.forward.specs.View.{FitOn}
use Rattle.judged.specs.declared.Judged.{Judged}
use Rattle.judged.specs.Went.{Went, told_of}
use Rattle.carried.specs.declared.Tallies.{Tallies}
use Rattle.saved.specs.Loaded.{LoadedState, carried_of}
use Rattle.promise.specs.declared.Refusal.{Refusal}
use Rattle.promise.specs.Refusals.{number}
use Rattle.promise.specs.Calls.{Outcome, PromiseStretch}
use Rattle.onward.specs.Later.{later_of}
use Rattle.stretch_checks.proofs.Passed.{state_fits, Few}
use Rattle.stretch_checks.proofs.Passed as checks
use Rattle.stretch.specs.Begun.{Starts, begun_of}
use Rattle.stretch.proofs.Entered as entered
use Rattle.stretch.proofs.Stands as stands
use Rattle.stretch.proofs.Passed.{room_to_save, both_given, may_begin}

module _ (x : Model) (o : Offsets) (y : List Float) (begins : Bool) (saved : List ℕ) (last : Bool) (w : CovParts) (w' : MeanParts) (save : List ℕ) where
  abbrev from : From
  from = record { begins = begins; saved = saved }

  -- what `refusal` says of the lengths and the bytes is the definition's number
  abbrev pub Checked : ℕ → Type 0
  Checked k = k ≡ stretch_refusal x o (length y) (any_of is_infinity (map class_of y)) (rooms_of x w w' && (last || leb (saved_need x.m) (length save))) (cond begins (not (eqb (length saved) 0)) (bad_saved x.p x.m x.r x.n saved)) (cond begins 0 (done_in (numbers_in (widths x.m) saved)))

  checked : {k : ℕ} → Checked k → k ≡ stands.number x o y from last w w' save
  unfolding roomy_stretch bad_from
  checked e = e ∙ ap (λ (d : ℕ). stretch_refusal x o (length y) (any_of is_infinity (map class_of y)) (rooms_of x w w' && (last || leb (saved_need x.m) (length save))) (bad_from x from) d) (checks.done_is x begins saved) ∙ ap (λ (u : Bool). stretch_refusal x o (length y) (any_of is_infinity (map class_of y)) (u && (last || leb (saved_need x.m) (length save))) (bad_from x from) (past_in x from).done) (sym (rooms_are x w w'))

  pub refused : {e : Refusal} → Checked (number e) → PromiseStretch (stretch_outcome x o from last y w w' save) (Err e) w w' save
  refused {e} h = stands.refused x o y from last w w' save e (checked h)

  -- ---- past the checks

  module _ (check : Checked 0) where
    zero_is : stands.number x o y from last w w' save ≡ 0
    zero_is = sym (checked check)

    pub sizes : InRange x.p x.m x.r x.n
    sizes = sizes_pass x.p x.m x.r x.n (passes x o _ _ _ _ _ zero_is).sizes

    inputs : InputsFit x o × (length y ≡ x.n * x.p) × (roomy_stretch x last w w' save ≡ true)
    inputs =
        let l = lengths_pass x o _ _ (passes x o _ _ _ _ _ zero_is).lengths in
        (inputs_fit_lem x o l.0, l.1, l.2)

    good : bad_from x from ≡ false
    good = (passes x o _ _ _ _ _ zero_is).saved

    room : Roomy x w w' × (last ≡ false → saved_need x.m ≤ length save)
    room = room_to_save x last w w' save inputs.2

    -- from what the checks have made of the state
    pub may_enter : {state : List Float} → length state ≡ 264 → (begins ≡ false → LoadedState x.m saved state)
        → Starts x.m (length o.a1) (length x.p_star) (length x.flags) (length state) × (begins ≡ false → (length saved ≡ saved_need x.m) × LoadedState x.m saved state)
    may_enter e loads =
        let i = inputs.0 in
        let s = sizes in (
          record { m0 = s.m0; m8 = s.m8; mean = i.a1; star = i.p_star; flagged = i.flags; room = state_fits s.m8 e },
          λ b. (checks.long_enough x begins saved good b, loads b),
        )

    -- where the run stands: t, over the state s
    module _ (s : List Float) (t : Tallies) (here : carried_of x.m s t ≡ cond begins (begun_of x.m o.a1 x.p_star x.flags) (loaded x.m saved)) (long : length s ≡ 264) where
      stood : carried_of x.m s t ≡ carried_in x o from
      stood = here ∙ entered.stands x o begins saved

      few : Few (carried_of x.m s t).past x.n
      few = subst (λ (c : Carried). Few c.past x.n) (sym stood) (checks.few x begins saved sizes good)

      pub early : t.done + x.n ≤ 4096
      early = few.early

      fits : StateFits x.m (length s)
      fits = record { m8 = sizes.m8; whole = λ some. state_fits sizes.m8 long }

      pub may_run : {rqr : List Float} → mat x.m rqr ≡ noise x → FitOn x o (length y) rqr w w' (length s) t.done t.answer
      may_run q =
          may_begin {x = x} {o = o} {y = length y} {w = w} {w' = w'} sizes inputs.0 inputs.1 room.0 t.done q fits (omega (arith, few.early)) (record { diffuse = few.diffuse; heard = few.heard; news = few.news })

      pub may_keep : {size : ℕ} → size ≡ 264 → (x.m ≤ 8) × (last ≡ false → saved_need x.m ≤ length save) × (x.m + x.m * x.m + x.m * x.m + x.m * x.m + x.m * x.m ≤ size)
      may_keep e = (sizes.m8, room.1, state_fits sizes.m8 e)

      pub told : {e : Judged} {s' : List Float} {b : CovParts} {b' : MeanParts} {save' : List ℕ} {r : Outcome}
          → Went (later_of x t.done) o y s t.live t.done t.answer last e s' w b w' b'
          → save' ≡ cond last save (lay (saved_of x.p x.m x.r (carried_of x.m s' (record { done = t.done + x.n; live = e.live; answer = e.answer }))) save)
          → r ≡ told_of e
          → PromiseStretch (stretch_outcome x o from last y w w' save) r b b' save'
      told ran kept said =
          stands.told x o y from last w w' save (checked check) s t (λ z. omega arith) (both_given {x = x} {o = o} {y = length y} {w = w} {w' = w'} sizes inputs.0 inputs.1 room.0) stood fits ran kept said
