-- Refusals 1, 2, 3 to 11, 15, and how far the lists reach: each segment by the call that tests it, past those before it.
use mathlib.Core.Path.{◌≡◌, sym}
use mathlib.Core.Bool.{Bool, false, cond, not}
use mathlib.Core.List.{List, [], ◌∷◌}
use Prim.Native.Nat.{ℕ, ◌+◌, ◌≤◌}
use native.Mathlib.Omega.{arith}
use lib.ListN.{length}
use lib.Dec.{eqb}
use Rattle.std.proofs.Common.{rules}
use Rattle.definition.specs.Inputs.{Model}
use Rattle.definition.specs.Refusals.{first_of, of_lengths, of_entries}
use Rattle.definition.specs.Saved.{bad_saved, widths, numbers_in, done_in}
use Rattle.definition.specs.Stretch.{bad_from, outside_stretch, stretch_tests, stretch_refusal}
use Rattle.laws.specs.Numbered.{first_none}
use Rattle.laws.specs.Accepted.{InRange, past_lengths}
use Rattle.laws.specs.AcceptedStretch.{sizes_pass}
use Rattle.promise.specs.Lent.{model_in, offsets_in}
use Rattle.model.proofs.InARow.{refuses, passes}
use Rattle.stretch_checks.proofs.Passed.{state_fits}
use Rattle.stretch_checks.proofs.Passed as passed
use Rattle.stretch_checks.proofs.refusal.Goals as goal

-- ---- what is known past each segment

abbrev first : Model → List (ℕ × Bool)
first x = (1, outside_stretch x.p x.m x.r x.n) ∷ []

sizes : (x : Model) → 0 ≡ first_of (first x) → InRange x.p x.m x.r x.n
sizes x e = sizes_pass x.p x.m x.r x.n (first_none (first x) tt (sym e)).0

-- 15 of a run that begins, or goes on from the bytes in `saved`
abbrev bad : Model → Bool → List ℕ → List (ℕ × Bool)
bad x begins saved = (15, cond begins (not (eqb (length saved) 0)) (bad_saved x.p x.m x.r x.n saved)) ∷ []

good : (x : Model) (begins : Bool) (saved : List ℕ) → 0 ≡ first_of (bad x begins saved) → bad_from x (record { begins = begins; saved = saved }) ≡ false
unfolding bad_from
good x begins saved e = (first_none (bad x begins saved) tt (sym e)).0

early : (x : Model) (begins : Bool) (saved : List ℕ) → InRange x.p x.m x.r x.n → bad_from x (record { begins = begins; saved = saved }) ≡ false → cond begins 0 (done_in (numbers_in (widths x.m) saved)) + x.n ≤ 4096
early x begins saved s g =
    let few = passed.few x begins saved s g in
    omega (arith, passed.done_is x begins saved, few.early)

-- ---- what each call requires

pub rooms-parts-requires : goal.rooms-parts-requires
rooms-parts-requires c = sizes (model_in c.args.x.now) c.in_ok-of_stretch_sizes.ensures

pub room_to_save-requires : goal.room_to_save-requires
room_to_save-requires c = (sizes (model_in c.args.x.now) c.in_ok-of_stretch_sizes.ensures).m8

pub of_lengths-requires : goal.of_lengths-requires
of_lengths-requires c = sizes (model_in c.args.x.now) c.in_ok-of_stretch_sizes.ensures

pub refusal_of_entries-requires : goal.refusal_of_entries-requires
refusal_of_entries-requires c =
    let x = model_in c.args.x.now in
    (sizes x c.in_ok-of_stretch_sizes.ensures, (past_lengths x (offsets_in c.args.o.now) _ _ (sym c.in_ok-of_lengths.ensures)).0)

pub of_saved-requires : goal.of_saved-requires
of_saved-requires c =
    let s = sizes (model_in c.args.x.now) c.in_ok-of_stretch_sizes.ensures in
    (s, state_fits s.m8 c.requires)

pub done_before-done-requires : goal.done_before-done-requires
done_before-done-requires c =
    let a = c.args in
    let x = model_in a.x.now in
    let g = good x a.begins a.saved.now c.in_ok-of_saved.ensures.number in
    ((sizes x c.in_ok-of_stretch_sizes.ensures).m8, λ b. passed.long_enough x a.begins a.saved.now g b)

pub overflow_add-done : goal.overflow_add-done
overflow_add-done c =
    let a = c.args in
    let x = model_in a.x.now in
    let s = sizes x c.in_ok-of_stretch_sizes.ensures in
    let g = good x a.begins a.saved.now c.in_ok-of_saved.ensures.number in
    omega (arith, c.done_before-done.ensures, early x a.begins a.saved.now s g)

pub of_reach-requires : goal.of_reach-requires
of_reach-requires c =
    let s = sizes (model_in c.args.x.now) c.in_ok-of_stretch_sizes.ensures in
    (s.p0, s.p8, s.m0, s.m8)

-- ---- whose number it is: each segment's, past those before it

pub returns-in_err-of_stretch_sizes-clause-number : goal.returns-in_err-of_stretch_sizes-clause-number
unfolding stretch_refusal stretch_tests
returns-in_err-of_stretch_sizes-clause-number c =
    refuses (first (model_in c.args.x.now)) _ tt _ _ c.from_residual.ensures.1 c.in_err-of_stretch_sizes.ensures

pub returns-in_err-of_lengths-clause-number : goal.returns-in_err-of_lengths-clause-number
unfolding stretch_refusal stretch_tests
returns-in_err-of_lengths-clause-number c =
    let x = model_in c.args.x.now in
    rw (← c.rooms-parts.ensures, ← c.room_to_save.ensures)
    (passes (first x) _ tt (search rules)
    (refuses (of_lengths x _ _ _) _ tt _ _ c.from_residual-in_err-of_lengths.ensures.1 c.in_err-of_lengths.ensures))

pub returns-in_err-refusal_of_entries-clause-number : goal.returns-in_err-refusal_of_entries-clause-number
unfolding stretch_refusal stretch_tests
returns-in_err-refusal_of_entries-clause-number c =
    let x = model_in c.args.x.now in
    let o = offsets_in c.args.o.now in
    rw (← c.rooms-parts.ensures, ← c.room_to_save.ensures)
    (passes (first x) _ tt (search rules)
    (passes (of_lengths x o _ _) _ tt (search rules)
    (refuses (of_entries x o _) _ tt _ _ c.from_residual-in_err-refusal_of_entries.ensures.1 c.in_err-refusal_of_entries.ensures.number)))

pub returns-in_err-of_saved-clause-number : goal.returns-in_err-of_saved-clause-number
unfolding stretch_refusal stretch_tests
returns-in_err-of_saved-clause-number c =
    let a = c.args in
    let x = model_in a.x.now in
    let o = offsets_in a.o.now in
    rw (← c.rooms-parts.ensures, ← c.room_to_save.ensures)
    (passes (first x) _ tt (search rules)
    (passes (of_lengths x o _ _) _ tt (search rules)
    (passes (of_entries x o _) _ tt (search rules)
    (refuses (bad x a.begins a.saved.now) _ tt _ _ c.from_residual-in_err-of_saved.ensures.1 c.in_err-of_saved.ensures.number))))

pub returns-clause-number : goal.returns-clause-number
unfolding stretch_refusal stretch_tests
returns-clause-number c =
    let a = c.args in
    let x = model_in a.x.now in
    let o = offsets_in a.o.now in
    rw (← c.rooms-parts.ensures, ← c.room_to_save.ensures, ← c.done_before-done.ensures)
    (passes (first x) _ tt (search rules)
    (passes (of_lengths x o _ _) _ tt (search rules)
    (passes (of_entries x o _) _ tt (search rules) (passes (bad x a.begins a.saved.now) _ tt (search rules) c.of_reach.ensures))))
