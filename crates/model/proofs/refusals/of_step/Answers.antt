-- By the tests, in their order.
use mathlib.Core.Path.{◌≡◌, refl, sym, ap, ◌∙◌}
use Prim.Native.Nat.{ℕ}
use mathlib.Core.Bool.{Bool}
use lib.ListN.{length}
use mathlib.Core.List.{List}
use lib.Ieee.{Float}
use Rattle.definition.specs.Refusals.{first_of, mixed_driven}
use Rattle.definition.specs.Inputs.{noise}
use Rattle.model.specs.Lists.{length_part}
use Rattle.model.proofs.refusals.of_step.Goals as goal

-- whether the first T drives
driven : (m : ℕ) (flags : List ℕ) {first given : List Float} {b : Bool} → first ≡ given → b ≡ mixed_driven m first flags
    → b ≡ mixed_driven m given flags
driven m flags e h = h ∙ ap (λ (t : List Float). mixed_driven m t flags) e

pub mixed_driven-requires : goal.mixed_driven-requires
mixed_driven-requires c = let s = c.requires.0 in (record { most = s.t.m8; whole = ap length c.part-first.ensures ∙ length_part _ _ 0 s.t.chosen }, s.flags)

pub returns-then-mixed_driven-clause-number : goal.returns-then-mixed_driven-clause-number
unfolding first_of noise
returns-then-mixed_driven-clause-number c = rw (sym (driven _ _ c.part-first.ensures c.mixed_driven.ensures) ∙ c.if-mixed_driven.true) refl

pub returns-then-bad_noise-clause-number : goal.returns-then-bad_noise-clause-number
unfolding first_of noise
returns-then-bad_noise-clause-number c =
    rw (sym (driven _ _ c.part-first.ensures c.mixed_driven.ensures) ∙ c.if-mixed_driven.false, sym c.bad_noise.ensures.0 ∙ c.if-bad_noise.true) refl

pub returns-clause-number : goal.returns-clause-number
unfolding first_of noise
returns-clause-number c =
    rw (sym (driven _ _ c.part-first.ensures c.mixed_driven.ensures) ∙ c.if-mixed_driven.false, sym c.bad_noise.ensures.0 ∙ c.if-bad_noise.false) refl
