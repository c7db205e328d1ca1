-- One entry more of each list, then all of them.
use native.Mathlib.Omega.{arith}
use mathlib.Core.Path.{refl, ap, ap₂, ◌∙◌}
use mathlib.Core.Bool.{Bool, not, ◌||◌}
use lib.ListN.{take}
use mathlib.Core.List.{List}
use lib.Ieee.{Float, nan}
use Rattle.definition.specs.Run.{any_of}
use Rattle.definition.specs.Refusals.{unfit}
use Rattle.laws.specs.Any as any
use Rattle.reports.proofs.Steps as steps
use Rattle.reports.proofs.some_off.Goals as goal

pub loop-i-init : goal.loop-i-init
unfolding any_of
loop-i-init c = (omega arith, refl, refl)

pub loop-i-preserved : goal.loop-i-preserved
loop-i-preserved c =
    let w = c.loop-i in
    let x = not c.is_finite.result in
    let y = not c.is_finite-in-loop-i.result in
    let z = not c.is_finite-in-loop-i-2.result in
    let before : List Float → Bool = λ l. any_of unfit (take w.i l) in (
      omega arith,
      w.invariant.1,
      ap (λ (f : Bool). ((f || x) || y) || z) w.invariant.2
          ∙ steps.three_more (before c.args.a.now) (before c.args.b.now) (before c.args.c.now) x y z
          ∙ ap₂ ◌||◌
          (ap₂ ◌||◌
          (any.of_next unfit c.args.a.now w.i nan _ x (omega arith) refl (ap not c.is_finite.ensures))
          (any.of_next unfit c.args.b.now w.i nan _ y (omega (arith, c.requires.0)) refl (ap not c.is_finite-in-loop-i.ensures)))
          (any.of_next unfit c.args.c.now w.i nan _ z (omega (arith, c.requires.1)) refl (ap not c.is_finite-in-loop-i-2.ensures)),
    )

pub returns : goal.returns
returns c =
    let w = c.loop-i in
    w.invariant.2
    ∙ ap₂ ◌||◌
    (ap₂ ◌||◌
    (any.of_end unfit c.args.a.now {k = w.i} refl (omega arith) (omega arith))
    (any.of_end unfit c.args.b.now {k = w.i} refl (omega (arith, c.requires.0)) (omega (arith, c.requires.0))))
    (any.of_end unfit c.args.c.now {k = w.i} refl (omega (arith, c.requires.1)) (omega (arith, c.requires.1)))
