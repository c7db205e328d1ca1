-- The states so far are those of the first j on which the design loads.
use native.Mathlib.Omega.{arith}
use mathlib.Core.Path.{refl, sym, ◌∙◌}
use Rattle.star.proofs.Laws as own
use Rattle.star.proofs.find_support.Goals as goal
use Rattle.star.proofs.find_support.Goals.{then-loads, else-loads}

pub loop-j-init : goal.loop-j-init
loop-j-init c = (omega arith, own.found_none _ _ _ _ refl)

pub join-requires : goal.join-requires
join-requires c = omega (arith, c.loop-j.invariant.1.few)

pub loop-j-preserved : goal.loop-j-preserved
loop-j-preserved c =
    let f = c.loop-j.invariant.1 in (
      omega arith,
      elim c.if-loads.branch [
        | then-loads w ↦ rw w.s-is (own.found_more _ _ _ _ _ _ f (sym c.loads.ensures ∙ w.if-loads.true) w.join.ensures)
        | else-loads w ↦ rw w.s-is (own.found_same _ _ _ _ _ f (sym c.loads.ensures ∙ w.if-loads.false))
      ],
    )

pub returns : goal.returns
returns c = own.found_end _ _ _ _ _ c.loop-j.invariant.1 c.loop-j.invariant.0 c.loop-j-test.false
