-- The pivot so far is the best of the places passed.
use native.Mathlib.Omega.{arith}
use mathlib.Core.Path.{◌≡◌, ap, ◌∙◌}
use Rattle.star.proofs.Laws as own
use Rattle.definition.specs.Star.{pivot_to}
use Rattle.star.proofs.find_pivot.Goals as goal

pub loop-j-init : goal.loop-j-init
loop-j-init c = (omega arith, own.pivot_none _ _ _)

pub loop-j-preserved : goal.loop-j-preserved
loop-j-preserved c = (omega arith, own.pivot_next _ _ _ _ _ _ c.loop-j.invariant.1 c.better-b.ensures)

pub returns : goal.returns
returns c = let e : c.loop-j.j ≡ c.args.k = omega arith in c.loop-j.invariant.1 ∙ ap (pivot_to _ _ _) e
