-- The numbers passed are flipped, and the others as they were.
use native.Mathlib.Omega.{arith}
use mathlib.Core.Path.{refl}
use Prim.Native.Nat.{◌≤◌}
use lib.ListN.{length, take}
use lib.Seq.{length-take-le}
use Rattle.dense.proofs.Laws as laws
use Rattle.star.proofs.InPlace as place
use Rattle.star.proofs.renumber.Goals as goal

pub loop-x-init : goal.loop-x-init
loop-x-init c = laws.row_none _ _ _ _ refl

pub loop-x-preserved : goal.loop-x-preserved
loop-x-preserved c = place.renumber_next _ _ (take c.args.n c.args.order.now) _ c.loop-x.x-index c.loop-x.invariant c.flip.ensures

pub returns : goal.returns
returns c =
    let h : c.args.n ≤ length c.args.order.now = omega (arith, c.requires.0, c.requires.1) in
    let n = length-take-le c.args.n c.args.order.now h in
    place.renumber_end _ _ _ c.args.order.now c.loop-x.x-items h (laws.row_end _ _ _ c.loop-x.invariant (omega (arith, n)) (omega (arith, n)))
