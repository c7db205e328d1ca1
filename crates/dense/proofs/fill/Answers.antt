-- All places are copied, so the part stands first.
use mathlib.Core.Path.{◌≡◌, ap, ◌∙◌}
use native.Mathlib.Omega.{arith}
use lib.ListN.{length, take}
use lib.Seq.{take_all}
use Rattle.dense.specs.Views.{vec}
use Rattle.dense.proofs.fill.Goals as goal

pub returns : goal.returns
unfolding vec
returns g c =
    let s = c.args.s.now in
    let w = c.loop-i in
    let e : w.i ≡ length s = omega (arith, w.invariant.0, c.loop-i-test.false) in
    (rw e at w.invariant.2) ∙ take_all (length s) s (omega arith)
