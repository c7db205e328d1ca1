-- The first places are 0.
use Rattle.std.proofs.Common.{rules}
use mathlib.Core.Path.{◌≡◌, ap, ◌∙◌}
use Prim.Native.Nat.{◌*◌}
use native.Mathlib.Omega.{arith}
use lib.ListN.{length, replicate, length-replicate}
use lib.Seq.{take-append-le, take_all}
use Rattle.definition.specs.Num.{0ᶠ}
use Rattle.dense.specs.Views.{rect}
use Rattle.dense.proofs.clear.Goals as goal

pub returns : goal.returns
unfolding rect
returns c =
    let k = c.args.m * c.args.m in
    let e : c.fill.new.self ≡ replicate k 0ᶠ = search rules in
    let n : length c.fill.new.self ≡ k = ap length e ∙ length-replicate k 0ᶠ in
    take-append-le k c.fill.new.self _ (omega (arith, n)) ∙ take_all k c.fill.new.self (omega (arith, n)) ∙ e
