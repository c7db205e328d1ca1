-- The row is copied behind the others.
use mathlib.Core.Path.{◌≡◌, ap, ◌∙◌}
use mathlib.Core.List.{◌++◌}
use Prim.Native.Nat.{◌+◌, ◌*◌, ◌≤◌}
use native.Mathlib.Omega.{arith}
use native.Mathlib.Nat.{mul-le-mul}
use lib.ListN.{length, take}
use lib.Seq.{length-take-le}
use Rattle.std.proofs.lemmas.Slice.{take-put_mid}
use Rattle.dense.specs.Views.{vec, rect}
use Rattle.dense.proofs.put_row.Goals as goal

pub returns : goal.returns
unfolding vec rect
returns c =
    let a = c.args in
    let e = c.copy_from_slice.ensures.after in
    let n : length c.copy_from_slice.new.self ≡ a.c = ap length e ∙ length-take-le a.c a.x.now (omega (arith, c.told-x, c.requires.1)) in
    let b : (a.i + 1) * a.c ≤ 64 = mul-le-mul {n₁ = a.i + 1} {m₁ = a.c} {n₂ = 8} {m₂ = 8} (omega arith) c.requires.1 in
    take-put_mid (a.i * a.c) _ a.a.now _ ((a.i + 1) * a.c) (omega (arith, n)) (omega (arith, b, c.told-a)) ∙ ap (λ (l : _). take (a.i * a.c) a.a.now ++ l) e
