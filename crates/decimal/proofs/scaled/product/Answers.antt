-- By the halves of m.
use native.Mathlib.Omega.{arith}
use Rattle.decimal.proofs.Scaling.{small_product, product_is}
use Prim.Native.Nat.{◌/◌, ◌%◌, ◌^◌}
use Rattle.decimal.proofs.scaled.product.Goals as goal

pub returns : goal.returns
returns c =
    let h = small_product (c.args.m / 2 ^ 26) (2 ^ 27) c.args.p (omega (arith, c.requires.0)) c.requires.1 in
    let g = small_product (c.args.m % 2 ^ 26) (2 ^ 26) c.args.p (omega arith) c.requires.1 in
    let e = product_is c.args.m c.args.p in
    (omega arith, omega arith, omega arith)
