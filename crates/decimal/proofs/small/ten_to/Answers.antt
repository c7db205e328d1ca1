-- A power of ten up to the sixth.
use Rattle.std.proofs.Common.{ℕ, ◌≡◌, ◌≤◌, ◌^◌, ap, ◌∙◌, arith}
use native.Mathlib.Nat.{pow-le-pow_right, zero-lt-suc}
use Rattle.std.proofs.Math.Nat.{one-le-pow}
use Rattle.decimal.proofs.small.ten_to.Goals as goal

pub returns : goal.returns
returns c =
    let d = c.args.d in
    let most : 10 ^ d ≤ 10 ^ 6 = pow-le-pow_right (zero-lt-suc 9) {i = d} {j = 6} c.requires in
    let least : 1 ≤ 10 ^ d = one-le-pow d 10 (zero-lt-suc 9) in
    let e : c.pow.result ≡ 10 ^ d = c.pow.ensures ∙ ap (λ (x : ℕ). 10 ^ x) c.from.ensures in
    (e, omega arith, omega arith)
