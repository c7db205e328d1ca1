-- The tallies by their places.
use Prim.Native.Nat.{◌≤◌}
use native.Mathlib.Nat.{mul-le-mul}
use native.Mathlib.Omega.{arith}
use Rattle.saved.proofs.Refused.{tallies_are}
use Rattle.saved.proofs.bad_tallies.Goals as goal

pub overflow_mul-result : goal.overflow_mul-result
overflow_mul-result c =
    let h : c.eight-done.result ≤ 4096 = omega (arith, c.eight-done.ensures, c.requires.3) in
    omega (arith, mul-le-mul {n₁ = c.eight-done.result} {m₁ = c.args.p} {n₂ = 4096} {m₂ = 8} h c.requires.0)

pub returns : goal.returns
returns c =
    rw (c.eight-done.ensures, c.eight-heard.ensures, c.eight.ensures, c.eight-2.ensures, c.eight-3.ensures, c.eight-4.ensures, c.eight-5.ensures)
    (tallies_are c.places_of-at.ensures c.args.saved.now c.args.p)
