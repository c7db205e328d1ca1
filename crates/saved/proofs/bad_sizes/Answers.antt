-- The sizes by their places. Past 4096 periods done the rest is not looked at, so that the sum fits.
use Prim.Native.Nat.{◌≤◌, ◌<◌}
use native.Mathlib.Omega.{arith}
use Rattle.saved.proofs.Refused as bad
use Rattle.saved.specs.Places.{bytes_at}
use Rattle.saved.proofs.bad_sizes.Goals as goal

pub returns-then-done-gt4096 : goal.returns-then-done-gt4096
returns-then-done-gt4096 c = let h : 4096 < bytes_at 8 28 c.args.saved.now = omega (arith, c.if-done-gt4096.true, c.eight-done.ensures) in bad.sizes_late _ _ _ _ _ h

pub returns : goal.returns
returns c =
    let h : bytes_at 8 28 c.args.saved.now ≤ 4096 = omega (arith, c.if-done-gt4096.false, c.eight-done.ensures) in
    rw (c.eight-done.ensures, c.eight.ensures, c.eight-2.ensures, c.eight-3.ensures) (bad.sizes_are _ _ _ _ _ h)
