-- No pattern in it is a NaN's; the rest is left to the tests in the code.
use Prim.Native.Nat.{◌-◌, ◌/◌}
use native.Mathlib.Omega.{arith}
use Rattle.float.proofs.Units.{no_nan_bits}
use Rattle.float.proofs.Tests.{above_no_nan}
use Rattle.float.proofs.root.guess.Goals as goal

pub float_from_bits-a : goal.float_from_bits-a
float_from_bits-a c = no_nan_bits c.args.b (omega arith)

pub float_from_bits-y : goal.float_from_bits-y
float_from_bits-y c = no_nan_bits (0x5FE6EB50C7B537A9 - c.args.b / 2) (omega arith)

pub float_to_bits-g : goal.float_to_bits-g
float_to_bits-g c = above_no_nan _ c.if-r.true
