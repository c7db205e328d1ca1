-- The digits are one more than the power of ten that the number reaches.
use Rattle.std.proofs.Common.{arith}
use native.Mathlib.Nat.{lt_of_lt_of_le}
use lib.Dec.{lit≤}
use Rattle.decimal.proofs.Printing.{places_by}
use Rattle.decimal.proofs.printed.places.Goals as goal

pub returns : goal.returns
returns c =
    let e = c.ilog10.ensures in
    (places_by c.args.n c.max.result c.ilog10.result c.max.ensures e.power_le e.next_power_gt (lt_of_lt_of_le c.ranges.n.fits (lit≤ tt)), omega arith)
