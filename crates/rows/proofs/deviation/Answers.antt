-- 1.0 / 0.0 is the infinity.
use Rattle.std.proofs.Common.{sym, ◌∙◌}
use lib.Ieee.{div, of_bits}
use Rattle.rows.specs.Rows.{deviation_of}
use Rattle.rows.proofs.deviation.Goals as goal

pub returns-then-open : goal.returns-then-open
unfolding deviation_of div of_bits
returns-then-open c = rw c.if-open.true

pub returns-then-is_nan : goal.returns-then-is_nan
unfolding deviation_of
returns-then-is_nan c = simp (c.if-open.false, sym c.is_nan.ensures ∙ c.if-is_nan.true)

pub returns : goal.returns
unfolding deviation_of
returns c = simp (c.if-open.false, sym c.is_nan.ensures ∙ c.if-is_nan.false) (cc)
