-- Every NaN has the one pattern.
use mathlib.Core.Path.{sym, ap, subst, ◌∙◌}
use mathlib.Core.Bool.{Bool, not}
use lib.Dec.{T}
use lib.Ieee.{binary64, to_bits}
use Rattle.bits.proofs.Nans.{only}
use Rattle.bits.proofs.pattern.Goals as goal

pub returns-then-is_nan : goal.returns-then-is_nan
unfolding to_bits
returns-then-is_nan c = ap (to_bits binary64) (only c.args.x (sym c.is_nan.ensures ∙ c.if-is_nan.true))

pub float_to_bits-result : goal.float_to_bits-result
float_to_bits-result c = subst (λ (t : Bool). T (not t)) (sym (sym c.is_nan.ensures ∙ c.if-is_nan.false)) tt
