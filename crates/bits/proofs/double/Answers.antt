-- A pattern above the infinities is a NaN.
use mathlib.Core.Path.{sym, ◌∙◌, subst}
use mathlib.Core.Bool.{Bool, not}
use lib.Dec.{T}
use lib.Ieee.{binary64, of_bits}
use lib.Ieee.Bits.{nan_bits_is, nan_bits_above}
use borrow.Author.Tests.{lt-ltb, le-ltb}
use Rattle.bits.proofs.Nans.{only}
use Rattle.bits.proofs.double.Goals as goal

pub returns-then-w-gt9218868437227405312 : goal.returns-then-w-gt9218868437227405312
unfolding of_bits
returns-then-w-gt9218868437227405312 c = only (of_bits binary64 c.args.w) (sym (nan_bits_is binary64 c.args.w) ∙ nan_bits_above binary64 c.args.w ∙ lt-ltb _ _ c.if-w-gt9218868437227405312.true)

pub float_from_bits-result : goal.float_from_bits-result
float_from_bits-result c = subst (λ (t : Bool). T (not t)) (sym (nan_bits_above binary64 c.args.w ∙ le-ltb _ _ c.if-w-gt9218868437227405312.false)) tt
