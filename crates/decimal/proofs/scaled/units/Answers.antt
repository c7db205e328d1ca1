-- By the fields of the bit pattern.
use mathlib.Core.Path.{◌≡◌, sym, ◌∙◌, subst}
use mathlib.Core.Bool.{Bool, not}
use Prim.Native.Nat.{◌/◌, ◌%◌, ◌^◌}
use lib.Dec.{T, leb}
use lib.Ieee.{Float, fits, binary64, of_fields, to_bits}
use lib.Ieee.Bits.{of_bits-to_bits}
use Rattle.decimal.proofs.Scaling.{fields, at_top, at_bottom, between, units_nan, sized_by}
use Rattle.decimal.proofs.scaled.units.Goals as goal

held : (x : Float) → T (fits binary64 x) → of_fields binary64 (leb (2 ^ 63) (to_bits binary64 x)) (to_bits binary64 x % 2 ^ 63 / 2 ^ 52) (to_bits binary64 x % 2 ^ 52) ≡ x
held x f = sym (fields (to_bits binary64 x)) ∙ of_bits-to_bits binary64 x f

pub returns-then-is_nan : goal.returns-then-is_nan
returns-then-is_nan c = let a = c.args in sym (units_nan a.decimals a.x (sym c.is_nan.ensures ∙ c.if-is_nan.true))

pub float_to_bits-b : goal.float_to_bits-b
float_to_bits-b c = subst (λ (t : Bool). T (not t)) (sym (sym c.is_nan.ensures ∙ c.if-is_nan.false)) tt

pub returns-then-e-eq2047 : goal.returns-then-e-eq2047
returns-then-e-eq2047 c =
    sym (at_top c.args.decimals c.args.x _ _ _ c.if-e-eq2047.true (sym c.is_nan.ensures ∙ c.if-is_nan.false) (held c.args.x (subst T (sym c.well_formed.0.1) tt)))

pub returns-then-e-eq0 : goal.returns-then-e-eq0
returns-then-e-eq0 c =
    c.sized.ensures
    ∙ sized_by _ _ c.ten_to-p.result c.nearest.result c.args.decimals c.ten_to-p.ensures.0 c.nearest.ensures
    ∙ sym (at_bottom c.args.decimals c.args.x _ _ _ c.if-e-eq0.true (held c.args.x (subst T (sym c.well_formed.0.1) tt)))

pub returns : goal.returns
returns c =
    c.sized-2.ensures
    ∙ sized_by _ _ c.ten_to-p.result c.nearest-2.result c.args.decimals c.ten_to-p.ensures.0 c.nearest-2.ensures
    ∙ sym (between c.args.decimals c.args.x _ _ _ c.if-e-eq0.false c.if-e-eq2047.false (held c.args.x (subst T (sym c.well_formed.0.1) tt)))
