-- One for a minus.
use Rattle.std.proofs.Common.{◌≡◌, ◌≤◌, Bool, true, false, refl, ◌∙◌, arith}
use mir.Val.{bool_byte}
use Rattle.decimal.specs.Printed.{sign_width}
use Rattle.decimal.proofs.printed.sign_width.Goals as goal

one : (minus : Bool) → (bool_byte minus ≡ sign_width minus) × (sign_width minus ≤ 1)
unfolding sign_width
one true = (refl, omega arith)
one false = (refl, omega arith)

pub returns : goal.returns
returns c = let h = one c.args.minus in (c.from.ensures ∙ h.0, omega (arith, c.from.ensures))
