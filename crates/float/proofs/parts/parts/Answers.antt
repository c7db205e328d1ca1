-- The digits and the place of a value, by its bit pattern.
use mathlib.Core.Path.{sym, subst}
use native.Mathlib.Omega.{arith}
use lib.Dec.{T}
use Rattle.float.proofs.Fields.{read, by, parted_low, parted_high, no_nan}
use Rattle.float.proofs.parts.parts.Goals as goal

pub float_to_bits-b : goal.float_to_bits-b
float_to_bits-b c = no_nan c.args.x c.requires

pub overflow_sub-s : goal.overflow_sub-s
overflow_sub-s c = let h = by c.args.x _ (read c.args.x (subst T (sym c.well_formed.0.1) tt) c.requires) c.if-e-eq0.true in omega arith

pub overflow_sub-result : goal.overflow_sub-result
overflow_sub-result c = let h = by c.args.x _ (read c.args.x (subst T (sym c.well_formed.0.1) tt) c.requires) c.if-e-eq0.true in omega arith

pub returns-then-e-eq0 : goal.returns-then-e-eq0
returns-then-e-eq0 c = parted_low c.args.x _ (read c.args.x (subst T (sym c.well_formed.0.1) tt) c.requires) c.if-e-eq0.true

pub overflow_add-result-2 : goal.overflow_add-result-2
overflow_add-result-2 c = let h = (read c.args.x (subst T (sym c.well_formed.0.1) tt) c.requires).sign in omega arith

pub returns : goal.returns
returns c = parted_high c.args.x _ (read c.args.x (subst T (sym c.well_formed.0.1) tt) c.requires) c.if-e-eq0.false
