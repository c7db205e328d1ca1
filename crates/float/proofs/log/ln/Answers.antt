-- By what the tests say of x; above zero by its digits and its place.
use mathlib.Core.Path.{◌∙◌}
use native.Mathlib.Omega.{arith}
use Rattle.float.proofs.Tests.{positive_of, top_of, zero_of, outside_of}
use Rattle.float.proofs.Units.{no_nan_bits}
use Rattle.float.proofs.Logs.{as_is, halved, at_top, at_zero, at_outside}
use Rattle.float.proofs.log.ln.Goals as goal

pub returns-then-x-2 : goal.returns-then-x-2
returns-then-x-2 c = at_top c.args.x (top_of c.args.x c.if-x-2.true)

pub parts-p-requires : goal.parts-p-requires
parts-p-requires c = positive_of c.args.x c.if-x.true c.if-x-2.false

pub float_from_bits-s : goal.float_from_bits-s
float_from_bits-s c = let p = c.parts-p.ensures.most in no_nan_bits _ (omega arith)

pub log_of-requires : goal.log_of-requires
log_of-requires c = let h = c.parts-p.ensures.small in omega arith

pub returns-then-s : goal.returns-then-s
returns-then-s c =
    c.log_of.ensures ∙ as_is c.parts-p.ensures (positive_of c.args.x c.if-x.true c.if-x-2.false) c.if-s.true

pub log_of-requires-then-x : goal.log_of-requires-then-x
log_of-requires-then-x c = let h = c.parts-p.ensures.small in omega arith

pub returns-then-x : goal.returns-then-x
returns-then-x c =
    c.log_of-then-x.ensures ∙ halved c.parts-p.ensures (positive_of c.args.x c.if-x.true c.if-x-2.false) c.if-s.false

pub returns-then-x-3 : goal.returns-then-x-3
returns-then-x-3 c = at_zero c.args.x (zero_of c.args.x c.if-x-3.true)

pub returns : goal.returns
returns c = at_outside c.args.x (outside_of c.args.x c.if-x.false c.if-x-3.false)
