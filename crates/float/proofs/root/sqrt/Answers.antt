-- By what the tests say of x; above zero by its digits and its place.
use native.Mathlib.Omega.{arith}
use Rattle.float.proofs.Units.{no_nan_bits}
use Rattle.float.proofs.Roots.{m_range, r_range, root_bits, at_top, at_zero, at_outside}
use Rattle.float.proofs.Tests.{positive_of, top_of, zero_of, outside_of}
use Rattle.float.proofs.root.sqrt.Goals as goal

pub returns-then-x-2 : goal.returns-then-x-2
returns-then-x-2 c = at_top c.args.x (top_of c.args.x c.if-x-2.true)

pub parts-p-requires : goal.parts-p-requires
parts-p-requires c = positive_of c.args.x c.if-x.true c.if-x-2.false

pub rounded-q-requires : goal.rounded-q-requires
rounded-q-requires c =
    let p = c.parts-p.ensures in
    let d = p.most in
    ((m_range p).0, (m_range p).1, omega arith)

pub overflow_add-result-then-x : goal.overflow_add-result-then-x
overflow_add-result-then-x c = let h = r_range c.parts-p.ensures c.rounded-q.ensures in let j = c.parts-p.ensures.small in omega arith

pub float_from_bits-result : goal.float_from_bits-result
float_from_bits-result c =
    let h = r_range c.parts-p.ensures c.rounded-q.ensures in
    let j = c.parts-p.ensures.small in
    no_nan_bits _ (omega arith)

pub returns-then-x : goal.returns-then-x
returns-then-x c = root_bits c.parts-p.ensures (positive_of c.args.x c.if-x.true c.if-x-2.false) c.rounded-q.ensures

pub returns-then-x-3 : goal.returns-then-x-3
returns-then-x-3 c = at_zero c.args.x (zero_of c.args.x c.if-x-3.true)

pub returns : goal.returns
returns c = at_outside c.args.x (outside_of c.args.x c.if-x.false c.if-x-3.false)
