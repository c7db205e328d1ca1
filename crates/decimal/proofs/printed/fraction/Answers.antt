-- The digits first, then the point before them.
use native.Mathlib.Omega.{arith}
use Rattle.decimal.proofs.Printing.{point_some, fraction_none, fraction_some}
use Rattle.decimal.proofs.printed.fraction.Goals as goal

pub returns-then-decimals-eq0 : goal.returns-then-decimals-eq0
returns-then-decimals-eq0 c = let a = c.args in fraction_none a.out.now a.from a.decimals a.part c.if-decimals-eq0.true

pub spell-requires : goal.spell-requires
spell-requires c = omega (arith, c.requires, point_some c.args.decimals c.if-decimals-eq0.false)

pub bounds-out-from : goal.bounds-out-from
bounds-out-from c = omega (arith, c.requires, point_some c.args.decimals c.if-decimals-eq0.false, c.spell.ensures.long)

pub returns : goal.returns
returns c =
    let a = c.args in
    fraction_some a.out.now c.spell.new.out a.from a.decimals a.part c.if-decimals-eq0.false (omega (arith, c.requires, point_some a.decimals c.if-decimals-eq0.false)) c.spell.ensures
