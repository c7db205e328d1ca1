-- By what `spell` leaves.
use native.Mathlib.Omega.{arith}
use Rattle.decimal.proofs.Printing.{plain_by}
use Rattle.decimal.proofs.printed.plain.Goals as goal

pub returns : goal.returns
returns c =
    let a = c.args in
    (plain_by a.at c.places-k.result a.n a.out.now c.spell.new.out (omega arith) c.places-k.ensures.0 c.spell.ensures, omega (arith, c.places-k.ensures.1))
