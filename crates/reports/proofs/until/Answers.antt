-- By what stands at place n.
use mathlib.Core.Path.{refl, sym}
use Rattle.reports.proofs.until.Goals as goal

pub returns-then-block_off : goal.returns-then-block_off
returns-then-block_off c = rw (sym c.block_off.ensures, c.if-block_off.true) refl

pub returns-else-block_off : goal.returns-else-block_off
returns-else-block_off c = rw (sym c.block_off.ensures, c.if-block_off.false) refl
