-- The entry on the diagonal, and off it.
use mathlib.Core.Path.{refl}
use borrow.Author.Tests.{eq-eqb, ne_eqb}
use Rattle.definition.specs.Smooth.{l_zero_at}
use Rattle.element_back.proofs.l_zero_at.Goals as goal

pub returns-then-i-j : goal.returns-then-i-j
unfolding l_zero_at
returns-then-i-j c = rw (c.nth.ensures, c.nth-2.ensures, eq-eqb _ _ c.if-i-j.true) refl

pub returns-else-i-j : goal.returns-else-i-j
unfolding l_zero_at
returns-else-i-j c = rw (c.nth.ensures, c.nth-2.ensures, ne_eqb _ _ c.if-i-j.false) refl
