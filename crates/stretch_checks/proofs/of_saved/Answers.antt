-- By the marker and the tests.
use mathlib.Core.Path.{refl}
use borrow.Author.Tests.{eq-eqb, ne_eqb}
use Rattle.definition.specs.Refusals.{first_of}
use Rattle.stretch_checks.proofs.of_saved.Goals as goal

pub load-requires : goal.load-requires
load-requires c = (c.requires.0.p8, c.requires.0.m8, c.requires.1)

pub returns-then-not-begins-clause-number : goal.returns-then-not-begins-clause-number
returns-then-not-begins-clause-number c = rw c.if-not-begins.true c.load.ensures.number

pub returns-then-saved-ne0-clause-number : goal.returns-then-saved-ne0-clause-number
unfolding first_of
returns-then-saved-ne0-clause-number c = rw (c.if-not-begins.false, ne_eqb _ _ c.if-saved-ne0.true) refl

pub returns-clause-number : goal.returns-clause-number
unfolding first_of
returns-clause-number c = rw (c.if-not-begins.false, eq-eqb _ _ c.if-saved-ne0.false) refl
