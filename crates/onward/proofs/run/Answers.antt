-- The later parts, and the run over them.
use native.Mathlib.Omega.{arith}
use Rattle.onward.proofs.Fits as fits
use Rattle.onward.proofs.run.Goals as goal

pub later-requires : goal.later-requires
later-requires c = fits.of_designs_lem c.requires (omega (arith, c.requires.early))

pub later-requires-2 : goal.later-requires-2
later-requires-2 c = fits.of_steps c.requires (omega (arith, c.requires.early))

pub run-requires : goal.run-requires
run-requires c = rw (c.later.ensures, c.later-2.ensures) (fits.fit_later c.requires _ _)

pub returns : goal.returns
returns c = rw (c.later.ensures, c.later-2.ensures) at c.run.ensures
