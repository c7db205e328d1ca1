-- By the marker.
use mathlib.Core.Path.{refl}
use native.Mathlib.Omega.{arith}
use Rattle.saved.proofs.Refused.{need_is}
use Rattle.stretch.proofs.keep.Goals as goal

pub returns-then-last : goal.returns-then-last
returns-then-last c = rw c.if-last.true refl

pub save-requires : goal.save-requires
save-requires c = let h = c.requires in (h.0, omega (arith, need_is c.args.x.now.m, h.1 c.if-last.false), h.2)

pub returns : goal.returns
returns c = rw c.if-last.false c.save.ensures
