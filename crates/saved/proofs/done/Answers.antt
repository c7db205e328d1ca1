-- By its place.
use mathlib.Core.Path.{refl, sym, ◌∙◌}
use native.Mathlib.Omega.{arith}
use Rattle.saved.proofs.Rows as rows
use Rattle.saved.proofs.done.Goals as goal

pub returns : goal.returns
returns c = c.eight.ensures ∙ sym (rows.size_there c.args.m c.args.saved.now 3 28 (omega arith) refl)
