-- An entry of the transpose is one of the matrix.
use mathlib.Core.Path.{sym, ◌∙◌}
use Rattle.dense.specs.Views.{rect}
use Rattle.laws.specs.Transposes.{transpose_at_lem}
use Rattle.products.proofs.TurnedSeen.at.Goals as goal

pub returns : goal.returns
returns c = let a = c.args in c.cell.ensures ∙ sym (transpose_at_lem a.c a.r a.i a.j (rect a.c a.r a.a.now) c.requires.row c.requires.column)
