-- By the test of each row.
use mathlib.Core.Path.{◌∙◌}
use Rattle.std.proofs.Common.{rules}
use Rattle.definition.specs.Num.{ent, is_zero}
use Rattle.star.proofs.Laws as own
use mathlib.Core.Bool.{not}
use lib.Ieee.{ne, eq}
use Rattle.dense.specs.Views.{rect}
use Rattle.star.proofs.loads.Goals as goal

pub returns : goal.returns
unfolding ne eq
returns c =
    let a = c.args in
    c.any.ensures (λ i. not (is_zero (ent a.m (rect a.p a.m a.z.now) i a.j))) (λ i b h q. search rules) ∙ own.loads_any a.m (rect a.p a.m a.z.now) a.j a.p
