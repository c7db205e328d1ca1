-- An entry not yet written is as it was, so its difference is the wanted one.
use native.Mathlib.Omega.{arith}
use mathlib.Core.Path.{◌≡◌, refl, ◌∙◌}
use Rattle.definition.specs.Num.{◌⊖◌, ◌⊗◌}
use Rattle.dense.specs.Views.{vec, mat}
use Rattle.dense.specs.Columns.{less_at, column_less}
use Rattle.dense.proofs.Laws as laws
use Rattle.dense.proofs.sub_column.Goals as goal

pub loop-i-init : goal.loop-i-init
loop-i-init c = (omega arith, laws.column_none _ _ _ _ _ refl)

pub loop-i-preserved : goal.loop-i-preserved
unfolding less_at
loop-i-preserved c =
    let a = c.args in
    let f = laws.column_fresh _ _ _ _ _ _ _ c.loop-i-test.true c.requires.1 c.loop-i.invariant.1 in
    let v : c.get.result ⊖ c.nth.result ⊗ c.nth-bj.result ≡ less_at a.m (mat a.m a.p.now) (vec a.m a.a.now) (vec a.m a.b.now) a.j c.loop-i.i = cc in
    (omega arith, c.put.ensures ∙ laws.column_next _ _ _ _ _ _ _ c.loop-i.invariant.1 v)

pub returns : goal.returns
unfolding column_less
returns c =
    laws.rect-column _ _ _ _ _ _ c.requires.1 (omega (arith, c.told-p, laws.area c.requires.0 c.requires.0)) (laws.column_end _ _ _ _ c.loop-i.invariant.1 c.loop-i.invariant.0 c.loop-i-test.false)
