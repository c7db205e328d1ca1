-- An entry not yet written is as it was, so its sum is the wanted one.
use native.Mathlib.Omega.{arith}
use mathlib.Core.Path.{◌≡◌, refl}
use Rattle.definition.specs.Num.{◌⊕◌, ◌⊗◌, at}
use Rattle.dense.specs.Views.{vec, mat}
use Rattle.products.specs.Rows.{row_more_at}
use Rattle.dense.proofs.Laws as laws
use Rattle.products.proofs.add_row.Goals as goal

pub loop-j-init : goal.loop-j-init
loop-j-init c = (omega arith, laws.row_none _ _ _ _ refl)

pub loop-j-preserved : goal.loop-j-preserved
unfolding row_more_at
loop-j-preserved c =
    let w = c.loop-j in
    let a = c.args in
    let f = laws.vec_fresh _ _ _ _ _ c.loop-j-test.true w.invariant.1 in
    let v : at w.r w.j ⊕ a.x ⊗ c.get.result ≡ row_more_at a.m a.x (mat a.m a.b.now) a.l (vec a.m a.r.now) w.j = cc in
    (omega arith, laws.vec_next _ _ _ _ _ w.invariant.1 v)

pub returns : goal.returns
returns c = laws.vec-row _ _ _ _ (omega (arith, c.told-r)) (laws.row_end _ _ _ c.loop-j.invariant.1 c.loop-j.invariant.0 c.loop-j-test.false)
