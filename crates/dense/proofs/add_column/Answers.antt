-- An entry not yet written is as it was, so its sum is the wanted one.
use native.Mathlib.Omega.{arith}
use mathlib.Core.Path.{◌≡◌, refl}
use Rattle.definition.specs.Num.{◌⊕◌, ◌⊗◌, at}
use Rattle.definition.specs.Dense.{mat_vec_term}
use Rattle.dense.specs.Views.{vec, mat}
use Rattle.dense.specs.Columns.{more_at}
use Rattle.dense.proofs.Laws as laws
use Rattle.dense.proofs.add_column.Goals as goal

pub loop-i-init : goal.loop-i-init
loop-i-init c = (omega arith, laws.row_none _ _ _ _ refl)

pub loop-i-preserved : goal.loop-i-preserved
unfolding more_at mat_vec_term
loop-i-preserved c =
    let a = c.args in
    let f = laws.vec_fresh _ _ _ _ _ c.loop-i-test.true c.loop-i.invariant.1 in
    let v : at c.loop-i.out c.loop-i.i ⊕ c.get.result ⊗ c.nth-xj.result ≡ more_at a.m (mat a.m a.a.now) (vec a.m a.x.now) a.j (vec a.m a.out.now) c.loop-i.i = cc in
    (omega arith, laws.vec_next _ _ _ _ _ c.loop-i.invariant.1 v)

pub returns : goal.returns
returns c =
    laws.vec-row _ _ _ _ (omega (arith, c.told-out)) (laws.row_end _ _ _ c.loop-i.invariant.1 c.loop-i.invariant.0 c.loop-i-test.false)
