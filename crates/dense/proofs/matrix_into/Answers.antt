-- One entry more, one row more, then all of them.
use native.Mathlib.Omega.{arith}
use mathlib.Core.Path.{refl, ◌∙◌}
use Rattle.dense.proofs.Laws as laws
use Rattle.dense.proofs.matrix_into.Goals as goal

pub loop-i-init : goal.loop-i-init
loop-i-init g c = (omega arith, λ f h. laws.grid_none _ _ _ _ refl)

pub loop-j-init : goal.loop-j-init
loop-j-init g c = (omega arith, λ f h. laws.row_none _ _ _ _ refl)

pub loop-j-preserved : goal.loop-j-preserved
loop-j-preserved g c =
    (omega arith, λ f h. c.set_cell.ensures ∙ laws.row_next _ _ _ _ _ _ _ refl (c.loop-j.invariant.1 f h) (h _ _ _ c.loop-i-test.true c.loop-j-test.true c.entry-v.ensures))

pub loop-i-preserved : goal.loop-i-preserved
loop-i-preserved g c =
    (omega arith, λ f h. laws.grid_next f _ _ _ _ _ _ (c.loop-j.invariant.1 f h) (c.loop-i.invariant.1 f h) c.loop-j.invariant.0 c.loop-j-test.false)

pub returns : goal.returns
returns g c =
    λ f h. laws.rect-grid _ _ _ _ _ (omega (arith, c.told-out, laws.area c.requires.size.0 c.requires.size.1)) (laws.grid_end _ _ _ (c.loop-i.invariant.1 f h) c.loop-i.invariant.0 c.loop-i-test.false)
