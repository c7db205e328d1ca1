-- An entry not yet written is as it was, so what is made of it is the wanted one.
use native.Mathlib.Omega.{arith}
use mathlib.Core.Path.{refl, ap, ◌∙◌}
use mathlib.Core.List.{List}
use Prim.Native.Nat.{ℕ}
use lib.Ieee.{Float}
use Rattle.definition.specs.Num.{ent}
use Rattle.dense.proofs.Laws as laws
use Rattle.dense.proofs.change.Goals as goal

pub loop-i-init : goal.loop-i-init
loop-i-init g c = (omega arith, λ f h. laws.grid_none _ _ _ _ refl)

pub loop-j-init : goal.loop-j-init
loop-j-init g c = (omega arith, λ f h. laws.row_none _ _ _ _ refl)

pub loop-j-preserved : goal.loop-j-preserved
loop-j-preserved g c = (
  omega arith,
  λ f h.
      let e = c.loop-j.invariant.1 f h in
      let old = c.cell.ensures ∙ laws.row_fresh _ _ _ _ _ _ _ c.loop-i-test.true c.loop-j-test.true e in
      c.set_cell.ensures ∙ laws.row_next _ _ _ _ _ _ _ refl e (h _ _ _ _ c.loop-i-test.true c.loop-j-test.true c.entry-v.ensures ∙ ap (λ (x : Float). f x c.loop-i.i c.loop-j.j) old),
)

pub loop-i-preserved : goal.loop-i-preserved
loop-i-preserved g c = (
  omega arith,
  λ f h.
      laws.in_place_next (λ (q : List Float) (i j : ℕ). f (ent c.args.c q i j) i j) _ _ _ _ _ _ _ c.loop-i-test.true (λ j b e. ap (λ (x : Float). f x c.loop-i.i j) e)
      (c.loop-j.invariant.1 f h) (c.loop-i.invariant.1 f h) c.loop-j.invariant.0 c.loop-j-test.false,
)

pub returns : goal.returns
returns g c =
    λ f h. laws.rect-grid _ _ _ _ _ (omega (arith, c.told-p, laws.area c.requires.size.0 c.requires.size.1)) (laws.grid_end _ _ _ (c.loop-i.invariant.1 f h) c.loop-i.invariant.0 c.loop-i-test.false)
