-- Each entry has its product more, so the whole has.
use Prim.Native.Nat.{ℕ}
use lib.Ieee.{Float}
use Rattle.definition.specs.Num.{◌⊕◌, ◌⊗◌, at}
use Rattle.dense.specs.Views.{vec}
use Rattle.dense.specs.Columns.{outer_more_at}
use Rattle.dense.proofs.outer_add.Goals as goal

pub returns : goal.returns
unfolding outer_more_at
returns c = let a = c.args in c.change.ensures (λ (x : Float) (i j : ℕ). x ⊕ at (vec a.m a.a.now) i ⊗ at (vec a.m a.b.now) j) (λ x i j v h k p. cc)
