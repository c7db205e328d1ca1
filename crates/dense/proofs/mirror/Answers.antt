-- Which of the two entries comes first is no matter: a sum commutes.
use mathlib.Core.Path.{◌≡◌}
use lib.Ieee.{binary64}
use Rattle.definition.specs.Num.{◌⊕◌, ◌⊗◌, half}
use Rattle.laws.specs.Swap.{add_swap}
use Rattle.dense.specs.Views.{mat}
use Rattle.dense.specs.Pairs.{mean_of}
use Rattle.dense.proofs.mirror.Goals as goal

pub returns : goal.returns
unfolding mean_of
returns c =
    let a = c.args in
    let s = add_swap binary64 c.get.result c.get-2.result in
    let v : half ⊗ (c.get.result ⊕ c.get-2.result) ≡ mean_of a.m (mat a.m a.p.now) a.i a.j = cc in
    cc
