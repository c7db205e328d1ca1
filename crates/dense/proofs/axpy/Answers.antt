-- Each entry is y + s x, so the whole is; and a look through it.
use lib.Ieee.{Float}
use Rattle.definition.specs.Num.{◌⊕◌, ◌⊗◌}
use Rattle.definition.specs.Dense.{axpy, axpy_at}
use Rattle.dense.specs.Told.{told}
use Rattle.dense.proofs.axpy.Goals as goal

pub returns : goal.returns
unfolding axpy axpy_at
returns c = told (c.combine.ensures (λ (y x : Float). y ⊕ c.args.s ⊗ x) (λ x y v p. cc)) c.vector_not_finite.ensures
