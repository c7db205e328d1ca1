-- One element back, by its kind: the row and the gain vectors are the parts that the definition reads.
use mathlib.Core.Path.{refl}
use Rattle.definition.specs.Smooth.{back_n}
use Rattle.element_back.proofs.Laws as laws
use Rattle.element_back.proofs.back_element.Goals as goal

pub returns-in-Skipped : goal.returns-in-Skipped
unfolding back_n
returns-in-Skipped c = rw c.in-Skipped.is refl

pub returns-in-Usual : goal.returns-in-Usual
returns-in-Usual c =
    let a = c.args in
    rw (c.in-Usual.is, ← laws.block_row a.m a.design.now a.i, ← c.vector_at-z.ensures, ← c.vector_at-ms.ensures) c.back_usual.ensures

pub returns-in-Diffuse : goal.returns-in-Diffuse
returns-in-Diffuse c =
    let a = c.args in
    rw (c.in-Diffuse.is, ← laws.block_row a.m a.design.now a.i, ← c.vector_at-z-in-Diffuse.ensures, ← c.vector_at-ms-in-Diffuse.ensures, ← c.vector_at-mi.ensures) (c.back_diffuse.ensures a.live)
