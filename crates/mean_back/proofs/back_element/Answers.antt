-- One element back, by its kind.
use mathlib.Core.Path.{◌∙◌}
use Rattle.record.specs.Decisions.{flat_of}
use Rattle.element_back.proofs.Laws as back
use Rattle.mean_back.proofs.Laws as laws
use Rattle.mean_back.proofs.back_element.Goals as goal

pub returns-in-Skipped : goal.returns-in-Skipped
returns-in-Skipped c = let a = c.args in laws.back_none a.m a.i a.k a.design.now (flat_of a.left.now) a.v.now c.kind_from.ensures _ c.in-Skipped.is

pub returns-in-Usual : goal.returns-in-Usual
returns-in-Usual c =
    let a = c.args in
    laws.back_usual a.m a.i a.k a.design.now (flat_of a.left.now) a.v.now c.kind_from.ensures _ _
    (c.vector_at-z.ensures ∙ back.block_row a.m a.design.now a.i) c.vector_at-ms.ensures
    _ _ _ c.in-Usual.is c.usual_r.ensures

pub returns-in-Diffuse : goal.returns-in-Diffuse
returns-in-Diffuse c =
    let a = c.args in
    laws.back_diffuse a.m a.i a.k a.design.now (flat_of a.left.now) a.v.now c.kind_from.ensures _ _
    (c.vector_at-z-in-Diffuse.ensures ∙ back.block_row a.m a.design.now a.i) c.vector_at-ms-in-Diffuse.ensures _ c.vector_at-mi.ensures
    _ _ c.in-Diffuse.is c.diffuse_r.ensures
