-- The period is begin, elements and step.
use Rattle.dense.specs.Views.{vec, mat}
use Rattle.mean.specs.View.{mean_of}
use Rattle.record.specs.Decisions.{flat_of}
use Rattle.dense.proofs.Laws.{saved_vec}
use Rattle.mean.proofs.Laws as laws
use Rattle.mean.proofs.mean_period.Goals as goal

pub returns : goal.returns
returns c =
    let a = c.args in
    laws.whole a.p a.m a.t (flat_of a.left.now) a.y.now a.design.now a.shift.now.d.now (mean_of a.m a.mean.now) (mat a.m a.tr.now) (vec a.m a.shift.now.c) _ _ _ _ _ _
    (saved_vec _ c.requires.0 c.save.ensures) c.elements.ensures (saved_vec _ c.requires.1.0 c.save-2.ensures) c.mean_step.ensures
