-- A block that is off is told, one that is not is passed; after the last there is none.
use mathlib.Core.Path.{sym, ◌∙◌}
use native.Mathlib.Omega.{arith}
use Rattle.laws.specs.Told.{off_at}
use Rattle.reports.proofs.Steps as steps
use Rattle.reports.proofs.first_off.Goals as goal

pub loop-t-init : goal.loop-t-init
loop-t-init c = let a = c.args in (omega arith, steps.all a.done a.n (off_at a.k a.a.now a.b.now a.c.now))

pub off_at-requires : goal.off_at-requires
off_at-requires c = steps.inside c.requires (omega arith)

pub overflow_add-result : goal.overflow_add-result
overflow_add-result c = omega (arith, c.requires.n4096, c.requires.done4096)

pub overflow_add-result-then-off_at : goal.overflow_add-result-then-off_at
overflow_add-result-then-off_at c = omega (arith, c.requires.n4096, c.requires.done4096)

pub returns-then-off_at : goal.returns-then-off_at
returns-then-off_at c =
    let a = c.args in
    let w = c.loop-t in
    sym (w.invariant.1 ∙ steps.here a.done a.n (off_at a.k a.a.now a.b.now a.c.now) w.t (omega arith) (sym c.off_at.ensures ∙ c.if-off_at.true))

pub overflow_step-t : goal.overflow_step-t
overflow_step-t c = omega (arith, c.requires.n4096)

pub loop-t-preserved : goal.loop-t-preserved
loop-t-preserved c =
    let a = c.args in
    let w = c.loop-t in
    (omega arith, w.invariant.1 ∙ steps.later a.done a.n (off_at a.k a.a.now a.b.now a.c.now) w.t (omega arith) (sym c.off_at.ensures ∙ c.if-off_at.false))

pub returns : goal.returns
returns c =
    let a = c.args in
    let w = c.loop-t in
    sym (w.invariant.1 ∙ steps.none a.done a.n (off_at a.k a.a.now a.b.now a.c.now) w.t (omega arith))
