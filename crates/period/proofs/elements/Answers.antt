-- The first stretch, and what follows it.
use mathlib.Core.Path.{refl}
use Rattle.definition.specs.Cov.{Fixed}
use Rattle.element.specs.Views.{carried_of, noise_in}
use Rattle.period.specs.Views.{Rest, gaps_of}
use Rattle.period.proofs.Along as along
use Rattle.period.proofs.elements.Goals as goal

pub returns-then-at-x-clause-ran : goal.returns-then-at-x-clause-ran
returns-then-at-x-clause-ran c =
    let x = c.args.x.now in
    let w = c.stretch-at in
    along.first_rest _ _ _ _ c.args.ys.now _ _ _ _ _ _ c.requires.1.1 w.ensures.done refl c.if-at-x.true
    (along.still (λ (fix : Fixed). Rest x.p x.m (noise_in x) fix (gaps_of c.args.ys.now) w.result (carried_of w.new.s w.new.records) (carried_of c.rest.new.s c.rest.new.records)) x _ _ w.ensures.kept c.rest.ensures.done)

pub returns-else-at-x-clause-ran : goal.returns-else-at-x-clause-ran
returns-else-at-x-clause-ran c = along.first_all _ _ _ _ c.args.ys.now _ _ _ _ _ c.requires.1.1 c.stretch-at.ensures.done refl c.if-at-x.false
