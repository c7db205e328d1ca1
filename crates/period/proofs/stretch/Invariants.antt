-- The elements from the first of the stretch up to i are done.
use Rattle.acceptance.specs.Views.{fresh_in}
use Rattle.element.specs.Views.{carried_of, Kept, noise_in, fixed_in}
use Rattle.period.specs.Views.{gaps_of}
use Rattle.period.proofs.Along as along
use Rattle.period.proofs.stretch.Given as goal

abbrev pub invariant-loop-i : goal.invariant-loop-i
invariant-loop-i l =
    along.Under l.x.p l.x.m (noise_in l.x) (fixed_in l.x l.initial.s) (gaps_of l.ys) (fresh_in l.sd) l.from l.i (carried_of l.initial.s l.initial.records) (carried_of l.s l.records) × Kept l.initial.s l.s
