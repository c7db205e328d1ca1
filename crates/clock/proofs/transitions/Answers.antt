-- One period more, then all of them.
use Rattle.std.proofs.Common.{◌≡◌, List, cond, sym, ◌∙◌, ap₂, arith}
use lib.Ieee.{Float}
use Rattle.clock.specs.Transition.{transition_of, own_of, in_season}
use Rattle.clock.proofs.Told.{next, all}
use Rattle.clock.proofs.transitions.Goals as goal

pub loop-k-preserved : goal.loop-k-preserved
loop-k-preserved c =
    let w = c.loop-k in
    let s = c.args.s in
    let e : c.copy_from_slice.new.self ≡ cond (in_season s.season w.k) (own_of s) (transition_of s) = c.copy_from_slice.ensures.after
    ∙ c.of_period-t.ensures
    ∙ ap₂ (λ (own before : List Float). cond (in_season s.season w.k) own before) c.own-own.ensures c.transition-before.ensures in
    next s w.list w.k _ (w.auto.list ∙ sym c.requires) (omega arith) e w.invariant

pub returns : goal.returns
returns c = let w = c.loop-k in all c.args.s w.list (w.auto.list ∙ sym c.requires) (λ j h. w.invariant j (omega arith))
