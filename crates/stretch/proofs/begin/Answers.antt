-- The start, laid into the state part by part.
use mathlib.Core.Path.{sym, ap, ◌∙◌}
use Prim.Native.Nat.{ℕ}
use Rattle.dense.specs.Views.{vec}
use Rattle.stretch.proofs.Entered as entered
use Rattle.stretch.proofs.begin.Goals as goal

pub returns : goal.returns
returns c =
    let x = c.args.x.now in
    let a1 = c.args.o.now.a1.now in
    let mean = ap (λ (i : ℕ). vec i c.load-a.result) (sym c.requires.mean) ∙ c.load-a.ensures in
    entered.begun x.m a1 x.p_star.now x.flags.now c.args.state.now c.requires _ _ _ _ c.start.ensures c.keep_cov.ensures mean c.keep_mean.ensures
