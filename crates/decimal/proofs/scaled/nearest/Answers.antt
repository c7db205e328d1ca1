-- By the place: what is left of the product goes down, or up.
use mathlib.Core.Path.{sym, ap, ◌∙◌}
use Prim.Native.Nat.{ℕ, ◌*◌, ◌^◌, ◌≤◌, min}
use native.Mathlib.Nat.{mul-le-mul}
use native.Mathlib.Omega.{arith}
use Rattle.decimal.proofs.Scaling.{away_lowered, away_raised, kept}
use Rattle.decimal.proofs.scaled.nearest.Goals as goal

pub returns-then-place-lt1048 : goal.returns-then-place-lt1048
returns-then-place-lt1048 c =
    let q = c.product-w in
    let a = c.args in
    kept _ _ (c.lowered.ensures.0 ∙ sym (away_lowered a.m a.p a.place q.result.high q.result.low c.if-place-lt1048.true q.ensures.0 q.ensures.1)) c.lowered.ensures.1

pub raised-requires : goal.raised-requires
raised-requires c =
    let q = c.product-w in
    let l : 2 ^ 52 * 1 ≤ c.args.m * c.args.p = mul-le-mul (c.requires.3 c.if-place-lt1048.false) c.requires.2 in
    (omega (arith, q.ensures.0, q.ensures.1), q.ensures.2, q.ensures.1)

pub returns : goal.returns
returns c =
    let q = c.product-w in
    let a = c.args in
    c.raised.ensures ∙ ap (λ (x : ℕ). min x (10 ^ 18)) (sym (away_raised a.m a.p a.place q.result.high q.result.low c.if-place-lt1048.false q.ensures.0))
