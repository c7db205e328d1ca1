-- Places and lengths: what an element and a period need of what the pass has.
use mathlib.Core.Path.{◌≡◌, ap, ◌∙◌}
use Prim.Native.Nat.{ℕ, ◌*◌, ◌<◌}
use native.Mathlib.Omega.{arith}
use mathlib.Core.List.{List}
use lib.ListN.{length}
use lib.Ieee.{Float}
use Rattle.definition.specs.Inputs.{part_from}
use Rattle.laws.specs.Flat.{Flat, fewer}
use Rattle.laws.specs.Passes.{block_in}
use Rattle.model.specs.Lists.{length_part}
use Rattle.mean.specs.View.{Period, Periods}

-- period t of n
pub period_in : (z zs : List Float) {design : List Float} {p m n tr trs d y v t : ℕ} {r : Flat} → Periods p m n (length z) (length zs) tr trs d y r → t < n → design ≡ part_from (p * m) z zs t → v ≡ p → Period p m t (length design) d y v r
period_in z zs {p = p} {n = n} {t = t} g h e l =
    let b = block_in t n p h in
    let long = ap length e ∙ length_part z zs t g.design.chosen in
    record { p8 = g.design.p8; m8 = g.design.m8; rows = omega (arith, long); intercepts = g.intercepts; readings = omega (arith, g.readings); vs = l; holds = fewer b g.holds }
