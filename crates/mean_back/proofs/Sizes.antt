-- Places and lengths on the way back: what an element and a period need of what the pass has.
use mathlib.Core.Path.{◌≡◌, ap, ◌∙◌}
use Prim.Native.Nat.{ℕ, ◌*◌, ◌<◌}
use native.Mathlib.Omega.{arith}
use mathlib.Core.List.{List}
use lib.ListN.{length}
use lib.Ieee.{Float}
use Rattle.definition.specs.Inputs.{part_from}
use Rattle.laws.specs.Flat.{Flat, fewer}
use Rattle.laws.specs.Passes.{block_in}
use Rattle.model.specs.Lists.{length_part}
use Rattle.mean_back.specs.View.{Period, Block, Periods}

module _ {p m n tr trs pm pc pi v : ℕ} {r : Flat} {sm : ℕ} {t : ℕ} (h : t < n) where
  pub block_of : {z zs : ℕ} → Periods p m n z zs tr trs pm pc pi v r sm → Block m t pm pc pi
  block_of g =
      record {
        m8 = g.design.m8;
        t4096 = omega (arith, g.n4096);
        means = omega (arith, block_in t n m h, g.means);
        covs = omega (arith, block_in t n (m * m) h, g.covs);
        infs = omega (arith, block_in t n (m * m) h, g.infs);
      }

  pub period_of_lem : (z zs : List Float) {design : List Float} → Periods p m n (length z) (length zs) tr trs pm pc pi v r sm → design ≡ part_from (p * m) z zs t → Period p m t (length design) v r
  period_of_lem z zs g e =
      let b = block_in t n p h in
      let long = ap length e ∙ length_part z zs t g.design.chosen in
      record { p8 = g.design.p8; m8 = g.design.m8; rows = omega (arith, long); news = omega (arith, g.news); holds = fewer b g.holds }
