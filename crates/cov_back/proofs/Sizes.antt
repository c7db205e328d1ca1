-- Lengths: what a period needs of what the pass has.
use mathlib.Core.Path.{◌≡◌, ap, ◌∙◌}
use Prim.Native.Nat.{ℕ, ◌*◌, ◌<◌}
use native.Mathlib.Nat.{mul_assoc, lt_of_lt_of_le}
use native.Mathlib.Omega.{arith}
use mathlib.Core.List.{List}
use lib.ListN.{length}
use lib.Ieee.{Float}
use Rattle.definition.specs.Inputs.{part_from}
use Rattle.laws.specs.Flat.{Flat, fewer}
use Rattle.laws.specs.Passes.{block_in}
use Rattle.model.specs.Lists.{length_part}
use Rattle.cov_back.specs.View.{Period, Blocks, Ready}

-- period t of n
pub period_in : (z zs : List Float) {design : List Float} {p m n tr trs pc pi t : ℕ} {r : Flat} → Ready p m n (length z) (length zs) tr trs pc pi r → t < n → design ≡ part_from (p * m) z zs t → Period p m t (length design) r
period_in z zs {p = p} {m} {n} {t = t} f h e =
    record {
      p8 = f.design.p8;
      m8 = f.design.m8;
      t4096 = lt_of_lt_of_le h f.n4096;
      rows = omega (arith, ap length e ∙ length_part z zs t f.design.chosen);
      holds = fewer (block_in t n p h) (record { ks = f.ks; fs = f.fs; fi = f.fi; ms = rw mul_assoc f.ms; mi = rw mul_assoc f.mi });
    }

pub blocks_in : {p m n z zs tr trs pc pi t out : ℕ} {r : Flat} → Ready p m n z zs tr trs pc pi r → t < n → out ≡ m * m → Blocks m t pc pi out
blocks_in {m = m} {n} {t = t} f h e =
    record {
      m8 = f.design.m8;
      t4096 = lt_of_lt_of_le h f.n4096;
      pred = omega (arith, block_in t n (m * m) h, f.pred);
      inf = omega (arith, block_in t n (m * m) h, f.inf);
      own = e;
    }
