-- Places and lengths: what a period and the loop need of what the pass has.
use mathlib.Core.Path.{◌≡◌, ap, ◌∙◌}
use Prim.Native.Nat.{ℕ, ◌+◌, ◌-◌, ◌*◌, ◌≤◌, ◌<◌}
use native.Mathlib.Omega.{arith}
use mathlib.Core.List.{List}
use lib.ListN.{length, take, drop}
use lib.Ieee.{Float}
use Rattle.definition.specs.Inputs.{part_from}
use Rattle.laws.specs.Backward.{block_long}
use Rattle.laws.specs.Blocks.{part_in}
use Rattle.model.specs.Lists.{length_part}
use Rattle.cov.specs.View.{OfPeriod, Blocks, Periods, Room, Ready, Rooms}

-- the readings have room for block i
pub read_in : (p : ℕ) {i n y : ℕ} → y ≡ n * p → i < n → i * p + p ≤ y
read_in p e h = part_in p h (omega arith) e

-- period i of n
pub period_in : (z zs y : List Float) {design : List Float} {p m n t ts i : ℕ} → Periods p m n (length z) (length zs) t ts (length y) → i < n → design ≡ part_from (p * m) z zs i
    → OfPeriod p m (length design) (length (take (i * p + p - i * p) (drop (i * p) y)))
period_in z zs y {p = p} {i = i} g h e =
    record { p8 = g.design.p8; m8 = g.design.m8; designed = ap length e ∙ length_part z zs i g.design.chosen; readings = block_long i p y (read_in p g.readings h) }

-- blocks that are as long as they were
pub kept : {p m a b d e f g h j a' b' d' e' f' g' h' j' : ℕ} → Blocks p m a b d e f g h j → a' ≡ a → b' ≡ b → d' ≡ d → e' ≡ e → f' ≡ f → g' ≡ g → h' ≡ h → j' ≡ j → Blocks p m a' b' d' e' f' g' h' j'
kept w e1 e2 e3 e4 e5 e6 e7 e8 =
    record {
      pred = e1 ∙ w.pred;
      pred_inf = e2 ∙ w.pred_inf;
      filt = e3 ∙ w.filt;
      records = record { kinds = e4 ∙ w.records.kinds; stars = e5 ∙ w.records.stars; infs = e6 ∙ w.records.infs; m_stars = e7 ∙ w.records.m_stars; m_infs = e8 ∙ w.records.m_infs };
    }

-- the pass's inputs and outputs, for the loop
pub periods : {p m n z zs h t ts p* flags y : ℕ} → Ready p m n z zs h t ts p* flags y → Periods p m n z zs t ts y
periods g = record { n4096 = g.n4096; design = g.design; transition = g.transition; readings = g.readings }

pub rooms : {p m n pc pi fc ks fs fi ms mi : ℕ} → Rooms p m n pc pi fc ks fs fi ms mi → Room p m n pc pi fc ks fs fi ms mi
rooms g =
    record {
      pred = omega (arith, g.pred);
      pred_inf = omega (arith, g.pred_inf);
      filt = g.filt;
      kinds = g.kinds;
      stars = g.stars;
      infs = g.infs;
      m_stars = g.m_stars;
      m_infs = g.m_infs;
    }
