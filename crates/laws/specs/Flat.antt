-- The flat form read back: the decisions, and what the way back looks at, off the lent lists that a pass wrote.
use Rattle.std.specs.Prelude.{◌≡◌, ℕ, zero, suc, ◌+◌, ◌*◌, ◌≤◌, ◌<◌, List, [], length, get_or, ltb, Float}
use Rattle.std.proofs.Math.Path.{ap}
use Rattle.std.proofs.Common.{◌∙◌, mul-le-mul_right, zero-add, arith}
use Rattle.definition.specs.Num.{tabulate, at}
use Rattle.definition.specs.Cov.{atGap, tooSmall, belowDust, failedReplay, Decision, skipped, usual, diffuse, CovPeriod}
use Rattle.definition.specs.Mean.{MeanPeriod}
use Rattle.laws.specs.Lists.{tab_at, length_tab}

pub record Flat : Type 0 where
  pub kinds : List ℕ
  pub f_stars : List Float
  pub f_infs : List Float
  pub m_stars : List Float
  pub m_infs : List Float

abbrev pub flat_in : List ℕ → List Float → List Float → List Float → List Float → Flat
flat_in k f g a b = record { kinds = k; f_stars = f; f_infs = g; m_stars = a; m_infs = b }

-- room for the records of the places below k, and of fewer
pub record Holds (m k : ℕ) (r : Flat) : Type 0 where
  pub ks : k ≤ length r.kinds
  pub fs : k ≤ length r.f_stars
  pub fi : k ≤ length r.f_infs
  pub ms : k * m ≤ length r.m_stars
  pub mi : k * m ≤ length r.m_infs

pub fewer : {m j k : ℕ} {r : Flat} → j ≤ k → Holds m k r → Holds m j r
fewer {m} h g =
    record {
      ks = omega (arith, g.ks);
      fs = omega (arith, g.fs);
      fi = omega (arith, g.fi);
      ms = omega (arith, g.ms, mul-le-mul_right m h);
      mi = omega (arith, g.mi, mul-le-mul_right m h);
    }

-- no run writes a kind above 5
unfoldable pub decision_of : ℕ → Float → Float → List Float → List Float → Decision
decision_of zero f g a b = skipped atGap
decision_of (suc zero) f g a b = usual f a
decision_of (suc (suc zero)) f g a b = diffuse f g a b
decision_of (suc (suc (suc zero))) f g a b = skipped tooSmall
decision_of (suc (suc (suc (suc zero)))) f g a b = skipped belowDust
decision_of (suc (suc (suc (suc (suc k))))) f g a b = skipped failedReplay

-- where none stands
abbrev pub no_decision : Decision
no_decision = skipped atGap

-- the record at place k of the flat lists; the p of period t; and those of n periods
unfoldable pub read_back : ℕ → Flat → ℕ → Decision
read_back m r k =
    decision_of (get_or r.kinds k 0) (at r.f_stars k) (at r.f_infs k) (tabulate m (λ j. at r.m_stars (k * m + j))) (tabulate m (λ j. at r.m_infs (k * m + j)))

unfoldable pub decisions_at : ℕ → ℕ → Flat → ℕ → List Decision
decisions_at p m r t = tabulate p (λ i. read_back m r (t * p + i))

module _ (p m t : ℕ) (r : Flat) where
  pub decisions_long : length (decisions_at p m r t) ≡ p
  unfolding decisions_at
  decisions_long = length_tab p 0 (λ i. read_back m r (t * p + i))

  pub decision_at : (i : ℕ) → i < p → get_or (decisions_at p m r t) i no_decision ≡ read_back m r (t * p + i)
  unfolding decisions_at
  decision_at i h = tab_at p 0 i (λ i. read_back m r (t * p + i)) no_decision h ∙ ap (λ (j : ℕ). read_back m r (t * p + j)) (zero-add i)

unfoldable pub decision_rows : ℕ → ℕ → ℕ → Flat → List (List Decision)
decision_rows n p m r = tabulate n (decisions_at p m r)

-- ---- the way back: a block of a part, and what stands in the parts of period t. It is diffuse where t is below the count of diffuse periods. The
-- filtered moments are not looked at, and stand empty
unfoldable pub block_at : ℕ → List Float → ℕ → List Float
block_at k l t = tabulate k (λ j. at l (t * k + j))

unfoldable pub look_of : CovPeriod → CovPeriod
look_of c = record { diffuse = c.diffuse; pred = c.pred; pred_inf = c.pred_inf; decisions = c.decisions; filt = [] }

unfoldable pub mean_look_of : MeanPeriod → MeanPeriod
mean_look_of s = record { pred = s.pred; vs = s.vs; filt = [] }

unfoldable pub look_at : ℕ → ℕ → ℕ → List Float → List Float → Flat → ℕ → CovPeriod
look_at p m dd pc pi r t = record { diffuse = ltb t dd; pred = block_at (m * m) pc t; pred_inf = block_at (m * m) pi t; decisions = decisions_at p m r t; filt = [] }

unfoldable pub looks : ℕ → ℕ → ℕ → ℕ → List Float → List Float → Flat → List CovPeriod
looks n p m dd pc pi r = tabulate n (look_at p m dd pc pi r)

-- and of its means: the predicted one and the innovations
unfoldable pub mean_look_at : ℕ → ℕ → List Float → List Float → ℕ → MeanPeriod
mean_look_at p m pm vs t = record { pred = block_at m pm t; vs = block_at p vs t; filt = [] }

unfoldable pub mean_looks : ℕ → ℕ → ℕ → List Float → List Float → List MeanPeriod
mean_looks n p m pm vs = tabulate n (mean_look_at p m pm vs)
