-- The kind that a flat record's numbers tell is that of the decision which the passes read off them.
use Rattle.std.specs.Prelude.{◌≡◌, List, Float, get_or}
use Rattle.std.proofs.Math.Path.{refl}
use Rattle.std.proofs.Common.{ap, subst}
use Prim.Native.Nat.{ℕ, zero, suc}
use Rattle.definition.specs.Num.{at}
use Rattle.definition.specs.Cov as cov
use Rattle.definition.specs.Cov.{Decision, skipped, usual, diffuse}
use Rattle.laws.specs.Flat.{Flat, decision_of, read_back, block_at}
use Rattle.promise.specs.Records.{cause_of, record_of, kind_from, record_at}
use Rattle.promise.specs.declared.Kind.{Kind}
use Rattle.promise.specs.declared.Kind.TheVariants.{Skipped, Usual, Diffuse}

-- the decision d by the kind, where v, M* and M∞ stand beside it
abbrev pub Tells : Kind → Float → List Float → List Float → Decision → Type 0
Tells (Skipped c') v a b d = (c : cov.Cause) × (cause_of c ≡ c') × (d ≡ skipped c)
Tells (Usual x f) v a b d = (v ≡ x) × (d ≡ usual f a)
Tells (Diffuse x f f∞) v a b d = (v ≡ x) × (d ≡ diffuse f f∞ a b)

module _ (v f f∞ : Float) (a b : List Float) where
  by_number : (n : ℕ) → Tells (kind_from n v f f∞) v a b (decision_of n f f∞ a b)
  unfolding kind_from decision_of
  by_number zero = (cov.atGap, refl, refl)
  by_number (suc zero) = (refl, refl)
  by_number (suc (suc zero)) = (refl, refl)
  by_number (suc (suc (suc zero))) = (cov.tooSmall, refl, refl)
  by_number (suc (suc (suc (suc zero)))) = (cov.belowDust, refl, refl)
  by_number (suc (suc (suc (suc (suc n))))) = (cov.failedReplay, refl, refl)

  pub tells : (n : ℕ) {r k : Kind} → r ≡ kind_from n v f f∞ → r ≡ k → Tells k v a b (decision_of n f f∞ a b)
  tells n e g = subst (λ (k : Kind). Tells k v a b (decision_of n f f∞ a b)) g (rw e (by_number n))

-- at place k of the flat parts
pub read : (m : ℕ) (l : Flat) (v : Float) (k : ℕ) {r x : Kind} → r ≡ kind_from (get_or l.kinds k 0) v (at l.f_stars k) (at l.f_infs k) → r ≡ x → Tells x v (block_at m l.m_stars k) (block_at m l.m_infs k) (read_back m l k)
unfolding read_back block_at
read m l v k e g = tells _ _ _ _ _ (get_or l.kinds k 0) e g

-- so the record there is that decision's
of_kind_lem : (k : Kind) (v : Float) (a b : List Float) (d : Decision) → Tells k v a b d → k ≡ (record_of d v).kind
unfolding record_of
of_kind_lem (Skipped c) v a b d t = rw (t.2, t.1)
of_kind_lem (Usual x f) v a b d t = rw (t.1, t.0)
of_kind_lem (Diffuse x f f∞) v a b d t = rw (t.1, t.0)

pub by_read_back : (m : ℕ) (l : Flat) (vs : List Float) (k : ℕ) → record_at l.kinds vs l.f_stars l.f_infs k ≡ record_of (read_back m l k) (at vs k)
unfolding record_at
by_read_back m l vs k = ap (λ (x : Kind). record { kind = x }) (of_kind_lem _ (at vs k) _ _ (read_back m l k) (read m l (at vs k) k refl refl))
