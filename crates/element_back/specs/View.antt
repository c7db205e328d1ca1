-- The code's arrays as the definition's state of the covariances' way back, and what was decided of an element as its kind tells it.
use Rattle.std.specs.Prelude.{◌≡◌, refl, ℕ, zero, suc, ◌+◌, ◌*◌, ◌≤◌, List, Float}
use Rattle.definition.specs.Cov.{Decision, skipped, usual, diffuse}
use Rattle.definition.specs.Smooth.{Ns}
use Rattle.laws.specs.Flat.{decision_of}
use Rattle.dense.specs.Views.{vec, mat}
use Rattle.promise.specs.declared.Kind.{Kind}
use Rattle.promise.specs.declared.Kind.TheVariants.{Skipped, Usual, Diffuse}
use Rattle.promise.specs.Records.{cause_in, kind_from}
use Rattle.element_back.specs.declared.Sums.{Sums}
use Rattle.element_back.specs.declared.Gains.{Gains}

abbrev pub ns_in : ℕ → List Float → List Float → List Float → Ns
ns_in m n0 n1 n2 = record { n0 = mat m n0; n1 = mat m n1; n2 = mat m n2 }

abbrev pub ns_of : ℕ → Sums → Ns
ns_of m s = ns_in m s.n0 s.n1 s.n2

-- ---- an element, by its kind

-- its row of the design, and its M* and M∞ at place k
pub record Placed (m i k design ms mi : ℕ) : Type 0 where
  pub m8 : m ≤ 8
  pub row : i * m + m ≤ design
  pub stars : k * m + m ≤ ms
  pub infs : k * m + m ≤ mi

-- what was decided, where M* and M∞ stand beside the kind
abbrev pub decided : Kind → List Float → List Float → Decision
decided (Skipped c) a b = skipped (cause_in c)
decided (Usual v f) a b = usual f a
decided (Diffuse v f f∞) a b = diffuse f f∞ a b

-- the same of a diffuse one, loaded
abbrev pub diffuse_by : ℕ → Gains → Decision
diffuse_by m g = diffuse g.f g.f_inf (vec m g.m_star.now) (vec m g.m_inf.now)

-- the kind that the flat parts' number tells, with whatever v: what the passes read off that number
pub decided_from : (n : ℕ) (v f f∞ : Float) (a b : List Float) → decided (kind_from n v f f∞) a b ≡ decision_of n f f∞ a b
unfolding kind_from decision_of
decided_from zero v f f∞ a b = refl
decided_from (suc zero) v f f∞ a b = refl
decided_from (suc (suc zero)) v f f∞ a b = refl
decided_from (suc (suc (suc zero))) v f f∞ a b = refl
decided_from (suc (suc (suc (suc zero)))) v f f∞ a b = refl
decided_from (suc (suc (suc (suc (suc n))))) v f f∞ a b = refl
