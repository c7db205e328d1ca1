-- A matrix that is symmetrised in place, pair by pair: what stands when the pairs before (i, j) are done, in the order of symmetrize_in_place.
use Rattle.std.specs.Prelude.{ℕ, ◌≤◌, ◌<◌, ◌≡◌, List, ◌⊎◌, Float, length}
use Rattle.definition.specs.Num.{◌⊕◌, ◌⊗◌, half, ent}

-- half of the upper entry and the lower
unfoldable pub mean_of : ℕ → List Float → ℕ → ℕ → Float
mean_of m p i j = half ⊗ (ent m p i j ⊕ ent m p j i)

-- of p, all pairs (a, b) with b < j are done, and those with b = j and a < i
pub record Paired (m j i : ℕ) (p out : List Float) : Type 0 where
  pub kept : length out ≡ length p
  pub done : (a b : ℕ) → a < b → b < m → (b < j) ⊎ ((b ≡ j) × (a < i)) → (ent m out a b ≡ mean_of m p a b) × (ent m out b a ≡ mean_of m p a b)
  pub rest : (a b : ℕ) → a < b → b < m → (j < b) ⊎ ((b ≡ j) × (i ≤ a)) → (ent m out a b ≡ ent m p a b) × (ent m out b a ≡ ent m p b a)
  pub diagonal : (a : ℕ) → a < m → ent m out a a ≡ ent m p a a
