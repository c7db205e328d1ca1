-- What R Q R' is worked out of, and what one disturbance adds to it.
use Rattle.std.specs.Prelude.{◌≡◌, ℕ, ◌*◌, ◌≤◌, ◌<◌, false, List, length, Float}
use Rattle.definition.specs.Num.{◌⊕◌, ent}
use Rattle.definition.specs.Refusals.{not_finite, off_diagonal}
use Rattle.laws.specs.Noise.{brought_at}
use Rattle.model.specs.Places.{NoiseFits}

-- column l of a matrix of m rows, at most 8, and r columns
pub record Column (m r l size : ℕ) : Type 0 where
  pub m8 : m ≤ 8
  pub whole : size ≡ m * r
  pub column : l < r

-- R and Q past refusals 1 to 5
pub record NoiseGiven (m r : ℕ) (rr q : List Float) : Type 0 where
  pub fits : NoiseFits m r (length rr) (length q)
  pub finite : not_finite rr ≡ false
  pub diagonal : off_diagonal r q ≡ false

-- entry (i, j) of P with what disturbance l brings, of variance q
unfoldable pub more_at : ℕ → ℕ → List Float → Float → ℕ → List Float → ℕ → ℕ → Float
more_at m r rr q l p i j = ent m p i j ⊕ brought_at r rr q l i j
