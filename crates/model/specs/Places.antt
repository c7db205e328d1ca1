-- What the functions require of the lengths of the parts that they read.
use Rattle.std.specs.Prelude.{◌≡◌, ℕ, ◌*◌, ◌≤◌, ◌<◌}
use Rattle.model.specs.Lists.{PartFits}

-- a square matrix of at most 8 by 8, with as many numbers as it needs
pub record Square (k size : ℕ) : Type 0 where
  pub most : k ≤ 8
  pub whole : size ≡ k * k

-- a row of it, and an entry
pub record Row (k size i : ℕ) : Type 0 where
  pub most : k ≤ 8
  pub whole : size ≡ k * k
  pub row : i < k

pub record Place (k size i j : ℕ) : Type 0 where
  pub most : k ≤ 8
  pub whole : size ≡ k * k
  pub row : i < k
  pub col : j < k

-- H of p by p and Q of r by r
pub record SystemFits (p r size-h size-q : ℕ) : Type 0 where
  pub h : Square p size-h
  pub q : Square r size-q

-- R of m by r and Q of r by r
pub record NoiseFits (m r size-rr size-q : ℕ) : Type 0 where
  pub m8 : m ≤ 8
  pub r8 : r ≤ 8
  pub rr : size-rr ≡ m * r
  pub q : size-q ≡ r * r

-- P* of m by m, and a flag for each state
pub record StartFits (m size-p* size-flags : ℕ) : Type 0 where
  pub m8 : m ≤ 8
  pub p* : size-p* ≡ m * m
  pub flags : size-flags ≡ m

-- and a1 with them
pub record StartGiven (m size-a1 size-p* size-flags : ℕ) : Type 0 where
  pub p* : Square m size-p*
  pub a1 : size-a1 ≡ m
  pub flags : size-flags ≡ m

-- T, and a flag for each state
pub record StepFits (m once list size-flags : ℕ) : Type 0 where
  pub t : PartFits m m once list
  pub flags : size-flags ≡ m
