-- How long the parts are that are looked at.
use Rattle.std.specs.Prelude.{ℕ, ◌+◌, ◌*◌, ◌≤◌}

-- block t of k numbers stands in a part
pub record Block (k t a : ℕ) : Type 0 where
  pub k64 : k ≤ 64
  pub t4096 : t ≤ 4096
  pub inside : t * k + k ≤ a

-- n blocks stand in each of three parts
pub record Blocks (k n done : ℕ) (a b c : ℕ) : Type 0 where
  pub k64 : k ≤ 64
  pub n4096 : n ≤ 4096
  pub done4096 : done ≤ 4096
  pub in_a : n * k ≤ a
  pub in_b : n * k ≤ b
  pub in_c : n * k ≤ c

-- the parts of a pass: n periods, and place n of the predicted moments
pub record CovRooms (diffuse m n done : ℕ) (pc pi fc : ℕ) : Type 0 where
  pub m8 : m ≤ 8
  pub n4096 : n ≤ 4096
  pub done4096 : done ≤ 4096
  pub few : diffuse ≤ n
  pub pred : n * (m * m) + m * m ≤ pc
  pub inf : n * (m * m) ≤ pi
  pub filt : n * (m * m) ≤ fc

pub record MeanRooms (m n done : ℕ) (pm fm : ℕ) : Type 0 where
  pub m8 : m ≤ 8
  pub n4096 : n ≤ 4096
  pub done4096 : done ≤ 4096
  pub pred : n * m + m ≤ pm
  pub filt : n * m ≤ fm
