-- A run that begins: what it has to have, and what it carries.
use Rattle.std.specs.Prelude.{◌≡◌, ℕ, ◌+◌, ◌*◌, ◌≤◌, ◌<◌, List, Float}
use Rattle.definition.specs.Num.{0ᶠ}
use Rattle.definition.specs.Inputs.{start_from}
use Rattle.definition.specs.Carried.{Carried}

pub record Starts (m a1 p_star flags size : ℕ) : Type 0 where
  pub m0 : 0 < m
  pub m8 : m ≤ 8
  pub mean : a1 ≡ m
  pub star : p_star ≡ m * m
  pub flagged : flags ≡ m
  pub room : m + m * m + m * m + m * m + m * m ≤ size

abbrev pub begun_of : ℕ → List Float → List Float → List ℕ → Carried
begun_of m a1 p_star flags =
    record {
      past = record { done = 0; cov = start_from m p_star flags; counts = record { d_diffuse = 0; heard = 0; news = 0 }; cov_off = 0 };
      mean = record { a = a1; loglik = 0ᶠ };
      mean_off = 0;
    }
