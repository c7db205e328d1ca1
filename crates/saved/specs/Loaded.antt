-- What is carried, as it is lent: a state's numbers in the file's order, and tallies.
use Rattle.std.specs.Prelude.{◌≡◌, ℕ, ◌+◌, ◌*◌, List, map, take, drop, eqb, Float}
use Rattle.definition.specs.Carried.{Past, Carried}
use Rattle.definition.specs.Saved.{float, widths, numbers_in, section_at, number_at, done_in, diffuse_in, heard_in, news_in, state_in, cov_off_in, mean_off_in}
use Rattle.carried.specs.declared.Tallies.{Tallies}

abbrev pub past_of : ℕ → List Float → Tallies → Past
past_of m s t =
    record {
      done = t.done;
      cov =
          record {
            star = take (m * m) (drop m s);
            pinf = take (m * m) (drop (m + m * m) s);
            root = take (m * m) (drop (m + m * m + m * m) s);
            unres = take (m * m) (drop (m + m * m + m * m + m * m) s);
            live = t.live;
          };
      counts = record { d_diffuse = t.answer.d_diffuse; heard = t.answer.heard; news = t.answer.news };
      cov_off = t.answer.cov_off;
    }

abbrev pub carried_of : ℕ → List Float → Tallies → Carried
carried_of m s t = record { past = past_of m s t; mean = record { a = take m s; loglik = t.answer.loglik }; mean_off = t.answer.mean_off }

-- a state's parts, of m and four times q numbers
pub record Parts (m q : ℕ) (a b c d e s : List Float) : Type 0 where
  pub mean : take m s ≡ a
  pub star : take q (drop m s) ≡ b
  pub pinf : take q (drop (m + q) s) ≡ c
  pub root : take q (drop (m + q + q) s) ≡ d
  pub unres : take q (drop (m + q + q + q) s) ≡ e

-- they are the floats of the bytes bs
abbrev pub LoadedState : ℕ → List ℕ → List Float → Type 0
LoadedState m bs s =
    let part : ℕ → List Float = λ k. map float (section_at (numbers_in (widths m) bs) k) in
    Parts m (m * m) (part 1) (part 2) (part 3) (part 4) (part 5) s

pub record LoadedTallies (ns : List (List ℕ)) (t : Tallies) : Type 0 where
  pub done : t.done ≡ done_in ns
  pub live : t.live ≡ eqb (state_in ns) 1
  pub loglik : t.answer.loglik ≡ float (number_at ns 6 0)
  pub diffuse : t.answer.d_diffuse ≡ diffuse_in ns
  pub heard : t.answer.heard ≡ heard_in ns
  pub news : t.answer.news ≡ news_in ns
  pub cov_off : t.answer.cov_off ≡ cov_off_in ns
  pub mean_off : t.answer.mean_off ≡ mean_off_in ns
