-- Where the run stands: at its start, or where it was saved.
use mathlib.Core.Path.{◌≡◌, refl, ap, ◌∙◌}
use Prim.Native.Nat.{ℕ, ◌*◌}
use native.Mathlib.Omega.{arith}
use mathlib.Core.Bool.{Bool, true, false, cond}
use mathlib.Core.List.{List, []}
use lib.ListN.{length, take}
use lib.Ieee.{Float}
use borrow.Author.Tests.{ne_eqb}
use Rattle.definition.specs.Num.{0ᶠ}
use Rattle.definition.specs.Cov.{Cov}
use Rattle.definition.specs.Inputs.{Model, Offsets, start_from, start_inf, start_root, start_of}
use Rattle.definition.specs.Carried.{begun_past, begun_mean}
use Rattle.definition.specs.Stretch.{past_in, mean_in, mean_told_in, carried_in}
use Rattle.laws.specs.Lists.{length_tab}
use Rattle.laws.specs.SavedBack.{loaded}
use Rattle.carried.specs.State.{StateFits, cov_in, cov_from, mean_from, cov_kept, mean_kept}
use Rattle.carried.specs.Next.{Whole, some_next, cov_next, mean_next_lem}
use Rattle.saved.specs.Loaded.{carried_of}
use Rattle.stretch.specs.Begun.{Starts, begun_of}

module _ (m : ℕ) (a1 p_star : List Float) (flags : List ℕ) (s : List Float) (h : Starts m (length a1) (length p_star) (length flags) (length s)) where
  abbrev start : Cov
  start = start_from m p_star flags

  fits : StateFits m (length s)
  fits = record { m8 = h.m8; whole = λ some. h.room }

  some : length s ≡ 0 → ⊥
  some e = omega (arith, h.room, h.m0, e)

  whole : Whole m start a1
  unfolding start_from start_inf start_root
  whole = record { mean = h.mean; star = h.star; pinf = length_tab (m * m) 0 _; root = length_tab (m * m) 0 _; unres = length_tab (m * m) 0 _ }

  pub begun : (c : Cov) (a s1 s2 : List Float) → c ≡ start → s1 ≡ cov_kept m s c → a ≡ a1 → s2 ≡ mean_kept m s1 a
      → carried_of m s2 (record { done = 0; live = c.live; answer = record { loglik = 0ᶠ; d_diffuse = 0; heard = 0; news = 0; cov_off = 0; mean_off = 0 } }) ≡ begun_of m a1 p_star flags
  unfolding cov_from mean_from
  begun c a s1 s2 e0 e1 e2 e3 =
      let next : s2 ≡ mean_kept m (cov_kept m s start) a1 = rw (e1, e0, e2) at e3 in
      let n = some_next m s start a1 fits some whole in
      let mean : take m s2 ≡ a1 = ap (take m) next ∙ rw (ne_eqb _ _ n) at (mean_next_lem m s start a1 fits some whole []) in
      let cov : cov_in m s2 c.live ≡ start = rw (next, e0) (rw (ne_eqb _ _ n) at (cov_next m s start a1 fits some whole [] [])) in
      made mean cov
    where
      made : {u : Cov} → take m s2 ≡ a1 → cov_in m s2 c.live ≡ u
          → carried_of m s2 (record { done = 0; live = c.live; answer = record { loglik = 0ᶠ; d_diffuse = 0; heard = 0; news = 0; cov_off = 0; mean_off = 0 } })
          ≡ record { past = record { done = 0; cov = u; counts = record { d_diffuse = 0; heard = 0; news = 0 }; cov_off = 0 }; mean = record { a = a1; loglik = 0ᶠ }; mean_off = 0 }
      made p q = rw (p, q) refl

-- ---- at the start or from the bytes, by the marker

pub stands : (x : Model) (o : Offsets) (begins : Bool) (saved : List ℕ)
    → cond begins (begun_of x.m o.a1 x.p_star x.flags) (loaded x.m saved) ≡ carried_in x o (record { begins = begins; saved = saved })
unfolding past_in mean_in mean_told_in begun_past begun_mean start_of
stands x o true saved = refl
stands x o false saved = refl
