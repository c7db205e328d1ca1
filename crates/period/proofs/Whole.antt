-- A period put together: equations over plain variables.
use Prim.Native.Nat.{ℕ, ◌*◌}
use mathlib.Core.Path.{◌≡◌, refl}
use mathlib.Core.Bool.{Bool, true, false}
use mathlib.Core.List.{List}
use lib.Ieee.{Float}
use Rattle.definition.specs.Num.{◌>ᶠ◌, rank_tol, zeros}
use Rattle.definition.specs.Dense.{mul, plus, sandwich, symmetrise, frob_sq}
use Rattle.definition.specs.Cov.{Cov, is_live, entered, step_star, step_inf, stepped}

module _ (m : ℕ) (p : List Float) {live : Bool} where
  pub live_yes : {f : Float} → live ≡ true → f ≡ frob_sq m p → (f >ᶠ rank_tol) ≡ is_live m live p
  unfolding is_live
  live_yes e h = rw (e, h)

  pub live_no : live ≡ false → false ≡ is_live m live p
  unfolding is_live
  live_no e = rw e

module _ (m : ℕ) (p : List Float) where
  pub entered_yes : p ≡ entered m true p
  unfolding entered
  entered_yes = refl

  pub entered_no : {q : List Float} → q ≡ zeros (m * m) → q ≡ entered m false p
  unfolding entered
  entered_no e = e

module _ (m : ℕ) (t r p : List Float) {a b c : List Float} where
  pub stepped_star : a ≡ sandwich m t p → b ≡ plus m a r → c ≡ symmetrise m b → c ≡ step_star m t r p
  unfolding step_star
  stepped_star e f g = cc

module _ (m : ℕ) (t p : List Float) {a c : List Float} where
  pub stepped_inf : a ≡ sandwich m t p → c ≡ symmetrise m a → c ≡ step_inf m t p
  unfolding step_inf
  stepped_inf e g = cc

module _ (m : ℕ) (t r s p b u : List Float) {live : Bool} {s' p' : List Float} where
  pub stepped_no : live ≡ false → s' ≡ step_star m t r s → p' ≡ step_inf m t p → ◌≡◌ {A = Cov} (record { star = s'; pinf = p'; root = b; unres = u; live = live }) (stepped m t r live s p b u)
  unfolding stepped
  stepped_no e f g = rw (e, f, g)

module _ (m : ℕ) (t r s p b u : List Float) {live : Bool} {s' p' b' u' : List Float} where
  pub stepped_yes : live ≡ true → s' ≡ step_star m t r s → p' ≡ step_inf m t p → b' ≡ mul m t b → u' ≡ sandwich m t u → ◌≡◌ {A = Cov} (record { star = s'; pinf = p'; root = b'; unres = u'; live = live }) (stepped m t r live s p b u)
  unfolding stepped
  stepped_yes e f g h k = rw (e, f, g, h, k)
