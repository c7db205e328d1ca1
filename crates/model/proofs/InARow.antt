-- Segments of tests in a row, by `?`: it hands back the refusal that it meets.
use mathlib.Core.Path.{◌≡◌, refl, ap, ◌∙◌}
use mathlib.Core.Bool.{Bool}
use mathlib.Core.List.{List, ◌++◌}
use Prim.Native.Nat.{ℕ}
use lib.Dec.{T}
use Rattle.std.specs.Prelude.{Result, Ok, Err}
use Rattle.std.specs.Result.{IsErrAnd}
use Rattle.definition.specs.Refusals.{first_of}
use Rattle.laws.specs.Numbered.{numbered, stops, goes_on}
use Rattle.promise.specs.declared.Refusal.{Refusal}
use Rattle.promise.specs.Refusals.{number}
use Rattle.promise.specs.Calls.{refusal_of}
use Rattle.promise.specs.Numbers as promise

module _ (a b : List (ℕ × Bool)) (h : T (numbered a)) where
  -- the first segment refuses
  pub refuses : {A : Type 0} (r : Result A Refusal) (e : Refusal) → IsErrAnd r (λ k. k ≡ e) → number e ≡ first_of a → refusal_of r ≡ first_of (a ++ b)
  refuses (Ok v) e g f = absurd g
  refuses (Err k) e g f = ap number g ∙ stops a b h f (promise.numbered e)

  -- it passes, and the number is that of those after it
  pub passes : 0 ≡ first_of a → {j : ℕ} → j ≡ first_of b → j ≡ first_of (a ++ b)
  passes f g = goes_on a b h f refl g
