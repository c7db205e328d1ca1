-- heard counts the readings that are not NaN.
use Rattle.std.specs.Prelude.{◌≡◌, ℕ, ◌+◌, Bool, not, cond, Float}
use Rattle.std.proofs.Math.Path.{refl}
use Rattle.std.proofs.Common.{ap₂}
use mathlib.Core.List.{List, [], ◌∷◌, map}
use Rattle.std.specs.Float.Ieee.{is_nan}
use Rattle.definition.specs.Run.{count}
use Rattle.definition.specs.Cov.{CovPeriod}
use Rattle.definition.specs.Inputs.{class_of, is_gap}
use Rattle.definition.specs.Outcome.{counts_of}
use Rattle.definition.specs.Tracks.{gap_is_nan}

heard_list : (y : List Float) → count not (map is_gap (map class_of y)) ≡ count (λ (v : Float). not (is_nan v)) y
unfolding count
heard_list [] = refl
heard_list (v ∷ y) = ap₂ (λ (g : Bool) (k : ℕ). cond (not g) 1 0 + k) (gap_is_nan v) (heard_list y)

pub heard_is : (cs : List CovPeriod) (y : List Float) → (counts_of cs (map class_of y)).heard ≡ count (λ (v : Float). not (is_nan v)) y
unfolding counts_of
heard_is cs y = heard_list y
