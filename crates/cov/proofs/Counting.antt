-- The counts, as the definition has them: by a test on a list, as the library counts.
use mathlib.Core.Path.{◌≡◌, refl, sym, ap}
use Prim.Native.Nat.{ℕ, ◌+◌}
use mathlib.Core.Bool.{Bool, true, false, not, cond}
use mathlib.Core.List.{List, map}
use mir.Val.{bool_byte}
use lib.Ieee.{Float, nan, inf, fin, is_nan}
use Rattle.std.specs.List.{count_by}
use Rattle.std.proofs.lemmas.List.Recursion.{is_sum_by}
use Rattle.definition.specs.Run.{count}
use Rattle.definition.specs.Inputs.{class_of, is_gap}

pub counted : {A : Type 0} (q : A → Bool) (l : List A) → count_by q l ≡ count q l
unfolding count
counted {A} q l = sym (is_sum_by (count q) (λ (x : A). cond (q x) 1 0) refl (λ x l. refl) l)

-- a reading is heard that is not NaN
heard_is : (x : Float) → not (is_gap (class_of x)) ≡ not (is_nan x)
unfolding class_of is_nan
heard_is nan = refl
heard_is (inf s) = refl
heard_is (fin s m e) = refl

pub heard_lem : (y : List Float) → count_by (λ (x : Float). not (is_nan x)) y ≡ count not (map is_gap (map class_of y))
unfolding count
heard_lem y =
    sym (is_sum_by (λ (y : List Float). count not (map is_gap (map class_of y))) (λ (x : Float). cond (not (is_nan x)) 1 0) refl
    (λ x y. ap (λ (b : Bool). cond b 1 0 + count not (map is_gap (map class_of y))) (heard_is x)) y)

-- one more, where a test holds
pub one_if : (k : ℕ) (b : Bool) → k + bool_byte b ≡ k + cond b 1 0
one_if k true = refl
one_if k false = refl
