-- Laws of Z's and T's two parts: the part of period t is entry t of the list, and the last one past its end; copies of one are that one throughout.
use Rattle.std.specs.Prelude.{◌≡◌, refl, Bool, ◌||◌, length, get_or, take, drop, replicate, Float}
use Rattle.std.proofs.Common.{sym, ◌∙◌, not-suc-le-zero, le_of_suc-le-suc, mul-div_cancel, mul-pos, arith, take_at, drop_at, drop-drop, eq-eqb, ne_eqb}
use Rattle.std.proofs.Math.Path.{ap}
use Prim.Native.Nat.{ℕ, zero, suc, ◌+◌, ◌-◌, ◌*◌, ◌/◌, ◌≤◌, ◌<◌, min}
use Rattle.std.proofs.Math.Nat.{zero-mul, suc-mul, min-le_right, min-eq_left, min_comm}
use mathlib.Core.List.{List, [], ◌∷◌, ◌++◌}
use Rattle.std.proofs.lemmas.List.{length-replicate, get_or-replicate}
use Rattle.definition.specs.Run.{join, any_of}
use Rattle.definition.specs.Smooth.{back_transition}
use Rattle.definition.specs.Inputs.{Model, part_from, transition_from, system_from, system_of, frame_from, frame_of}
use Rattle.laws.specs.Any.{or_false, or_self, of_append}
use Rattle.laws.specs.Lists.{Each, length-join}

module _ {A : Type 0} where
  pub take-join : (k : ℕ) (ls : List (List A)) (i : ℕ) → Each k ls → i < length ls → take k (drop (i * k) (join ls)) ≡ get_or ls i []
  unfolding join
  take-join k [] i each h = absurd (not-suc-le-zero h)
  take-join k (l ∷ ls) zero each h = rw zero-mul (take_at l (join ls) k each.0)
  take-join k (l ∷ ls) (suc i) each h =
      let e : suc i * k ≡ k + i * k = omega (arith, suc-mul i k) in
      rw e (ap (take k) (sym (drop-drop (i * k) k (l ++ join ls)) ∙ ap (drop (i * k)) (drop_at l (join ls) k each.0)) ∙ take-join k ls i each.1 (le_of_suc-le-suc h))

  pub each_copy : (n k : ℕ) (l : List A) → length l ≡ k → Each k (replicate n l)
  each_copy zero k l e = tt
  each_copy (suc n) k l e = (e, each_copy n k l e)

-- the n-fold list
abbrev pub copies : {A : Type 0} → ℕ → List A → List A
copies n l = join (replicate n l)

pub any_copies : {A : Type 0} (q : A → Bool) (l : List A) (n : ℕ) → any_of q (copies (suc n) l) ≡ any_of q l
unfolding join any_of
any_copies q l zero = of_append q l [] ∙ or_false (any_of q l)
any_copies q l (suc n) = of_append q l (copies (suc n) l) ∙ ap (λ (b : Bool). any_of q l || b) (any_copies q l n) ∙ or_self (any_of q l)

pub length-copies : {A : Type 0} (n k : ℕ) (l : List A) → length l ≡ k → length (copies n l) ≡ n * k
length-copies n k l e = length-join k (replicate n l) (each_copy n k l e) ∙ ap (λ (i : ℕ). i * k) (length-replicate n l)

-- ---- the part of a period

module _ (k : ℕ) (some : 0 < k) (once : List Float) (ls : List (List Float)) (each : Each k ls) (given : 0 < length ls) where
  pub whole : length (join ls) / k ≡ length ls
  whole = ap (λ (n : ℕ). n / k) (length-join k ls each) ∙ mul-div_cancel (length ls) some

  long : 0 < length (join ls)
  long = rw (length-join k ls each) (mul-pos given some)

  -- entry t, and past the list's end its last
  pub part_is : (t : ℕ) → part_from k once (join ls) t ≡ get_or ls (min t (length ls - 1)) []
  unfolding part_from
  part_is t =
      rw (ne_eqb (length (join ls)) 0 (λ e. omega (arith, long)), whole) (take-join k ls (min t (length ls - 1)) each (omega (arith, min-le_right t (length ls - 1))))

  pub entry : (t : ℕ) → t < length ls → part_from k once (join ls) t ≡ get_or ls t []
  entry t h = part_is t ∙ ap (λ (i : ℕ). get_or ls i []) (min-eq_left (omega arith))

  pub last : (t : ℕ) → length ls ≤ t → part_from k once (join ls) t ≡ get_or ls (length ls - 1) []
  last t h = part_is t ∙ ap (λ (i : ℕ). get_or ls i []) (min_comm t (length ls - 1) ∙ min-eq_left (omega arith))

-- copies of one
pub part_of_copies : (k n : ℕ) (once l : List Float) → 0 < k → length l ≡ k → (t : ℕ) → part_from k once (copies (suc n) l) t ≡ l
part_of_copies k n once l some e t =
    let many : length (replicate (suc n) l) ≡ suc n = length-replicate (suc n) l in
    let i = min t (length (replicate (suc n) l) - 1) in
    part_is k some once (replicate (suc n) l) (each_copy (suc n) k l e) (omega arith) t
    ∙ get_or-replicate (suc n) i l [] (omega (arith, min-le_right t (length (replicate (suc n) l) - 1)))

-- ---- without a list the constant one is every period's; and the step back into period t takes the T that led out of it

pub part_once : (k : ℕ) (once list : List Float) (t : ℕ) → length list ≡ 0 → part_from k once list t ≡ once
unfolding part_from
part_once k once list t e = rw (eq-eqb (length list) 0 e) refl

pub led_into : (x : Model) (t : ℕ) → back_transition (frame_of x) (suc t) ≡ (system_of x).transition_at t
unfolding frame_of frame_from system_of system_from
led_into x t = ap (transition_from x.m x.t_once x.t_list) (omega arith)
