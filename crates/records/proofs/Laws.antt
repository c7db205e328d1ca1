-- Laws of the calls with a list: n·p, how many records there are to tell, and what the list's room does for the refusal.
use mathlib.Core.Path.{◌≡◌, refl, sym, ap, subst, ◌∙◌}
use Prim.Native.Nat.{ℕ, ◌*◌, ◌≤◌, ◌<◌, ◌^◌}
use native.Mathlib.Omega.{arith}
use native.Mathlib.Nat.{mul-le-mul}
use mathlib.Core.Bool.{Bool, true, false, not, ◌&&◌, and-true, and-false, cond}
use mathlib.Core.List.{List, map}
use lib.ListN.{length}
use lib.Dec.{leb, ltb, eqb}
use lib.Ieee.{Float}
use Rattle.std.specs.Prelude.{Ok, Err}
use borrow.Author.Tests.{not-true, ltb-true, ltb-false, lt-ltb, le-ltb, lt-leb, le-leb, ne_eqb}
use Rattle.definition.specs.Run.{any_of}
use Rattle.definition.specs.Inputs.{Model, Offsets, class_of, is_infinity}
use Rattle.definition.specs.Refusals.{outside, bad_length, refusal, tests, first_of}
use Rattle.definition.specs.Outcome.{CovParts, MeanParts, CovOutcome, MeanOutcome, SmoothedCov, SmoothedMean, Ending, kinds_need, roomy, roomy_smoothed, ending, after, cov_outcome, mean_outcome, outcome, outcome_at, smoothed_cov, smoothed_mean, smooth_outcome, smooth_outcome_at}
use Rattle.laws.specs.Any.{both_true}
use Rattle.model.specs.Lengths.{rooms_are, rooms_smoothed_are, by_room, by_room_smoothed}
use Rattle.promise.specs.declared.Refusal.TheVariants.{Length}
use Rattle.promise.specs.Refusals.{number}
use Rattle.promise.specs.Numbers.{numbered}
use Rattle.promise.specs.Calls.{Outcome, refusal_of, Promise, PromiseSmooth}
use Rattle.filter.specs.Ends as ends
use Rattle.promise.specs.WithRecords.{ending_with_records, outcome_with_records, smooth_outcome_with_records, to_tell}
use Rattle.records.specs.Few.{too_few, capped}

-- ---- n·p

pub all_fits : {n p : ℕ} → p ≤ 8 → n ≤ 4096 → n * p < 2 ^ 64
all_fits {n} {p} h g = omega (arith, mul-le-mul {n₁ = n} {m₁ = p} {n₂ = 4096} {m₂ = 8} g h)

pub none_wide : (p n : ℕ) → 8 < p → 0 ≡ capped p n
unfolding capped
none_wide p n h = rw (lt-ltb 8 p h) refl

pub none_long : (p n : ℕ) → p ≤ 8 → 4096 < n → 0 ≡ capped p n
unfolding capped
none_long p n h g = rw (le-ltb 8 p h, lt-ltb 4096 n g) refl

pub all_of : (p n : ℕ) → p ≤ 8 → n ≤ 4096 → n * p ≡ capped p n
unfolding capped
all_of p n h g = rw (le-ltb 8 p h, le-ltb 4096 n g) refl

-- ---- how many records there are to tell

pub tells_answer : (r : Outcome) (k : ℕ) → refusal_of r ≡ 0 → to_tell r k ≡ k
tells_answer (Ok a) k h = refl
tells_answer (Err e) k h = absurd (numbered e h)

pub tells_twelve : (r : Outcome) (k : ℕ) → refusal_of r ≡ 12 → to_tell r k ≡ k
tells_twelve (Ok a) k h = refl
tells_twelve (Err e) k h = ap (λ (n : ℕ). cond (eqb n 12) k 0) h

pub tells_none : (r : Outcome) (k : ℕ) → (refusal_of r ≡ 0 → ⊥) → (refusal_of r ≡ 12 → ⊥) → to_tell r k ≡ 0
tells_none (Ok a) k some h = absurd (some refl)
tells_none (Err e) k some h = ap (λ (t : Bool). cond t k 0) (ne_eqb (number e) 12 h)

-- ---- too few places: refusal 2, past refusal 1

pub not_few : (p m r n have : ℕ) → outside p m r n ≡ true → false ≡ too_few p m r n have
unfolding too_few
not_few p m r n have e = rw e refl

pub maybe_few : (p m r n have : ℕ) → outside p m r n ≡ false → ltb have (n * p) ≡ too_few p m r n have
unfolding too_few
maybe_few p m r n have e = rw e refl

short : (a b : Bool) → not (a && b && false) ≡ true
short true true = refl
short true false = refl
short false b = refl

module _ (x : Model) (o : Offsets) (y : List Float) (have : ℕ) where
  abbrev few : Bool
  few = too_few x.p x.m x.r x.n have

  two : (room : Bool) → few ≡ true → 2 ≡ ends.number x o y (room && leb (kinds_need x) have)
  unfolding too_few kinds_need refusal tests first_of bad_length
  two room e =
      let h = both_true (not (outside x.p x.m x.r x.n)) (ltb have (x.n * x.p)) e in
      let i : outside x.p x.m x.r x.n ≡ false = not-true _ h.0 in
      let l : leb (x.n * x.p) have ≡ false = lt-leb (x.n * x.p) have (ltb-true have (x.n * x.p) h.1) in
      rw (i, l, and-false, short) refl

  -- else the list has room, where it is asked
  has_room : (room : Bool) → few ≡ false → outside x.p x.m x.r x.n ≡ false → (room && leb (kinds_need x) have) ≡ room
  unfolding kinds_need
  has_room room e h =
      let l : leb (x.n * x.p) have ≡ true = le-leb (x.n * x.p) have (ltb-false have (x.n * x.p) (maybe_few x.p x.m x.r x.n have h ∙ e)) in
      rw l (and-true room)

  module _ (w : CovParts) (w' : MeanParts) where
    pub few_so : few ≡ true → Promise (outcome_with_records x o y w w' have) (Err Length) w w'
    unfolding outcome_with_records ending_with_records
    few_so e =
        subst (λ (f : Ending). Promise (ends.End x o y w w' f) (Err Length) w w')
        (sym (ends.is_turned x o y (roomy x w w' && leb (kinds_need x) have) Length (two (roomy x w w') e))) (ends.turned_away x o y w w' Length)

    same : few ≡ false → outcome x o y w w' ≡ outcome_with_records x o y w w' have
    unfolding outcome_with_records ending_with_records outcome outcome_at ending
    same e =
        let h = by_room x o (length (map class_of y)) (any_of is_infinity (map class_of y)) w w' {room = roomy x w w' && leb (kinds_need x) have} (λ s. has_room (roomy x w w') e s ∙ rooms_are x w w') in
        rw h refl

    pub enough_so : (r : Outcome) (b : CovParts) (b' : MeanParts) → few ≡ false → Promise (outcome x o y w w') r b b' → Promise (outcome_with_records x o y w w' have) r b b'
    enough_so r b b' e = subst (λ (u : CovOutcome × MeanOutcome). Promise u r b b') (same e)

    -- the same of the smoother's call
    module _ (sm sc : List Float) where
      abbrev SmoothEnd : Ending → SmoothedCov × SmoothedMean
      SmoothEnd f = (
        record { filter = cov_outcome x f (map class_of y) w; smoothed = smoothed_cov x f (map class_of y) sc },
        record { filter = mean_outcome x f o (map class_of y) y w'; smoothed = smoothed_mean x f o (map class_of y) y sm },
      )

      pub few_smooth_so : few ≡ true → PromiseSmooth (smooth_outcome_with_records x o y w w' sm sc have) (Err Length) w w' sm sc
      unfolding smooth_outcome_with_records ending_with_records smoothed_cov smoothed_mean after
      few_smooth_so e =
          let room = roomy_smoothed x w w' sm sc in
          subst (λ (f : Ending). PromiseSmooth (SmoothEnd f) (Err Length) w w' sm sc)
          (sym (ends.is_turned x o y (room && leb (kinds_need x) have) Length (two room e))) (record { filter = ends.turned_away x o y w w' Length; mean = refl; cov = refl })

      same_smooth : few ≡ false → smooth_outcome x o y w w' sm sc ≡ smooth_outcome_with_records x o y w w' sm sc have
      unfolding smooth_outcome_with_records ending_with_records smooth_outcome smooth_outcome_at ending
      same_smooth e =
          let room = roomy_smoothed x w w' sm sc in
          let h = by_room_smoothed x o (length (map class_of y)) (any_of is_infinity (map class_of y)) w w' sm sc {room = roomy x w w'} {both = room && leb (kinds_need x) have} (λ _. rooms_are x w w') (λ s. has_room room e s ∙ rooms_smoothed_are x w w' sm sc) in
          rw h refl

      pub enough_smooth_so : (r : Outcome) (b : CovParts) (b' : MeanParts) (sm' sc' : List Float) → few ≡ false → PromiseSmooth (smooth_outcome x o y w w' sm sc) r b b' sm' sc' → PromiseSmooth (smooth_outcome_with_records x o y w w' sm sc have) r b b' sm' sc'
      enough_smooth_so r b b' sm' sc' e = subst (λ (u : SmoothedCov × SmoothedMean). PromiseSmooth u r b b' sm' sc') (same_smooth e)
