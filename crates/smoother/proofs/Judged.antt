-- The call's three ends are the outcome's.
use mathlib.Core.Path.{◌≡◌, refl, sym, ap, subst, ◌∙◌}
use Prim.Native.Nat.{ℕ}
use native.Mathlib.Omega.{arith}
use mathlib.Core.Bool.{Bool, true, false}
use mathlib.Core.List.{List, map}
use lib.ListN.{length}
use lib.Ieee.{Float}
use Rattle.std.specs.Prelude.{Ok, Err}
use Rattle.definition.specs.Run.{any_of}
use Rattle.definition.specs.Inputs.{Model, Offsets, Class, class_of, is_infinity}
use Rattle.definition.specs.Refusals.{outside}
use Rattle.definition.specs.Parts.{predCov, pred_inf, fStar, fInf, mStar, mInf, predMean, innovations}
use Rattle.definition.specs.Outcome.{CovParts, MeanParts, SmoothedCov, SmoothedMean, Ending, turned, silent, answered, ending_of, ending, number_of, after, roomy_smoothed, smoothed_cov_need, smoothed_mean_need, cov_of, counts_of, no_information, cov_outcome, mean_outcome, smoothed_cov, smoothed_mean, smooth_outcome, smooth_outcome_at}
use Rattle.laws.specs.Accepted.{accepted}
use Rattle.laws.specs.Flat.{flat_in}
use Rattle.model.specs.Lengths.{Room, rooms_smoothed, by_room_smoothed}
use Rattle.blank.specs.Stretches.{SmoothedBlank}
use Rattle.promise.specs.declared.Answer.{Answer}
use Rattle.backward.specs.View.{Back}
use Rattle.promise.specs.declared.Refusal.{Refusal}
use Rattle.promise.specs.Refusals.{number}
use Rattle.promise.specs.Numbers.{numbered}
use Rattle.promise.specs.Calls.{Outcome, Promise, PromiseSmooth}
use Rattle.filter.specs.Ends as ends
use Rattle.smoother.proofs.Looked.{Past, smoothed}

abbrev kinds : List Float → List Class
kinds y = map class_of y

-- what the checks say tells the first refusal before the run that the inputs and the lent outputs earn, the smoothed parts among them
pub record CheckedSmooth (x : Model) (o : Offsets) (y : List Float) (w : CovParts) (w' : MeanParts) (sm sc : List Float) (k : ℕ) : Type 0 where
  pub number : k ≡ ends.number x o y (roomy_smoothed x w w' sm sc)

module _ {x : Model} {o : Offsets} {y : List Float} {w : CovParts} {w' : MeanParts} {sm sc : List Float} {k : ℕ} where
  pub checked : {room both : Bool} → k ≡ ends.number x o y both → Room x o (length y) (any_of is_infinity (kinds y)) w w' room → (outside x.p x.m x.r x.n ≡ false → both ≡ rooms_smoothed x.m x.n room (length sm) (length sc)) → CheckedSmooth x o y w w' sm sc k
  checked e h g = record { number = e ∙ by_room_smoothed x o (length y) (any_of is_infinity (kinds y)) w w' sm sc h g }

unfoldable End : Model → Offsets → List Float → CovParts → MeanParts → List Float → List Float → Ending → SmoothedCov × SmoothedMean
End x o y w w' sm sc f =
    (record { filter = cov_outcome x f (kinds y) w; smoothed = smoothed_cov x f (kinds y) sc }, record { filter = mean_outcome x f o (kinds y) y w'; smoothed = smoothed_mean x f o (kinds y) y sm })

by_fate : (x : Model) (o : Offsets) (y : List Float) (w : CovParts) (w' : MeanParts) (sm sc : List Float) (f : Ending) → ending x o (kinds y) (roomy_smoothed x w w' sm sc) ≡ f → smooth_outcome x o y w w' sm sc ≡ End x o y w w' sm sc f
unfolding smooth_outcome smooth_outcome_at End
by_fate x o y w w' sm sc f e = ap (λ (g : Ending). End x o y w w' sm sc g) e

-- refusal 12, where those before the run are past
abbrev quiet : Model → List Float → Bool
quiet x y = no_information (counts_of (cov_of x (kinds y)).0 (kinds y))

-- a call past them is silent if it is refused, and answered if it has an answer
module _ (x : Model) (o : Offsets) (y : List Float) (w : CovParts) (w' : MeanParts) {b : CovParts} {b' : MeanParts} where
  refused_silent : (t : Bool) (e : Refusal) → Promise (ends.End x o y w w' (ending_of 0 t)) (Err e) b b' → ending_of 0 t ≡ silent
  unfolding ending_of cov_outcome number_of
  refused_silent true e u = refl
  refused_silent false e u = absurd (numbered e u.refusal)

  answered_heard : (t : Bool) (a : Answer) → Promise (ends.End x o y w w' (ending_of 0 t)) (Ok a) b b' → ending_of 0 t ≡ answered
  unfolding ending_of cov_outcome number_of
  answered_heard true a u = let z : ◌≡◌ {A = ℕ} 0 12 = u.refusal in absurd (omega arith)
  answered_heard false a u = refl

module _ {x : Model} {o : Offsets} {y : List Float} {w : CovParts} {w' : MeanParts} {sm sc : List Float} where
  pub refused : {e : Refusal} → CheckedSmooth x o y w w' sm sc (number e) → PromiseSmooth (smooth_outcome x o y w w' sm sc) (Err e) w w' sm sc
  unfolding End smoothed_cov smoothed_mean after
  refused {e} h =
      rw (by_fate x o y w w' sm sc (turned (number e)) (ends.is_turned x o y (roomy_smoothed x w w' sm sc) e h.number)) (record { filter = ends.turned_away x o y w w' e; mean = refl; cov = refl })

  module _ (none : CheckedSmooth x o y w w' sm sc 0) where
    pub past : Past x o (length y) w w' sm sc
    past = record { accepted = accepted x o (length y) (any_of is_infinity (kinds y)) (roomy_smoothed x w w' sm sc) (sym none.number) }

    -- past the checks: r, b and b' are what the filter's run left
    module _ {r : Outcome} {b : CovParts} {b' : MeanParts} (u : ends.Run x o y w w' r b b') where
      fated : ending x o (kinds y) (roomy_smoothed x w w' sm sc) ≡ ending_of 0 (quiet x y)
      fated = ends.by_number x o y (roomy_smoothed x w w' sm sc) 0 none.number

      ended : {r' : Outcome} → r ≡ r' → ends.Run x o y w w' r' b b'
      ended g = subst (λ (q : Outcome). ends.Run x o y w w' q b b') g u

      module _ {sm' sc' : List Float} where
        pub silenced : {e : Refusal} → r ≡ Err e → SmoothedBlank x.m x.n sm sm' sc sc' → PromiseSmooth (smooth_outcome x o y w w' sm sc) (Err e) b b' sm' sc'
        unfolding End smoothed_cov smoothed_mean after smoothed_cov_need smoothed_mean_need
        silenced {e} g s =
            let h = refused_silent x o y w w' (quiet x y) e (ended g) in
            rw (by_fate x o y w w' sm sc silent (fated ∙ h)) (record { filter = subst (λ (f : Ending). Promise (ends.End x o y w w' f) (Err e) b b') h (ended g); mean = s.mean; cov = s.cov })

        pub heard : {a : Answer} → r ≡ Ok a → Back x.p x.m x.n a.d_diffuse x.z_once x.z_list x.t_once x.t_list (b' predMean) (b.part predCov) (b.part pred_inf) (b' innovations) (flat_in b.kinds (b.part fStar) (b.part fInf) (b.part mStar) (b.part mInf)) sm sm' sc sc'
            → PromiseSmooth (smooth_outcome x o y w w' sm sc) (Ok a) b b' sm' sc'
        unfolding End smoothed_cov smoothed_mean after
        heard {a} g k =
            let h = answered_heard x o y w w' (quiet x y) a (ended g) in
            let v : Promise (ends.End x o y w w' answered) (Ok a) b b' = subst (λ (f : Ending). Promise (ends.End x o y w w' f) (Ok a) b b') h (ended g) in
            let t = past.accepted in
            let s = smoothed x o y w w' t.inputs.p_star t.inputs.a1 t.readings v k in
            rw (by_fate x o y w w' sm sc answered (fated ∙ h)) (record { filter = v; mean = s.mean; cov = s.cov })
