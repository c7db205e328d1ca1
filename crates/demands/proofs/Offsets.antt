-- Request k of document 02: tables that also ignore the offsets. Two calls that differ in a1, c and d, besides the values of finite readings, and both
-- get past refusals 1 to 11 agree in the covariance half. That is all that demand 3 lists, refusal 12 with it: `Same` of Values spells it out.
use Rattle.std.specs.Prelude.{◌≡◌, refl, ℕ, zero, suc, ◌+◌, ◌*◌, ◌<◌, Bool, true, false, cond, List, [], ◌∷◌, length, take, T, ltb, Float}
use Rattle.std.proofs.Math.Path.{sym, subst}
use Rattle.std.proofs.Common.{ap, ◌∙◌, inl, ⊎_elim, arith, ltb→lt, ltb-false}
use Rattle.std.specs.Float.Ieee.Fits.{and_l, and_r}
use Rattle.definition.specs.Inputs.{Model, Offsets}
use Rattle.definition.specs.Refusals.{list_short, first_of, tests, refusal}
use Rattle.definition.specs.Outcome.{CovParts, MeanParts, CovOutcome, SmoothedCov, ending_of, number_of, ending, cov_outcome, outcome, outcome_at, smooth_outcome, smooth_outcome_at}
use Rattle.definition.specs.Saved.{saved_need}
use Rattle.definition.specs.Stretch.{StretchOutcome, stretch_tests, stretch_refusal, stretch_ending, cov_stretch, stretch_outcome}
use Rattle.definition.specs.Tracks.{by_classes, smooth_by_classes, by_refusal, smooth_by_refusal, stretch_by_refusal}
use Rattle.laws.specs.AcceptedStretch.{Ready}
use Rattle.laws.specs.Numbered.{numbered}
use Rattle.demands.specs.Values.{Alike, alike_classes}
use Rattle.demands.specs.StretchValues.{Akin, from}
use Rattle.demands.specs.StretchValues as stretch
use Rattle.demands.specs.Offsets.{Admitted}

-- the tests with the other numbers: wherever they stand, only they are left
abbrev others : List (ℕ × Bool) → List (ℕ × Bool)
others [] = []
others (e ∷ es) = cond (ltb 11 e.0) (e ∷ others es) (others es)

left : (es : List (ℕ × Bool)) → T (numbered es) → Admitted (first_of es) → first_of es ≡ first_of (others es)
unfolding first_of
left [] h a = refl
left (e ∷ es) h a = pick e.1 (ltb 11 e.0) refl (ltb→lt 0 e.0 (and_l (ltb 0 e.0) (numbered es) h)) a (left es (and_r (ltb 0 e.0) (numbered es) h))
  where
    pick : (t high : Bool) → ltb 11 e.0 ≡ high → 0 < e.0 → Admitted (cond t e.0 (first_of es)) → (Admitted (first_of es) → first_of es ≡ first_of (others es))
        → cond t e.0 (first_of es) ≡ first_of (cond high ((e.0, t) ∷ others es) (others es))
    pick true true q l a rest = refl
    pick true false q l a rest = ⊎_elim (λ z. absurd (omega arith)) (λ g. absurd (omega (arith, ltb-false 11 e.0 q))) a
    pick false true q l a rest = rest a
    pick false false q l a rest = rest a

-- of a call, which 12 may end
left_of_lem : (es : List (ℕ × Bool)) (quiet : Bool) → T (numbered es) → Admitted (number_of (ending_of (first_of es) quiet)) → first_of es ≡ first_of (others es)
unfolding ending_of number_of
left_of_lem es quiet h a = left es h (before (first_of es) a)
  where
    before : (r : ℕ) → Admitted (number_of (ending_of r quiet)) → Admitted r
    before zero a = inl refl
    before (suc r) a = a

-- of the filter's call 14 is left, which goes by the model alone; of a stretch 15 too
module _ (x : Model) (o : Offsets) (readings : ℕ) (infinity room : Bool) where
  abbrev of_designs : ℕ → List (ℕ × Bool)
  of_designs periods = (14, list_short x.repeats (x.p * x.m) (length x.z_list) periods) ∷ []

  admitted : (quiet : Bool) → Admitted (number_of (ending_of (refusal x o readings infinity room) quiet)) → refusal x o readings infinity room ≡ first_of (of_designs x.n)
  unfolding refusal tests
  admitted quiet = left_of_lem (tests x o readings infinity room) quiet tt

  admitted_stretch : (bad : Bool) (done : ℕ) (quiet : Bool) → Admitted (number_of (ending_of (stretch_refusal x o readings infinity room bad done) quiet))
      → stretch_refusal x o readings infinity room bad done ≡ first_of ((15, bad) ∷ of_designs (done + x.n))
  unfolding stretch_refusal stretch_tests
  admitted_stretch bad done quiet = left_of_lem (stretch_tests x o readings infinity room bad done) quiet tt

-- ---- the calls. The parts lent to the means, and the part to save in, may be others too

module _ (x : Model) (o o' : Offsets) (y y' : List Float) (alike : Alike y y') (b : CovParts) (b' c' : MeanParts) where
  pub offsets : Admitted (outcome x o y b b').0.refused → Admitted (outcome x o' y' b c').0.refused → (outcome x o y b b').0 ≡ (outcome x o' y' b c').0
  unfolding outcome outcome_at cov_outcome ending
  offsets h h' =
      let e = by_classes x o y y' (alike_classes y y' alike) b b' in
      let g = subst (λ (c : CovOutcome). Admitted c.refused) e h in
      e ∙ by_refusal x o o' y' b b' c' (admitted x o _ _ _ _ g ∙ sym (admitted x o' _ _ _ _ h'))

  -- and with them the smoothed covariances
  pub offsets_smooth : (sm sm' sc : List Float)
      → Admitted (smooth_outcome x o y b b' sm sc).0.filter.refused → Admitted (smooth_outcome x o' y' b c' sm' sc).0.filter.refused
      → (smooth_outcome x o y b b' sm sc).0 ≡ (smooth_outcome x o' y' b c' sm' sc).0
  unfolding smooth_outcome smooth_outcome_at cov_outcome ending
  offsets_smooth sm sm' sc h h' =
      let e = smooth_by_classes x o y y' (alike_classes y y' alike) b b' sm sc in
      let g = subst (λ (c : SmoothedCov). Admitted c.filter.refused) e h in
      e ∙ smooth_by_refusal x o o' y' b b' c' sm sm' sc (admitted x o _ _ _ _ g ∙ sym (admitted x o' _ _ _ _ h'))

  -- of a stretch, from saved bytes that are akin or from the run's start
  module _ (begins last : Bool) (bs bs' : List ℕ) (akin : Akin x.p x.m x.r x.n bs bs') (save save' : List ℕ) where
    abbrev first : StretchOutcome
    first = stretch_outcome x o (from begins bs) last y b b' save

    abbrev second : StretchOutcome
    second = stretch_outcome x o' (from begins bs') last y' b c' save'

    pub offsets_stretch : Admitted first.cov.refused → Admitted second.cov.refused → first.cov ≡ second.cov
    unfolding stretch_outcome stretch_ending cov_stretch
    offsets_stretch h h' =
        let e = stretch.values x begins bs bs' akin o last y y' alike b b' save in
        let g = subst (λ (c : CovOutcome). Admitted c.refused) e h in
        e ∙ stretch_by_refusal x o o' y' b b' c' (from begins bs') last save save' (admitted_stretch x o _ _ _ _ _ _ g ∙ sym (admitted_stretch x o' _ _ _ _ _ _ h'))

    -- and what it saves is akin again: so the runs may be cut anywhere
    pub offsets_saved : last ≡ false → Ready x o (from begins bs) → Ready x o' (from begins bs') → first.cov.refused ≡ 0 → Admitted second.cov.refused → (k : ℕ)
        → Akin x.p x.m x.r k (take (saved_need x.m) first.save) (take (saved_need x.m) second.save)
    offsets_saved z ready ready' e h =
        stretch.saved_akin x begins bs bs' akin o o' last y y' alike b b' c' save save' z ready ready' e
        (ap (λ (c : CovOutcome). c.refused) (sym (offsets_stretch (inl e) h)) ∙ e)
