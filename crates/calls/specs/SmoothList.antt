-- The three demands, the counts and request k, of the smoother's call with a list of records. That every call keeps the promise `WithRecordsSmooth` is
-- the contract of records_smooth::smooth_records, which asks nothing of the caller.
use Rattle.std.specs.Prelude.{◌≡◌, refl, ◌↔◌, ℕ, ◌<◌, true, false, List, map, length, set, T, leb, Float}
use Rattle.std.proofs.Common.{sym, ap, ◌∙◌, inl, inr, arith, leb-true}
use Rattle.std.proofs.Math.Path.{subst}
use Rattle.std.specs.Float.{nan}
use Rattle.definition.specs.Num.{0ᶠ, is_finite}
use Rattle.definition.specs.Inputs.{Model, Offsets, class_of}
use Rattle.definition.specs.Outcome.{CovParts, MeanParts, SmoothedCov, SmoothedMean, Ending, after, kinds_need, smoothed_cov_need, smoothed_mean_need, roomy_smoothed, cov_outcome, mean_outcome, smoothed_cov, smoothed_mean, smooth_outcome, smooth_outcome_at}
use Rattle.demands.specs.Conditions.{RoomSmooth, table, First}
use Rattle.demands.specs.Refusals.{Blanked}
use Rattle.demands.specs.Values as demand
use Rattle.demands.proofs.Values as quiet
use Rattle.promise.specs.Calls.{Outcome, PromiseSmooth}
use Rattle.promise.specs.declared.Record.{Record}
use Rattle.promise.specs.Records.{gap_record}
use Rattle.promise.specs.WithRecords.{smooth_outcome_with_records, WithRecordsSmooth}
use Rattle.calls.specs.Seen as seen
use Rattle.calls.specs.Smooth as smooth
use Rattle.calls.specs.Lists.{RoomList, Short, SameVariances, with_room, without_room, short_so, short_blind, short_not, short_deaf, either_way, refuses_list, list_keeps, list_blanked, list_same, list_gap, list_blind}

-- where the list has room, it is the smoother's call; else all is as it was
module _ {x : Model} {o : Offsets} {y : List Float} {w : CovParts} {w' : MeanParts} {sm sc : List Float} {old : List Record} {r : Outcome} {b : CovParts} {b' : MeanParts} {sm' sc' : List Float} {new : List Record} (call : WithRecordsSmooth x o y w w' sm sc old r b b' sm' sc' new) where
  abbrev SmoothEnd : Ending → SmoothedCov × SmoothedMean
  SmoothEnd f = (
    record { filter = cov_outcome x f (map class_of y) w; smoothed = smoothed_cov x f (map class_of y) sc },
    record { filter = mean_outcome x f o (map class_of y) y w'; smoothed = smoothed_mean x f o (map class_of y) y sm },
  )

  enough : leb (kinds_need x) (length old) ≡ true → smooth.Called x o y w w' sm sc r b b' sm' sc'
  unfolding smooth_outcome_with_records smooth_outcome smooth_outcome_at
  enough e = subst (λ (f : Ending). PromiseSmooth (SmoothEnd f) r b b' sm' sc') (with_room x o y (roomy_smoothed x w w' sm sc) (length old) e) call.promise

  short : leb (kinds_need x) (length old) ≡ false → Short x w b w' b' r
  unfolding smooth_outcome_with_records
  short = short_so x o y w w' (roomy_smoothed x w w' sm sc) (length old) call.promise.filter

  short_smoothed : leb (kinds_need x) (length old) ≡ false → (sm' ≡ sm) × (sc' ≡ sc)
  unfolding smooth_outcome_with_records smoothed_cov smoothed_mean after
  short_smoothed e =
      let p = subst (λ (f : Ending). PromiseSmooth (SmoothEnd f) r b b' sm' sc') (without_room x o y (roomy_smoothed x w w' sm sc) (length old) e) call.promise in (p.mean, p.cov)

module _ (x : Model) (o : Offsets) (y : List Float) (w : CovParts) (w' : MeanParts) (sm sc : List Float) (old : List Record) {r : Outcome} {b : CovParts} {b' : MeanParts} {sm' sc' : List Float} {new : List Record} (call : WithRecordsSmooth x o y w w' sm sc old r b b' sm' sc' new) where
  -- demand 1
  pub refuses : (k : ℕ) → (seen.refusal_of r ≡ k) ↔ First k (table x o y (RoomList (RoomSmooth x w w' sm sc) x old))
  refuses k = refuses_list x o y w w' old k (λ e. smooth.refuses x o y w w' sm sc (enough call e) k) (short call)

  pub keeps : (k : ℕ) → 0 < k → (k ≡ 12 → ⊥) → seen.refusal_of r ≡ k → seen.SameParts b w b' w' × (sm' ≡ sm) × (sc' ≡ sc) × (new ≡ old)
  keeps k l h e =
      let z = either_way x old (λ t. smooth.keeps x o y w w' sm sc (enough call t) k l h e) (λ t. let s = short_smoothed call t in ((short call t).parts, s.0, s.1)) in
      (z.0, z.1, z.2, list_keeps call.promise.filter _ old call.told k l h e)

  pub blanked : seen.refusal_of r ≡ 12
      → seen.BlankParts x w b w' b' × Blanked (smoothed_mean_need x) 0ᶠ sm sm' × Blanked (smoothed_cov_need x) 0ᶠ sc sc' × Blanked (kinds_need x) gap_record old new
  unfolding kinds_need
  blanked e =
      either_way x old
      (λ t.
      let z = smooth.blanked x o y w w' sm sc (enough call t) e in
      (z.0, z.1, z.2, list_blanked call.promise.filter _ old call.told _ z.0.kinds e (leb-true _ _ t)))
      (λ t. absurd (short_not (short call t) (inr (omega (arith, e)))))

  -- demand 2: no room is left
  pub determined : {s : Outcome} {c : CovParts} {c' : MeanParts} {sm'' sc'' : List Float} {also : List Record} → WithRecordsSmooth x o y w w' sm sc old s c c' sm'' sc'' also → smooth.Same r s b c b' c' sm' sm'' sc' sc'' × (new ≡ also)
  determined again = (smooth.same call.promise again.promise refl, call.records ∙ sym again.records)

  pub counts : seen.refusal_of r ≡ 0 → seen.Totals x y r b
  counts e = either_way x old (λ t. smooth.counts x o y w w' sm sc (enough call t) e) (λ t. absurd (short_not (short call t) (inl e)))

  pub reports : seen.refusal_of r ≡ 0 → seen.Named x r b b'
  reports e = either_way x old (λ t. smooth.reports x o y w w' sm sc (enough call t) e) (λ t. absurd (short_not (short call t) (inl e)))

  with_list : {o' : Offsets} {y' : List Float} {v' : MeanParts} {sn : List Float} {s : Outcome} {c : CovParts} {c' : MeanParts} {sm'' sc'' : List Float} {also : List Record}
      → WithRecordsSmooth x o' y' w v' sn sc old s c c' sm'' sc'' also → seen.Blind r s b c × (sc' ≡ sc'') → seen.Blind r s b c × (sc' ≡ sc'') × SameVariances new also
  with_list other z = (z.0, z.1, list_blind call.promise.filter _ old call.told other.promise.filter other.told z.0.refusals z.0.parts)

  -- demand 3
  pub values : (y' : List Float) → demand.Alike y y' → {s : Outcome} {c : CovParts} {c' : MeanParts} {sm'' sc'' : List Float} {also : List Record}
      → WithRecordsSmooth x o y' w w' sm sc old s c c' sm'' sc'' also → seen.Blind r s b c × (sc' ≡ sc'') × SameVariances new also
  values y' alike other =
      with_list other
      (either_way x old (λ t. smooth.values x o y w w' sm sc (enough call t) y' alike (enough other t))
      (λ t. (short_blind (short call t) (short other t), (short_smoothed call t).1 ∙ sym (short_smoothed other t).1)))

  -- request k
  pub offsets : (o' : Offsets) (y' : List Float) → demand.Alike y y' → (v' : MeanParts) (sn : List Float) → {s : Outcome} {c : CovParts} {c' : MeanParts} {sm'' sc'' : List Float} {also : List Record}
      → WithRecordsSmooth x o' y' w v' sn sc old s c c' sm'' sc'' also → seen.Admitted r → seen.Admitted s → seen.Blind r s b c × (sc' ≡ sc'') × SameVariances new also
  offsets o' y' alike v' sn other h h' =
      with_list other
      (either_way x old (λ t. smooth.offsets x o y w w' sm sc (enough call t) o' y' alike v' sn (enough other t) h h') (λ t. absurd (short_not (short call t) h)))

  module _ (k : ℕ) (h : seen.NoNews y r b k) where
    pub number : (v : Float) → T (is_finite v) → {s : Outcome} {c : CovParts} {c' : MeanParts} {sm'' sc'' : List Float} {also : List Record}
        → WithRecordsSmooth x o (set y k v) w w' sm sc old s c c' sm'' sc'' also → smooth.Same r s b c b' c' sm' sm'' sc' sc'' × (new ≡ also)
    number v f other =
        let z = either_way x old (λ t. smooth.number x o y w w' sm sc (enough call t) k h v f (enough other t)) (λ t. absurd (short_deaf (short call t) h)) in
        (z, list_same call.promise.filter _ old call.told other.promise.filter other.told (ap seen.refusal_of z.filter.results) z.filter.parts)

    pub gap : {s : Outcome} {c : CovParts} {c' : MeanParts} {sm'' sc'' : List Float} {also : List Record}
        → WithRecordsSmooth x o (set y k nan) w w' sm sc old s c c' sm'' sc'' also → seen.OneLess r s × seen.SameButCause k b c b' c' × (sm' ≡ sm'') × (sc' ≡ sc'') × (also ≡ set new k gap_record)
    unfolding kinds_need
    gap other =
        either_way x old
        (λ t.
        let z = smooth.gap x o y w w' sm sc (enough call t) k h (enough other t) in
        let place = (quiet.no_news_smooth x o y w w' sm sc k (seen.no_news (enough call t).filter h)).place in
        let p = call.promise.filter in
        (z.0, z.1, z.2, z.3, list_gap p _ old call.told other.promise.filter other.told (sym z.0.refusals) k z.1 (seen.answers p h) place (leb-true _ _ t) (seen.judged h)))
        (λ t. absurd (short_deaf (short call t) h))
