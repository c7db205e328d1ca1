-- The three demands, the counts and request k, of the filter's call with a list of records: the list is one part more. That every call keeps the
-- promise `WithRecords` is the contract of records::filter_records, which asks nothing of the caller.
use Rattle.std.specs.Prelude.{◌≡◌, refl, ◌↔◌, ℕ, ◌<◌, true, false, List, length, set, T, leb, Float}
use Rattle.std.proofs.Common.{sym, ap, ◌∙◌, inl, inr, arith, leb-true}
use Rattle.std.proofs.Math.Path.{subst}
use Rattle.std.specs.Float.{nan}
use Rattle.definition.specs.Num.{is_finite}
use Rattle.definition.specs.Inputs.{Model, Offsets}
use Rattle.definition.specs.Outcome.{CovParts, MeanParts, Ending, kinds_need, roomy, outcome, outcome_at}
use Rattle.demands.specs.Conditions.{Room, table, First}
use Rattle.demands.specs.Refusals.{Blanked}
use Rattle.demands.specs.Values as demand
use Rattle.demands.proofs.Values as quiet
use Rattle.promise.specs.Calls.{Outcome, Promise}
use Rattle.filter.specs.Ends.{End}
use Rattle.promise.specs.declared.Record.{Record}
use Rattle.promise.specs.Records.{gap_record}
use Rattle.promise.specs.WithRecords.{outcome_with_records, WithRecords}
use Rattle.calls.specs.Seen as seen
use Rattle.calls.specs.Filter as filter
use Rattle.calls.specs.Lists.{RoomList, Short, SameVariances, with_room, short_so, short_blind, short_not, short_deaf, either_way, refuses_list, list_keeps, list_blanked, list_same, list_gap, list_blind}

-- where the list has room, it is the filter's call
module _ {x : Model} {o : Offsets} {y : List Float} {w : CovParts} {w' : MeanParts} {old : List Record} {r : Outcome} {b : CovParts} {b' : MeanParts} {new : List Record} (call : WithRecords x o y w w' old r b b' new) where
  enough : leb (kinds_need x) (length old) ≡ true → filter.Called x o y w w' r b b'
  unfolding outcome_with_records outcome outcome_at
  enough e = subst (λ (f : Ending). Promise (End x o y w w' f) r b b') (with_room x o y (roomy x w w') (length old) e) call.promise

  short : leb (kinds_need x) (length old) ≡ false → Short x w b w' b' r
  unfolding outcome_with_records
  short = short_so x o y w w' (roomy x w w') (length old) call.promise

module _ (x : Model) (o : Offsets) (y : List Float) (w : CovParts) (w' : MeanParts) (old : List Record) {r : Outcome} {b : CovParts} {b' : MeanParts} {new : List Record} (call : WithRecords x o y w w' old r b b' new) where
  -- demand 1
  pub refuses : (k : ℕ) → (seen.refusal_of r ≡ k) ↔ First k (table x o y (RoomList (Room x w w') x old))
  refuses k = refuses_list x o y w w' old k (λ e. filter.refuses x o y w w' (enough call e) k) (short call)

  pub keeps : (k : ℕ) → 0 < k → (k ≡ 12 → ⊥) → seen.refusal_of r ≡ k → seen.SameParts b w b' w' × (new ≡ old)
  keeps k l h e = (
    either_way x old (λ t. filter.keeps x o y w w' (enough call t) k l h e) (λ t. (short call t).parts),
    list_keeps call.promise _ old call.told k l h e,
  )

  pub blanked : seen.refusal_of r ≡ 12 → seen.BlankParts x w b w' b' × Blanked (kinds_need x) gap_record old new
  unfolding kinds_need
  blanked e =
      either_way x old
      (λ t. let z = filter.blanked x o y w w' (enough call t) e in (z, list_blanked call.promise _ old call.told _ z.kinds e (leb-true _ _ t)))
      (λ t. absurd (short_not (short call t) (inr (omega (arith, e)))))

  -- demand 2: no room is left
  pub determined : {s : Outcome} {c : CovParts} {c' : MeanParts} {also : List Record} → WithRecords x o y w w' old s c c' also → seen.Same r s b c b' c' × (new ≡ also)
  determined again = (seen.same call.promise again.promise refl, call.records ∙ sym again.records)

  pub counts : seen.refusal_of r ≡ 0 → seen.Totals x y r b
  counts e = either_way x old (λ t. filter.counts x o y w w' (enough call t) e) (λ t. absurd (short_not (short call t) (inl e)))

  pub reports : seen.refusal_of r ≡ 0 → seen.Named x r b b'
  reports e = either_way x old (λ t. filter.reports x o y w w' (enough call t) e) (λ t. absurd (short_not (short call t) (inl e)))

  with_list : {o' : Offsets} {y' : List Float} {v' : MeanParts} {s : Outcome} {c : CovParts} {c' : MeanParts} {also : List Record} → WithRecords x o' y' w v' old s c c' also → seen.Blind r s b c → seen.Blind r s b c × SameVariances new also
  with_list other z = (z, list_blind call.promise _ old call.told other.promise other.told z.refusals z.parts)

  -- demand 3: the values of finite readings reach no kind and no variance of the list's records
  pub values : (y' : List Float) → demand.Alike y y' → {s : Outcome} {c : CovParts} {c' : MeanParts} {also : List Record} → WithRecords x o y' w w' old s c c' also → seen.Blind r s b c × SameVariances new also
  values y' alike other = with_list other (either_way x old (λ t. filter.values x o y w w' (enough call t) y' alike (enough other t)) (λ t. short_blind (short call t) (short other t)))

  -- request k
  pub offsets : (o' : Offsets) (y' : List Float) → demand.Alike y y' → (v' : MeanParts) → {s : Outcome} {c : CovParts} {c' : MeanParts} {also : List Record} → WithRecords x o' y' w v' old s c c' also → seen.Admitted r → seen.Admitted s → seen.Blind r s b c × SameVariances new also
  offsets o' y' alike v' other h h' = with_list other (either_way x old (λ t. filter.offsets x o y w w' (enough call t) o' y' alike v' (enough other t) h h') (λ t. absurd (short_not (short call t) h)))

  -- and no news changes no record of it; a gap there, the cause in its own
  module _ (k : ℕ) (h : seen.NoNews y r b k) where
    pub number : (v : Float) → T (is_finite v) → {s : Outcome} {c : CovParts} {c' : MeanParts} {also : List Record} → WithRecords x o (set y k v) w w' old s c c' also → seen.Same r s b c b' c' × (new ≡ also)
    number v f other =
        let z = either_way x old (λ t. filter.number x o y w w' (enough call t) k h v f (enough other t)) (λ t. absurd (short_deaf (short call t) h)) in
        (z, list_same call.promise _ old call.told other.promise other.told (ap seen.refusal_of z.results) z.parts)

    pub gap : {s : Outcome} {c : CovParts} {c' : MeanParts} {also : List Record} → WithRecords x o (set y k nan) w w' old s c c' also → seen.OneLess r s × seen.SameButCause k b c b' c' × (also ≡ set new k gap_record)
    unfolding kinds_need
    gap other =
        either_way x old
        (λ t.
        let z = filter.gap x o y w w' (enough call t) k h (enough other t) in
        let place = (quiet.no_news x o y w w' k (seen.no_news (enough call t) h)).place in
        (z.0, z.1, list_gap call.promise _ old call.told other.promise other.told (sym z.0.refusals) k z.1 (seen.answers call.promise h) place (leb-true _ _ t) (seen.judged h)))
        (λ t. absurd (short_deaf (short call t) h))
