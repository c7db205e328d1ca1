-- The exported calls leave no room: two results that a promise allows coincide, the number, the answer's places and every lent part, tails included.
-- That every call keeps the promise is the contract of the exported function of c_filter, of c_smooth and of c_stretch.
use Rattle.std.specs.Prelude.{◌≡◌, ℕ}
use Rattle.std.proofs.Common.{refl, sym, ap, ◌∙◌}
use Rattle.definition.specs.Outcome.{CovOutcome, MeanOutcome}
use Rattle.promise.specs.Lent.{Given, Lent, LentSmooth, GivenStretch, LentStretch}
use Rattle.promise.specs.Calls.{Outcome, refusal_of, Promise}
use Rattle.promise.specs.Numbers.{one_outcome}
use Rattle.promise.specs.Exported.{Places, places_of, Told, FilteredC, SmoothedC, StretchedC}
use Rattle.calls.specs.Seen.{SameParts}

pub record Same (k j : ℕ) (new also : Places) (b c : Lent) : Type 0 where
  pub number : k ≡ j
  pub places : new ≡ also
  pub parts : SameParts b.cov c.cov b.mean c.mean

same_of : {u : CovOutcome × MeanOutcome} {r s : Outcome} {k j : ℕ} {old new also : Places} {b c : Lent} → Promise u r b.cov b.mean → Promise u s c.cov c.mean → Told r k old new → Told s j old also → Same k j new also b c
same_of {r = r} {s = s} {old = old} h g t v =
    let e : r ≡ s = one_outcome r s (h.refusal ∙ sym g.refusal) h.answer g.answer refl in
    record {
      number = t.number ∙ ap refusal_of e ∙ sym v.number;
      places = t.answer ∙ ap (λ (o : Outcome). places_of o old) e ∙ sym v.answer;
      parts = record { covs = record { kinds = h.kinds ∙ sym g.kinds; covs = λ q. h.cov q ∙ sym (g.cov q) }; means = λ q. h.mean q ∙ sym (g.mean q) };
    }

pub determined : {x : Given} {w : Lent} {k j : ℕ} {old new also : Places} {b c : Lent} → FilteredC x w old k b new → FilteredC x w old j c also → Same k j new also b c
determined h g = same_of h.promise g.promise h.told g.told

pub determined_smooth : {x : Given} {w : LentSmooth} {k j : ℕ} {old new also : Places} {b c : LentSmooth} → SmoothedC x w old k b new → SmoothedC x w old j c also
    → Same k j new also b.filter c.filter × (b.mean ≡ c.mean) × (b.cov ≡ c.cov)
determined_smooth h g = (
  same_of h.promise.filter g.promise.filter h.told g.told,
  h.promise.mean ∙ sym g.promise.mean,
  h.promise.cov ∙ sym g.promise.cov,
)

pub determined_stretch : {x : GivenStretch} {w : LentStretch} {k j : ℕ} {old new also : Places} {b c : LentStretch} → StretchedC x w old k b new → StretchedC x w old j c also
    → Same k j new also b.filter c.filter × (b.save ≡ c.save)
determined_stretch h g = (same_of h.promise.filter g.promise.filter h.told g.told, h.promise.save ∙ sym g.promise.save)
