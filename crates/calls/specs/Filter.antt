-- The three demands and requests d, g and k, of the filter's call. `Called x o y w w' r b b'`: with the inputs x, o and y and the parts lent as w and w'
-- it came back with r, and left b and b' in them. That every call does so is the contract of filter::filter_univariate, which asks nothing.
use Rattle.std.specs.Prelude.{◌≡◌, refl, ◌↔◌, ℕ, ◌*◌, ◌≤◌, ◌<◌, Bool, List, [], length, set, T, Float}
use Rattle.std.proofs.Common.{sym, ◌∙◌, subst}
use Rattle.std.specs.Float.{nan}
use Rattle.definition.specs.Num.{is_finite}
use Rattle.definition.specs.Inputs.{Model, Offsets}
use Rattle.definition.specs.Outcome.{CovParts, MeanParts, outcome}
use Rattle.definition.specs.Tracks.{by_classes}
use Rattle.laws.specs.Entries.{copies}
use Rattle.demands.specs.Conditions.{Room, table, First}
use Rattle.demands.specs.Refusals as refusals
use Rattle.demands.proofs.Refusals as tables
use Rattle.demands.specs.Totals.{totals}
use Rattle.demands.specs.Reports as report
use Rattle.demands.specs.Values as demand
use Rattle.demands.proofs.Values as quiet
use Rattle.demands.proofs.Offsets as offset
use Rattle.demands.specs.Marked.{marking}
use Rattle.demands.specs.Marked as mark
use Rattle.demands.proofs.Marked as reached
use Rattle.demands.specs.Copies.{with_t}
use Rattle.demands.proofs.Copies as copied
use Rattle.promise.specs.Calls.{Outcome, Promise}
use Rattle.calls.specs.Seen as seen

abbrev pub Called : Model → Offsets → List Float → CovParts → MeanParts → Outcome → CovParts → MeanParts → Type 0
Called x o y w w' r b b' = Promise (outcome x o y w w') r b b'

module _ (x : Model) (o : Offsets) (y : List Float) (w : CovParts) (w' : MeanParts) {r : Outcome} {b : CovParts} {b' : MeanParts} (call : Called x o y w w' r b b') where
  -- demand 1: the first condition of the table that applies, 0 where none does; all but 12 write nothing
  pub refuses : (k : ℕ) → (seen.refusal_of r ≡ k) ↔ First k (table x o y (Room x w w'))
  refuses k = subst (λ (n : ℕ). (n ≡ k) ↔ First k (table x o y (Room x w w'))) (sym (seen.refusal_is call)) (tables.refuses x o y w w' k)

  pub keeps : (k : ℕ) → 0 < k → (k ≡ 12 → ⊥) → seen.refusal_of r ≡ k → seen.SameParts b w b' w'
  keeps k l n e =
      let s = refusals.keeps x o y w w' k l n (subst (λ (n : ℕ). n ≡ k) (seen.refusal_is call) e) in
      seen.parts_are call s.0 s.1

  -- and 12 blanks
  pub blanked : seen.refusal_of r ≡ 12 → seen.BlankParts x w b w' b'
  blanked e = seen.blanks call (refusals.blanked x o y w w' (subst (λ (n : ℕ). n ≡ 12) (seen.refusal_is call) e))

  -- request d: a marked call is never refused 14, and where the list reaches the run's last period, or the design is constant, the marker is void
  pub never : T x.repeats → seen.refusal_of r ≡ 14 → ⊥
  never marked e = mark.never x marked o y w w' (sym (seen.refusal_is call) ∙ e)

  pub void : (a : Bool) → mark.Reaches x x.n → {s : Outcome} {c : CovParts} {c' : MeanParts} → Called (marking a x) o y w w' s c c' → seen.Same r s b c b' c'
  void a reaches other = seen.same call other (sym (reached.void x a o y w w' reaches))

  -- demand 2: no room. What the call came back with and left is one thing
  pub determined : {s : Outcome} {c : CovParts} {c' : MeanParts} → Called x o y w w' s c c' → seen.Same r s b c b' c'
  determined again = seen.same call again refl

  -- and its counts are counts
  pub counts : seen.refusal_of r ≡ 0 → seen.Totals x y r b
  counts e = seen.totals call e (totals x o y w w')

  -- and its reports name what stands in the parts
  pub reports : seen.refusal_of r ≡ 0 → seen.Named x r b b'
  reports e = seen.named (seen.reported call e (report.reports x o y w w'))

  -- demand 3: the values of finite readings reach no refusal, no count, no decision and no covariance
  pub values : (y' : List Float) → demand.Alike y y' → {s : Outcome} {c : CovParts} {c' : MeanParts} → Called x o y' w w' s c c' → seen.Blind r s b c
  values y' alike other = seen.blind call other (by_classes x o y y' (demand.alike_classes y y' alike) w w')

  -- request k: nor do the offsets, of calls past refusals 1 to 11. The parts lent to the means may be others too
  pub offsets : (o' : Offsets) (y' : List Float) → demand.Alike y y' → (v' : MeanParts) → {s : Outcome} {c : CovParts} {c' : MeanParts} → Called x o' y' w v' s c c' → seen.Admitted r → seen.Admitted s → seen.Blind r s b c
  offsets o' y' alike v' other h h' = seen.blind call other (offset.offsets x o o' y y' alike w w' v' (seen.admitted call h) (seen.admitted other h'))

  -- and a finite reading judged no news changes nothing: another finite number in its place leaves all as it was, a gap all but the count heard
  -- and the cause in its record
  module _ (k : ℕ) (h : seen.NoNews y r b k) where
    pub number : (v : Float) → T (is_finite v) → {s : Outcome} {c : CovParts} {c' : MeanParts} → Called x o (set y k v) w w' s c c' → seen.Same r s b c b' c'
    number v f other = seen.same call other (sym ((quiet.no_news x o y w w' k (seen.no_news call h)).number v f))

    pub gap : {s : Outcome} {c : CovParts} {c' : MeanParts} → Called x o (set y k nan) w w' s c c' → seen.OneLess r s × seen.SameButCause k b c b' c'
    gap other = let u = quiet.no_news x o y w w' k (seen.no_news call h) in seen.one_less call other h u.gap_cov u.gap_mean

-- request g: T given once, and as a list of copies of it: n of them, or more. Both calls come back with the same, and leave the same
module _ (x : Model) (t : List Float) (whole : length t ≡ x.m * x.m) (o : Offsets) (y : List Float) (w : CovParts) (w' : MeanParts) {r s : Outcome} {b c : CovParts} {b' c' : MeanParts}
    (once : Called (with_t t [] x) o y w w' r b b') where
  pub equal_matrices : Called (with_t [] (copies x.n t) x) o y w w' s c c' → seen.Same r s b c b' c'
  equal_matrices listed = seen.same once listed (sym (copied.equal_matrices x t whole o y w w'))

  pub as_constant : (k : ℕ) → x.n ≤ k → k ≤ 4096 → Called (with_t [] (copies k t) x) o y w w' s c c' → seen.Same r s b c b' c'
  as_constant k reach few listed = seen.same once listed (sym (copied.as_constant x t whole o y w w' k reach few))
