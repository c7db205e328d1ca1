-- The three demands and requests d, g and k, of the smoother's call: the filter's eleven parts and the two smoothed ones. `Called` is as in Filter, with
-- the smoothed parts lent as sm and sc and left as sm' and sc'. That every call does so is the contract of smoother::smooth_univariate.
use Rattle.std.specs.Prelude.{◌≡◌, refl, ◌↔◌, ℕ, ◌*◌, ◌≤◌, ◌<◌, Bool, List, [], length, set, T, Float}
use Rattle.std.proofs.Common.{sym, ap, ◌∙◌, subst}
use Rattle.std.specs.Float.{nan}
use Rattle.definition.specs.Num.{0ᶠ, is_finite}
use Rattle.definition.specs.Inputs.{Model, Offsets}
use Rattle.definition.specs.Outcome.{CovParts, MeanParts, SmoothedCov, SmoothedMean, CovOutcome, MeanOutcome, smoothed_cov_need, smoothed_mean_need, smooth_outcome}
use Rattle.definition.specs.Tracks.{smooth_by_classes}
use Rattle.laws.specs.Entries.{copies}
use Rattle.demands.specs.Conditions.{RoomSmooth, table, First}
use Rattle.demands.specs.Refusals as refusals
use Rattle.demands.proofs.Refusals as tables
use Rattle.demands.specs.Refusals.{Blanked}
use Rattle.demands.specs.Totals.{totals_smooth}
use Rattle.demands.specs.Reports as report
use Rattle.demands.specs.Values as demand
use Rattle.demands.proofs.Values as quiet
use Rattle.demands.proofs.Offsets as offset
use Rattle.demands.specs.Marked.{marking}
use Rattle.demands.specs.Marked as mark
use Rattle.demands.proofs.Marked as reached
use Rattle.demands.specs.Copies.{with_t}
use Rattle.demands.proofs.Copies as copied
use Rattle.promise.specs.Calls.{Outcome, PromiseSmooth}
use Rattle.calls.specs.Seen as seen

abbrev pub Called : Model → Offsets → List Float → CovParts → MeanParts → List Float → List Float → Outcome → CovParts → MeanParts → List Float → List Float → Type 0
Called x o y w w' sm sc r b b' sm' sc' = PromiseSmooth (smooth_outcome x o y w w' sm sc) r b b' sm' sc'

-- the smoothed parts too
pub record Same (r s : Outcome) (b c : CovParts) (b' c' : MeanParts) (sm sm' sc sc' : List Float) : Type 0 where
  pub filter : seen.Same r s b c b' c'
  pub mean : sm ≡ sm'
  pub cov : sc ≡ sc'

abbrev filter_of : SmoothedCov × SmoothedMean → CovOutcome × MeanOutcome
filter_of u = (u.0.filter, u.1.filter)

pub same : {u v : SmoothedCov × SmoothedMean} {r s : Outcome} {b c : CovParts} {b' c' : MeanParts} {sm sm' sc sc' : List Float} → PromiseSmooth u r b b' sm sc → PromiseSmooth v s c c' sm' sc' → u ≡ v → Same r s b c b' c' sm sm' sc sc'
same p q e =
    record {
      filter = seen.same p.filter q.filter (ap filter_of e);
      mean = p.mean ∙ ap (λ (z : SmoothedCov × SmoothedMean). z.1.smoothed) e ∙ sym q.mean;
      cov = p.cov ∙ ap (λ (z : SmoothedCov × SmoothedMean). z.0.smoothed) e ∙ sym q.cov;
    }

-- of one covariance half
blind : {u v : SmoothedCov × SmoothedMean} {r s : Outcome} {b c : CovParts} {b' c' : MeanParts} {sm sm' sc sc' : List Float} → PromiseSmooth u r b b' sm sc → PromiseSmooth v s c c' sm' sc' → u.0 ≡ v.0 → seen.Blind r s b c × (sc ≡ sc')
blind p q e = (
  seen.blind p.filter q.filter (ap (λ (z : SmoothedCov). z.filter) e),
  p.cov ∙ ap (λ (z : SmoothedCov). z.smoothed) e ∙ sym q.cov,
)

module _ (x : Model) (o : Offsets) (y : List Float) (w : CovParts) (w' : MeanParts) (sm sc : List Float) {r : Outcome} {b : CovParts} {b' : MeanParts} {sm' sc' : List Float} (call : Called x o y w w' sm sc r b b' sm' sc') where
  -- demand 1
  pub refuses : (k : ℕ) → (seen.refusal_of r ≡ k) ↔ First k (table x o y (RoomSmooth x w w' sm sc))
  refuses k = subst (λ (n : ℕ). (n ≡ k) ↔ First k (table x o y (RoomSmooth x w w' sm sc))) (sym (seen.refusal_is call.filter)) (tables.refuses_smooth x o y w w' sm sc k)

  pub keeps : (k : ℕ) → 0 < k → (k ≡ 12 → ⊥) → seen.refusal_of r ≡ k → seen.SameParts b w b' w' × (sm' ≡ sm) × (sc' ≡ sc)
  keeps k l n e =
      let s = refusals.keeps_smooth x o y w w' sm sc k l n (subst (λ (n : ℕ). n ≡ k) (seen.refusal_is call.filter) e) in
      (seen.parts_are call.filter s.0 s.1, call.mean ∙ s.3, call.cov ∙ s.2)

  pub blanked : seen.refusal_of r ≡ 12 → seen.BlankParts x w b w' b' × Blanked (smoothed_mean_need x) 0ᶠ sm sm' × Blanked (smoothed_cov_need x) 0ᶠ sc sc'
  blanked e =
      let s = refusals.blanked_smooth x o y w w' sm sc (subst (λ (n : ℕ). n ≡ 12) (seen.refusal_is call.filter) e) in
      (seen.blanks call.filter s.0, call.mean ∙ s.2, call.cov ∙ s.1)

  -- request d
  pub never : T x.repeats → seen.refusal_of r ≡ 14 → ⊥
  never marked e = mark.never_smooth x marked o y w w' sm sc (sym (seen.refusal_is call.filter) ∙ e)

  pub void : (a : Bool) → mark.Reaches x x.n → {s : Outcome} {c : CovParts} {c' : MeanParts} {sm'' sc'' : List Float} → Called (marking a x) o y w w' sm sc s c c' sm'' sc'' → Same r s b c b' c' sm' sm'' sc' sc''
  void a reaches other = same call other (sym (reached.void_smooth x a o y w w' sm sc reaches))

  -- demand 2: no room
  pub determined : {s : Outcome} {c : CovParts} {c' : MeanParts} {sm'' sc'' : List Float} → Called x o y w w' sm sc s c c' sm'' sc'' → Same r s b c b' c' sm' sm'' sc' sc''
  determined again = same call again refl

  pub counts : seen.refusal_of r ≡ 0 → seen.Totals x y r b
  counts e = seen.totals call.filter e (totals_smooth x o y w w' sm sc)

  -- and its reports name what stands in the parts
  pub reports : seen.refusal_of r ≡ 0 → seen.Named x r b b'
  reports e = seen.named (seen.reported call.filter e (report.reports_smooth x o y w w' sm sc))

  -- demand 3: the values of finite readings reach no smoothed covariance either
  pub values : (y' : List Float) → demand.Alike y y' → {s : Outcome} {c : CovParts} {c' : MeanParts} {sm'' sc'' : List Float} → Called x o y' w w' sm sc s c c' sm'' sc'' → seen.Blind r s b c × (sc' ≡ sc'')
  values y' alike other = blind call other (smooth_by_classes x o y y' (demand.alike_classes y y' alike) w w' sm sc)

  -- request k
  pub offsets : (o' : Offsets) (y' : List Float) → demand.Alike y y' → (v' : MeanParts) (sn : List Float) → {s : Outcome} {c : CovParts} {c' : MeanParts} {sm'' sc'' : List Float} → Called x o' y' w v' sn sc s c c' sm'' sc'' → seen.Admitted r → seen.Admitted s → seen.Blind r s b c × (sc' ≡ sc'')
  offsets o' y' alike v' sn other h h' = blind call other (offset.offsets_smooth x o o' y y' alike w w' v' sm sn sc (seen.admitted call.filter h) (seen.admitted other.filter h'))

  -- and no news changes none of the thirteen parts; a gap there, the cause in its record
  module _ (k : ℕ) (h : seen.NoNews y r b k) where
    pub number : (v : Float) → T (is_finite v) → {s : Outcome} {c : CovParts} {c' : MeanParts} {sm'' sc'' : List Float} → Called x o (set y k v) w w' sm sc s c c' sm'' sc'' → Same r s b c b' c' sm' sm'' sc' sc''
    number v f other = same call other (sym ((quiet.no_news_smooth x o y w w' sm sc k (seen.no_news call.filter h)).number v f))

    pub gap : {s : Outcome} {c : CovParts} {c' : MeanParts} {sm'' sc'' : List Float} → Called x o (set y k nan) w w' sm sc s c c' sm'' sc'' → seen.OneLess r s × seen.SameButCause k b c b' c' × (sm' ≡ sm'') × (sc' ≡ sc'')
    gap other =
        let u = quiet.no_news_smooth x o y w w' sm sc k (seen.no_news call.filter h) in
        let l = seen.one_less call.filter other.filter h u.gap_cov (ap (λ (z : SmoothedMean). z.filter) u.gap_mean) in
        (l.0, l.1, call.mean ∙ ap (λ (z : SmoothedMean). z.smoothed) (sym u.gap_mean) ∙ sym other.mean, call.cov ∙ sym u.gap_smoothed ∙ sym other.cov)

-- request g
module _ (x : Model) (t : List Float) (whole : length t ≡ x.m * x.m) (o : Offsets) (y : List Float) (w : CovParts) (w' : MeanParts) (sm sc : List Float) {r s : Outcome} {b c : CovParts} {b' c' : MeanParts} {sm' sm'' sc' sc'' : List Float}
    (once : Called (with_t t [] x) o y w w' sm sc r b b' sm' sc') where
  pub equal_matrices : Called (with_t [] (copies x.n t) x) o y w w' sm sc s c c' sm'' sc'' → Same r s b c b' c' sm' sm'' sc' sc''
  equal_matrices listed = same once listed (sym (copied.equal_matrices_smooth x t whole o y w w' sm sc))

  pub as_constant : (k : ℕ) → x.n ≤ k → k ≤ 4096 → Called (with_t [] (copies k t) x) o y w w' sm sc s c c' sm'' sc'' → Same r s b c b' c' sm' sm'' sc' sc''
  as_constant k reach few listed = same once listed (sym (copied.as_constant_smooth x t whole o y w w' sm sc k reach few))
