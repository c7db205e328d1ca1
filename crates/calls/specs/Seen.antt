-- What a caller sees of a call, and what a promise of the filter's parts says of two calls. Filter and Smooth have the theorems on the two calls,
-- FilterList and SmoothList on those with a list of records, Stretch on a stretch's.
use Rattle.std.specs.Prelude.{◌≡◌, not, List, [], ◌∷◌, length, get_or, set, T, ltb, Float, Ok, Err, IfOk}
use Rattle.std.proofs.Math.Path.{refl}
use Rattle.std.proofs.Common.{sym, ap, ap₂, ◌∙◌, subst, arith}
use Prim.Native.Nat.{ℕ, zero, suc, ◌+◌, ◌<◌}
use Rattle.std.specs.Float.Ieee.{is_nan}
use Rattle.definition.specs.Num.{0ᶠ, is_finite, at}
use Rattle.definition.specs.Run.{count}
use Rattle.definition.specs.Cov.{CovPeriod}
use Rattle.definition.specs.Parts.{CovPart, predCov, pred_inf, filtCov, MeanPart, predMean, filtMean}
use Rattle.definition.specs.Reports.{first_from, told_before}
use Rattle.definition.specs.Inputs.{Model}
use Rattle.definition.specs.Outcome.{CovParts, MeanParts, Counts, CovOutcome, MeanOutcome, kinds_need, cov_need, mean_need}
use Rattle.laws.specs.Reports.{Names, first_names}
use Rattle.laws.specs.Kinds.{of_kind}
use Rattle.demands.specs.Refusals.{Blanked, Blank}
use Rattle.demands.specs.Reports as report
use Rattle.demands.specs.Reports.{cov_seen, mean_seen}
use Rattle.demands.specs.Values as values
use Rattle.demands.specs.Offsets as offset
use Rattle.demands.specs.Unheard.{no_period}
use Rattle.demands.specs.Recorded.{records, Recorded, AllGaps, all_gaps}
use Rattle.demands.specs.Totals as total
use Rattle.demands.specs.Totals.{periods_of}
use Rattle.promise.specs.declared.Answer.{Answer}
pub use Rattle.promise.specs.Calls.{refusal_of}
use Rattle.promise.specs.Calls.{Outcome, answer_in, Promise}
use Rattle.promise.specs.Numbers.{numbered, one_outcome}
use Rattle.promise.specs.Refusals.{number}

-- ---- what comes back: the refusal's number, 0 for an answer (`refusal_of`); an answer's counts, log-likelihood and reports

abbrev pub counts_of : Outcome → Counts
counts_of (Err e) = record { d_diffuse = 0; heard = 0; news = 0 }
counts_of (Ok a) = record { d_diffuse = a.d_diffuse; heard = a.heard; news = a.news }

abbrev pub loglik_of : Outcome → Float
loglik_of (Err e) = 0ᶠ
loglik_of (Ok a) = a.loglik

abbrev pub cov_off_of : Outcome → ℕ
cov_off_of (Err e) = 0
cov_off_of (Ok a) = a.cov_off

abbrev pub mean_off_of : Outcome → ℕ
mean_off_of (Err e) = 0
mean_off_of (Ok a) = a.mean_off

-- request k: the call got past refusals 1 to 11
abbrev pub Admitted : Outcome → Type 0
Admitted r = offset.Admitted (refusal_of r)

-- ---- what stands in the parts afterwards, of two calls: b and b' of the first, c and c' of the second

-- the parts that only the covariances reach
pub record SameCovs (b c : CovParts) : Type 0 where
  pub kinds : b.kinds ≡ c.kinds
  pub covs : (q : CovPart) → b.part q ≡ c.part q

pub record SameParts (b c : CovParts) (b' c' : MeanParts) : Type 0 where
  pub covs : SameCovs b c
  pub means : (q : MeanPart) → b' q ≡ c' q

-- the same, but for the cause in the record at place k: in the second it is gap
pub record SameButCause (k : ℕ) (b c : CovParts) (b' c' : MeanParts) : Type 0 where
  pub kinds : c.kinds ≡ set b.kinds k 0
  pub covs : (q : CovPart) → b.part q ≡ c.part q
  pub means : (q : MeanPart) → b' q ≡ c' q

-- demand 1, refusal 12: of each part, lent as w or w', the stretch that a run needs is blank, and the tail is as it was
pub record BlankParts (x : Model) (w b : CovParts) (w' b' : MeanParts) : Type 0 where
  pub kinds : Blanked (kinds_need x) 0 w.kinds b.kinds
  pub covs : (q : CovPart) → Blanked (cov_need x q) 0ᶠ (w.part q) (b.part q)
  pub means : (q : MeanPart) → Blanked (mean_need x q) 0ᶠ (w' q) (b' q)

-- demand 3, first half, and request k: the same refusal or the same counts and the same report on the covariances, and the same decisions, variances
-- and covariances
pub record Blind (r s : Outcome) (b c : CovParts) : Type 0 where
  pub refusals : refusal_of r ≡ refusal_of s
  pub counts : counts_of r ≡ counts_of s
  pub cov_off : cov_off_of r ≡ cov_off_of s
  pub parts : SameCovs b c

-- demand 3, second half: a call that was answered, with news somewhere, judged the finite reading at place k of y no news: its record is 3, 4 or 5
pub record NoNews (y : List Float) (r : Outcome) (b : CovParts) (k : ℕ) : Type 0 where
  pub read : T (is_finite (at y k))
  pub news : 0 < (counts_of r).news
  pub skip : 2 < get_or b.kinds k 0

-- the second answer is the first but for the count of readings heard, which is one less
pub record OneLess (r s : Outcome) : Type 0 where
  pub refusals : refusal_of s ≡ refusal_of r
  pub loglik : loglik_of s ≡ loglik_of r
  pub heard : suc (counts_of s).heard ≡ (counts_of r).heard
  pub news : (counts_of s).news ≡ (counts_of r).news
  pub d_diffuse : (counts_of s).d_diffuse ≡ (counts_of r).d_diffuse
  pub cov_off : cov_off_of s ≡ cov_off_of r
  pub mean_off : mean_off_of s ≡ mean_off_of r

-- the counts of an answered call, over its readings, the kinds that it left and the periods of its run: the diffuse ones are the first. The six kinds
-- add up to n p, and gap stands exactly where the reading is NaN
pub record Totals (x : Model) (y : List Float) (r : Outcome) (b : CovParts) : Type 0 where
  pub heard : (counts_of r).heard ≡ count (λ (v : Float). not (is_nan v)) y
  pub news : (counts_of r).news ≡ of_kind 1 (records x b.kinds) + of_kind 2 (records x b.kinds)
  pub recorded : Recorded x y b.kinds
  pub d_diffuse : (counts_of r).d_diffuse ≡ count (λ (c : CovPeriod). c.diffuse) (periods_of x y)
  pub firsts : (t : ℕ) → t < x.n → (get_or (periods_of x y) t no_period).diffuse ≡ ltb t (counts_of r).d_diffuse

-- the reports of an answered call, over the parts as they stand afterwards, after t periods of which k and l were told
pub record Reported (x : Model) (t k l : ℕ) (r : Outcome) (b : CovParts) (b' : MeanParts) : Type 0 where
  pub cov : cov_off_of r ≡ told_before k (first_from t (cov_seen x b))
  pub mean : mean_off_of r ≡ told_before l (first_from t (mean_seen x b'))

-- of a run from its start: 0 says that all is finite, t + 1 that period t is the first of which something is not
pub record Named (x : Model) (r : Outcome) (b : CovParts) (b' : MeanParts) : Type 0 where
  pub cov : Names 0 (cov_off_of r) (cov_seen x b)
  pub mean : Names 0 (mean_off_of r) (mean_seen x b')

-- on 12 every record is a gap's, and the six kinds add up to n p: of every call, by its `blanked`
pub blank_records : {x : Model} {w b : CovParts} {w' b' : MeanParts} → BlankParts x w b w' b' → AllGaps x b.kinds
blank_records {x} {w} {b} z = all_gaps x w.kinds b.kinds z.kinds

-- ---- what is judged has its place among the kinds

judged_at : (l : List ℕ) (k : ℕ) → 2 < get_or l k 0 → k < length l
judged_at [] k h = absurd (omega arith)
judged_at (x ∷ l) zero h = omega arith
judged_at (x ∷ l) (suc k) h = let ih = judged_at l k h in omega arith

pub judged : {y : List Float} {r : Outcome} {b : CovParts} {k : ℕ} → NoNews y r b k → k < length b.kinds
judged {b = b} {k} h = judged_at b.kinds k h.skip

-- ---- through the promise

abbrev pub counts_by : ℕ → Counts → Counts
counts_by zero k = k
counts_by (suc n) k = record { d_diffuse = 0; heard = 0; news = 0 }

abbrev loglik_by : ℕ → Float → Float
loglik_by zero l = l
loglik_by (suc n) l = 0ᶠ

abbrev pub report_by : ℕ → ℕ → ℕ
report_by zero t = t
report_by (suc n) t = 0

-- of a number that is not 0
above : {A : Type 0} (f : ℕ → A) (z : A) → ((n : ℕ) → z ≡ f (suc n)) → (n : ℕ) → (n ≡ 0 → ⊥) → z ≡ f n
above f z h zero some = absurd (some refl)
above f z h (suc n) some = h n

-- of an answer with counts k, reports t and u, and log-likelihood l
module _ (k : Counts) (t : ℕ) (l : Float) (u : ℕ) where
  abbrev Answers : Outcome → Type 0
  Answers r = IfOk r (λ a. a ≡ answer_in k t l u)

  counts_by_lem : (r : Outcome) → Answers r → counts_of r ≡ counts_by (refusal_of r) k
  counts_by_lem (Ok a) h = ap (λ (b : Answer). counts_of (Ok b)) h
  counts_by_lem (Err e) h = above (λ (n : ℕ). counts_by n k) _ (λ n. refl) (number e) (numbered e)

  loglik_by_lem : (r : Outcome) → Answers r → loglik_of r ≡ loglik_by (refusal_of r) l
  loglik_by_lem (Ok a) h = ap (λ (b : Answer). b.loglik) h
  loglik_by_lem (Err e) h = above (λ (n : ℕ). loglik_by n l) _ (λ n. refl) (number e) (numbered e)

  cov_off_by : (r : Outcome) → Answers r → cov_off_of r ≡ report_by (refusal_of r) t
  cov_off_by (Ok a) h = ap (λ (b : Answer). b.cov_off) h
  cov_off_by (Err e) h = above (λ (n : ℕ). report_by n t) _ (λ n. refl) (number e) (numbered e)

  mean_off_by : (r : Outcome) → Answers r → mean_off_of r ≡ report_by (refusal_of r) u
  mean_off_by (Ok a) h = ap (λ (b : Answer). b.mean_off) h
  mean_off_by (Err e) h = above (λ (n : ℕ). report_by n u) _ (λ n. refl) (number e) (numbered e)

news_by : (n : ℕ) (k : Counts) → 0 < (counts_by n k).news → (n ≡ 0) × (0 < k.news)
news_by zero k h = (refl, h)
news_by (suc n) k h = absurd (omega arith)

module _ {u : CovOutcome × MeanOutcome} {r : Outcome} {b : CovParts} {b' : MeanParts} (p : Promise u r b b') where
  pub refusal_is : refusal_of r ≡ u.0.refused
  refusal_is = p.refusal

  pub admitted : Admitted r → offset.Admitted u.0.refused
  admitted = subst offset.Admitted refusal_is

  pub counts_are : counts_of r ≡ counts_by u.0.refused u.0.counts
  counts_are = counts_by_lem _ _ _ _ r p.answer ∙ ap (λ (n : ℕ). counts_by n u.0.counts) p.refusal

  loglik_is : loglik_of r ≡ loglik_by u.0.refused u.1.loglik
  loglik_is = loglik_by_lem _ _ _ _ r p.answer ∙ ap (λ (n : ℕ). loglik_by n u.1.loglik) p.refusal

  pub cov_off_is : cov_off_of r ≡ report_by u.0.refused u.0.cov_off
  cov_off_is = cov_off_by _ _ _ _ r p.answer ∙ ap (λ (n : ℕ). report_by n u.0.cov_off) p.refusal

  pub mean_off_is : mean_off_of r ≡ report_by u.0.refused u.1.mean_off
  mean_off_is = mean_off_by _ _ _ _ r p.answer ∙ ap (λ (n : ℕ). report_by n u.1.mean_off) p.refusal

  -- the parts are c and c' where the outcome's are
  pub parts_are : {c : CovParts} {c' : MeanParts} → u.0.parts ≡ c → u.1.parts ≡ c' → SameParts b c b' c'
  parts_are e e' =
      record {
        covs = record { kinds = p.kinds ∙ ap (λ (z : CovParts). z.kinds) e; covs = λ q. p.cov q ∙ ap (λ (z : CovParts). z.part q) e };
        means = λ q. p.mean q ∙ ap (λ (z : MeanParts). z q) e';
      }

  pub blanks : {x : Model} {w : CovParts} {w' : MeanParts} → Blank x w w' u → BlankParts x w b w' b'
  blanks z = record { kinds = p.kinds ∙ z.kinds; covs = λ q. p.cov q ∙ z.covs q; means = λ q. p.mean q ∙ z.means q }

  pub no_news : {y : List Float} {k : ℕ} → NoNews y r b k → values.NoNews y u.0 k
  no_news {y} {k} h =
      record {
        read = h.read;
        news = (news_by u.0.refused u.0.counts (subst (λ (z : Counts). 0 < z.news) counts_are h.news)).1;
        skip = subst (λ (z : List ℕ). 2 < get_or z k 0) p.kinds h.skip;
      }

  answered : {y : List Float} {k : ℕ} → NoNews y r b k → u.0.refused ≡ 0
  answered h = (news_by u.0.refused u.0.counts (subst (λ (z : Counts). 0 < z.news) counts_are h.news)).0

  pub answers : {y : List Float} {k : ℕ} → NoNews y r b k → refusal_of r ≡ 0
  answers h = refusal_is ∙ answered h

  pub totals : {x : Model} {y : List Float} → refusal_of r ≡ 0 → (u.0.refused ≡ 0 → total.Totals x y u.0) → Totals x y r b
  totals {x} {y} e t =
      let z : u.0.refused ≡ 0 = sym refusal_is ∙ e in
      let c : counts_of r ≡ u.0.counts = counts_are ∙ ap (λ (n : ℕ). counts_by n u.0.counts) z in
      record {
        heard = ap (λ (l : Counts). l.heard) c ∙ (t z).heard;
        news = ap (λ (l : Counts). l.news) c ∙ (t z).news ∙ ap (λ (l : List ℕ). of_kind 1 (records x l) + of_kind 2 (records x l)) (sym p.kinds);
        recorded = subst (Recorded x y) (sym p.kinds) (t z).recorded;
        d_diffuse = ap (λ (l : Counts). l.d_diffuse) c ∙ (t z).d_diffuse;
        firsts = λ i l. (t z).firsts i l ∙ ap (λ (k : Counts). ltb i k.d_diffuse) (sym c);
      }

  pub reported : {x : Model} {t k l : ℕ} → refusal_of r ≡ 0 → (u.0.refused ≡ 0 → report.Reports x t k l u.0 u.1) → Reported x t k l r b b'
  reported {x} {t} {k} {l} e h =
      let z : u.0.refused ≡ 0 = sym refusal_is ∙ e in
      record {
        cov = rw (p.cov predCov, p.cov pred_inf, p.cov filtCov) (cov_off_is ∙ ap (λ (n : ℕ). report_by n u.0.cov_off) z ∙ (h z).cov);
        mean = rw (p.mean predMean, p.mean filtMean) (mean_off_is ∙ ap (λ (n : ℕ). report_by n u.1.mean_off) z ∙ (h z).mean);
      }

pub named : {x : Model} {r : Outcome} {b : CovParts} {b' : MeanParts} → Reported x 0 0 0 r b b' → Named x r b b'
unfolding told_before
named {x} {r} {b} {b'} h =
    record {
      cov = subst (λ (k : ℕ). Names 0 k (cov_seen x b)) (sym h.cov) (first_names 0 (cov_seen x b));
      mean = subst (λ (k : ℕ). Names 0 k (mean_seen x b')) (sym h.mean) (first_names 0 (mean_seen x b'));
    }

-- two calls of one outcome: nothing is left open
pub record Same (r s : Outcome) (b c : CovParts) (b' c' : MeanParts) : Type 0 where
  pub results : r ≡ s
  pub parts : SameParts b c b' c'

module _ {u v : CovOutcome × MeanOutcome} {r s : Outcome} {b c : CovParts} {b' c' : MeanParts} (p : Promise u r b b') (q : Promise v s c c') where
  pub same : u ≡ v → Same r s b c b' c'
  same e =
      record {
        results =
            one_outcome r s (p.refusal ∙ ap (λ (z : CovOutcome × MeanOutcome). z.0.refused) e ∙ sym q.refusal) p.answer q.answer
            (ap (λ (z : CovOutcome × MeanOutcome). answer_in z.0.counts z.0.cov_off z.1.loglik z.1.mean_off) e);
        parts =
            record {
              covs =
                  record {
                    kinds = p.kinds ∙ ap (λ (z : CovOutcome × MeanOutcome). z.0.parts.kinds) e ∙ sym q.kinds;
                    covs = λ k. p.cov k ∙ ap (λ (z : CovOutcome × MeanOutcome). z.0.parts.part k) e ∙ sym (q.cov k);
                  };
              means = λ k. p.mean k ∙ ap (λ (z : CovOutcome × MeanOutcome). z.1.parts k) e ∙ sym (q.mean k);
            };
      }

  -- of one number, with the same counts, reports and log-likelihood
  pub results_are : u.0.refused ≡ v.0.refused → u.0.counts ≡ v.0.counts → u.0.cov_off ≡ v.0.cov_off → u.1.loglik ≡ v.1.loglik → u.1.mean_off ≡ v.1.mean_off → r ≡ s
  results_are e f h g i =
      one_outcome r s (p.refusal ∙ e ∙ sym q.refusal) p.answer q.answer
      (ap₂ (λ (k : Counts) (t : ℕ). answer_in k t u.1.loglik u.1.mean_off) f h
      ∙ ap₂ (λ (l : Float) (t : ℕ). answer_in v.0.counts v.0.cov_off l t) g i)

  -- of one covariance half
  pub blind : u.0 ≡ v.0 → Blind r s b c
  blind e =
      record {
        refusals = refusal_is p ∙ ap (λ (z : CovOutcome). z.refused) e ∙ sym (refusal_is q);
        counts = counts_are p ∙ ap (λ (z : CovOutcome). counts_by z.refused z.counts) e ∙ sym (counts_are q);
        cov_off = cov_off_is p ∙ ap (λ (z : CovOutcome). report_by z.refused z.cov_off) e ∙ sym (cov_off_is q);
        parts =
            record {
              kinds = p.kinds ∙ ap (λ (z : CovOutcome). z.parts.kinds) e ∙ sym q.kinds;
              covs = λ k. p.cov k ∙ ap (λ (z : CovOutcome). z.parts.part k) e ∙ sym (q.cov k);
            };
      }

  -- of outcomes that differ in the count heard and in one cause alone, the first answered
  pub one_less_of : {k : ℕ} → u.0.refused ≡ 0 → values.OneLess u.0 v.0 k → v.1 ≡ u.1 → OneLess r s × SameButCause k b c b' c'
  one_less_of {k} ur d e =
      let vr : v.0.refused ≡ 0 = d.refusals ∙ ur in
      let cr : counts_of r ≡ u.0.counts = counts_are p ∙ ap (λ (n : ℕ). counts_by n u.0.counts) ur in
      let cs : counts_of s ≡ v.0.counts = counts_are q ∙ ap (λ (n : ℕ). counts_by n v.0.counts) vr in (
        record {
          refusals = refusal_is q ∙ d.refusals ∙ sym (refusal_is p);
          loglik = loglik_is q ∙ ap₂ (λ (n : ℕ) (z : MeanOutcome). loglik_by n z.loglik) d.refusals e ∙ sym (loglik_is p);
          heard = ap (λ (z : Counts). suc z.heard) cs ∙ d.heard ∙ ap (λ (z : Counts). z.heard) (sym cr);
          news = ap (λ (z : Counts). z.news) cs ∙ d.news ∙ ap (λ (z : Counts). z.news) (sym cr);
          d_diffuse = ap (λ (z : Counts). z.d_diffuse) cs ∙ d.d_diffuse ∙ ap (λ (z : Counts). z.d_diffuse) (sym cr);
          cov_off = cov_off_is q ∙ ap₂ report_by d.refusals d.cov_off ∙ sym (cov_off_is p);
          mean_off = mean_off_is q ∙ ap₂ (λ (n : ℕ) (z : MeanOutcome). report_by n z.mean_off) d.refusals e ∙ sym (mean_off_is p);
        },
        record {
          kinds = q.kinds ∙ d.kinds ∙ ap (λ (l : List ℕ). set l k 0) (sym p.kinds);
          covs = λ j. p.cov j ∙ sym (d.covs j) ∙ sym (q.cov j);
          means = λ j. p.mean j ∙ ap (λ (z : MeanOutcome). z.parts j) (sym e) ∙ sym (q.mean j);
        },
      )

  pub one_less : {y : List Float} {k : ℕ} → NoNews y r b k → values.OneLess u.0 v.0 k → v.1 ≡ u.1 → OneLess r s × SameButCause k b c b' c'
  one_less h = one_less_of (answered p h)
