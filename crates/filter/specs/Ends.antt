-- A call's three ends, over the filter's parts: turned away before anything is written, silent, answered. The smoother's call ends the same ways.
use Rattle.std.specs.Prelude.{◌≡◌, ℕ, Bool, cond, List, map, length, Float, Ok, Err}
use Rattle.std.proofs.Math.Path.{refl, ap}
use Rattle.std.proofs.Common.{subst, ◌∙◌, zero-add, arith, eq-eqb}
use Rattle.std.proofs.Math.Bool.{true, false}
use Rattle.std.proofs.lemmas.List.{length-map}
use Rattle.definition.specs.Num.{0ᶠ}
use Rattle.definition.specs.Run.{any_of}
use Rattle.definition.specs.Cov.{Cov, CovPeriod}
use Rattle.definition.specs.Inputs.{Model, Offsets, Class, class_of, is_infinity, noise, start_of}
use Rattle.definition.specs.Refusals.{refusal}
use Rattle.definition.specs.Reports.{cov_report, mean_report, told_before}
use Rattle.definition.specs.Outcome.{CovParts, MeanParts, Counts, CovOutcome, MeanOutcome, Ending, turned, ending_of, ending, number_of, after, counts_in, loglik_in, report_in, cov_of, mean_of, counts_of, no_information, cov_outcome, mean_outcome, roomy}
use Rattle.carried.specs.State.{cov_from, mean_from}
use Rattle.dense.specs.Views.{mat}
use Rattle.forward.specs.View.{Fit, FitOn, fit_on, onward, cov_on, mean_on}
use Rattle.judged.specs.declared.Judged.{Judged}
use Rattle.judged.specs.Went.{Went, is_silent, tally_of, told_of, turned_by}
use Rattle.promise.specs.declared.Answer.{Answer}
use Rattle.promise.specs.declared.Refusal.{Refusal}
use Rattle.promise.specs.declared.Refusal.TheVariants.{NoInformation}
use Rattle.promise.specs.Calls.{Outcome, answer_in, Promise}
use Rattle.promise.specs.Refusals as promise

-- the answer before the first period
abbrev pub nothing : Answer
nothing = record { loglik = 0ᶠ; d_diffuse = 0; heard = 0; news = 0; cov_off = 0; mean_off = 0 }

-- a call past its checks may run: it is lent no state, and R Q R' as the checks have left it
pub begun : {x : Model} {o : Offsets} {y : ℕ} {rqr : List Float} {w : CovParts} {w' : MeanParts} → Fit x o y w w' → mat x.m rqr ≡ noise x → FitOn x o y rqr w w' 0 0 nothing
begun f e = fit_on f e (record { m8 = f.accepted.sizes.m8; whole = λ some. absurd (some refl) }) (record { diffuse = omega arith; heard = omega arith; news = omega arith })

from_nothing : (k : Counts) (t : ℕ) (l : Float) (u : ℕ) → onward nothing k t l u ≡ answer_in k t l u
unfolding told_before
from_nothing k t l u = rw (zero-add, zero-add, zero-add) refl

module _ (x : Model) (o : Offsets) (y : List Float) where
  abbrev kinds : List Class
  kinds = map class_of y

  -- the refusals before the run; `room`: every output is as long as needed
  abbrev pub number : Bool → ℕ
  number room = refusal x o (length y) (any_of is_infinity kinds) room

  pub by_number : (room : Bool) (k : ℕ) → k ≡ number room → ending x o kinds room ≡ ending_of k (no_information (counts_of (cov_of x kinds).0 kinds))
  unfolding ending
  by_number room k e = rw (length-map, ← e) refl

  pub is_turned : (room : Bool) (e : Refusal) → promise.number e ≡ number room → ending x o kinds room ≡ turned (promise.number e)
  is_turned room e h = by_number room (promise.number e) h ∙ turned_by e _

  -- w and w' are the parts as they were lent
  module _ (w : CovParts) (w' : MeanParts) where
    abbrev pub End : Ending → CovOutcome × MeanOutcome
    End f = (cov_outcome x f kinds w, mean_outcome x f o kinds y w')

    pub turned_away : (e : Refusal) → Promise (End (turned (promise.number e))) (Err e) w w'
    unfolding cov_outcome mean_outcome number_of after
    turned_away e = record { refusal = refl; answer = tt; kinds = refl; cov = λ q. refl; mean = λ q. refl }

    -- the run from the start, and refusal 12
    module _ {s s' : List Float} {live : Bool} {e : Judged} {b : CovParts} {b' : MeanParts} (begins : length s ≡ 0) (r : Went x o y s live 0 nothing true e s' w b w' b') where
      cov_same : cov_on x s live kinds ≡ cov_of x kinds
      unfolding cov_on cov_from cov_of start_of
      cov_same = rw (eq-eqb _ _ begins) refl

      mean_begun : (cs : List CovPeriod) → mean_on x o s 0ᶠ cs y ≡ mean_of x o cs y
      unfolding mean_on mean_from mean_of
      mean_begun cs = rw (eq-eqb _ _ begins) refl

      mean_same : mean_on x o s 0ᶠ (cov_on x s live kinds).0 y ≡ mean_of x o (cov_of x kinds).0 y
      mean_same = mean_begun (cov_on x s live kinds).0 ∙ ap (λ (c : List CovPeriod × Cov). mean_of x o c.0 y) cov_same

      answer_same : e.answer
          ≡ answer_in (counts_of (cov_of x kinds).0 kinds) (cov_report 0 (cov_of x kinds).0) (mean_of x o (cov_of x kinds).0 y).1.loglik (mean_report 0 (mean_of x o (cov_of x kinds).0 y).0)
      answer_same = rw (mean_same, cov_same) at r.answer ∙ from_nothing _ _ _ _

      silent_so : e.silent ≡ no_information (counts_of (cov_of x kinds).0 kinds)
      unfolding is_silent
      silent_so = r.silent ∙ ap (λ (a : Answer). no_information (tally_of a)) answer_same

      by : (t : Bool) → e.silent ≡ t → Promise (End (ending_of 0 t)) (cond t (Err NoInformation) (Ok e.answer)) b b'
      unfolding cov_outcome mean_outcome number_of ending_of after counts_in loglik_in report_in
      by true h =
          record {
            refusal = refl;
            answer = tt;
            kinds = rw h at r.kinds;
            cov = λ q. rw h at (r.cov q);
            mean = λ q. rw h at (r.mean q);
          }
      by false h =
          record {
            refusal = refl;
            answer = answer_same;
            kinds = rw (h, cov_same) at r.kinds;
            cov = λ q. rw (h, cov_same) at (r.cov q);
            mean = λ q. rw (h, mean_same) at (r.mean q);
          }

      pub ended : Promise (End (ending_of 0 (no_information (counts_of (cov_of x kinds).0 kinds)))) (told_of e) b b'
      ended = subst (λ (t : Bool). Promise (End (ending_of 0 t)) (told_of e) b b') silent_so (by e.silent refl)

-- what the run of a call past its checks leaves: r its answer, b and b' the parts afterwards
abbrev pub Run : Model → Offsets → List Float → CovParts → MeanParts → Outcome → CovParts → MeanParts → Type 0
Run x o y w w' r b b' = Promise (End x o y w w' (ending_of 0 (no_information (counts_of (cov_of x (map class_of y)).0 (map class_of y))))) r b b'

-- what the checks say tells the first refusal before the run that the inputs and the lent outputs earn
pub record Checked (x : Model) (o : Offsets) (y : List Float) (w : CovParts) (w' : MeanParts) (k : ℕ) : Type 0 where
  pub number : k ≡ number x o y (roomy x w w')
