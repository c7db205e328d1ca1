-- What a stretch of periods leaves: what the run writes, or blanks where refusal 12 applies.
use Rattle.std.specs.Prelude.{◌≡◌, ℕ, zero, suc, Bool, true, false, cond, ◌&&◌, List, map, replicate, Float, Ok, Err}
use Rattle.std.proofs.Math.Path.{refl, sym}
use Rattle.std.proofs.lemmas.List.{length-replicate}
use Rattle.definition.specs.Num.{0ᶠ, zeros}
use Rattle.definition.specs.Parts.{CovPart, MeanPart}
use Rattle.definition.specs.Inputs.{Model, Offsets, class_of}
use Rattle.definition.specs.Reports.{cov_report, mean_report}
use Rattle.definition.specs.Outcome.{CovParts, MeanParts, Counts, turned, ending_of, after, kinds_need, cov_need, mean_need, kinds_written, cov_written, mean_written, counts_of, no_information}
use Rattle.laws.specs.Passes.{lay_again}
use Rattle.carried.specs.State.{cov_kept, mean_kept}
use Rattle.promise.specs.declared.Answer.{Answer}
use Rattle.promise.specs.declared.Refusal.{Refusal}
use Rattle.promise.specs.declared.Refusal.TheVariants.{NoInformation}
use Rattle.promise.specs.Numbers.{numbered}
use Rattle.promise.specs.Refusals.{number}
use Rattle.promise.specs.Calls.{Outcome}
use Rattle.forward.specs.declared.End.{End}
use Rattle.forward.specs.View.{onward, cov_on, mean_on, Ran}
use Rattle.judged.specs.declared.Judged.{Judged}
use Rattle.judged.specs.Blanked.{Blanked}

-- an answer's counts
abbrev pub tally_of : Answer → Counts
tally_of a = record { d_diffuse = a.d_diffuse; heard = a.heard; news = a.news }

-- refusal 12, in the last stretch alone
unfoldable pub is_silent : Bool → Answer → Bool
is_silent last a = last && no_information (tally_of a)

-- what the call comes back with, then: refusal 12, or the answer
abbrev pub told_of : Judged → Outcome
told_of e = cond e.silent (Err NoInformation) (Ok e.answer)

-- a refusal before the run turns the call away, whatever the run would come to
turned_by_number : (k : ℕ) (t : Bool) → (k ≡ 0 → ⊥) → ending_of k t ≡ turned k
unfolding ending_of
turned_by_number zero t some = absurd (some refl)
turned_by_number (suc k) t some = refl

pub turned_by : (e : Refusal) (t : Bool) → ending_of (number e) t ≡ turned (number e)
turned_by e t = turned_by_number (number e) t (numbered e)

-- w is what was lent, b what it holds afterwards
pub record Went (x : Model) (o : Offsets) (y s : List Float) (on : Bool) (done : ℕ) (before : Answer) (last : Bool) (e : Judged) (s' : List Float) (w b : CovParts) (w' b' : MeanParts) : Type 0 where
  pub answer : e.answer
      ≡ onward before (counts_of (cov_on x s on (map class_of y)).0 (map class_of y)) (cov_report done (cov_on x s on (map class_of y)).0)
      (mean_on x o s before.loglik (cov_on x s on (map class_of y)).0 y).1.loglik (mean_report done (mean_on x o s before.loglik (cov_on x s on (map class_of y)).0 y).0)
  pub live : e.live ≡ (cov_on x s on (map class_of y)).1.live
  pub silent : e.silent ≡ is_silent last e.answer
  pub state : s' ≡ mean_kept x.m (cov_kept x.m s (cov_on x s on (map class_of y)).1) (mean_on x o s before.loglik (cov_on x s on (map class_of y)).0 y).1.a
  pub kinds : b.kinds ≡ after (ending_of 0 e.silent) (kinds_written (cov_on x s on (map class_of y))) (replicate (kinds_need x) 0) w.kinds
  pub cov : (q : CovPart) → b.part q ≡ after (ending_of 0 e.silent) (cov_written x.m (cov_on x s on (map class_of y)) q) (zeros (cov_need x q)) (w.part q)
  pub mean : (q : MeanPart) → b' q ≡ after (ending_of 0 e.silent) (mean_written (mean_on x o s before.loglik (cov_on x s on (map class_of y)).0 y) q) (zeros (mean_need x q)) (w' q)

-- ---- the run's two ends

module _ {x : Model} {o : Offsets} {y s : List Float} {live : Bool} {done : ℕ} {before : Answer} {e : End} {s' : List Float} {w b : CovParts} {w' b' : MeanParts} (last : Bool) (r : Ran x o y s live done before e s' w b w' b') where
  pub heard : is_silent last e.answer ≡ false → Went x o y s live done before last (record { answer = e.answer; live = e.live; silent = false }) s' w b w' b'
  unfolding ending_of after
  heard h = record { answer = r.answer; live = r.live; silent = sym h; state = r.state; kinds = r.kinds.is; cov = λ q. (r.cov q).is; mean = λ q. (r.mean q).is }

  pub silenced : {c : CovParts} {c' : MeanParts} → is_silent last e.answer ≡ true → Blanked x b c b' c' → Went x o y s live done before last (record { answer = e.answer; live = e.live; silent = true }) s' w c w' c'
  unfolding ending_of after
  silenced {c} {c'} h z =
      record {
        answer = r.answer;
        live = r.live;
        silent = sym h;
        state = r.state;
        kinds = lay_again (kinds_need x) _ (replicate (kinds_need x) 0) w.kinds b.kinds c.kinds r.kinds (length-replicate (kinds_need x) 0) z.kinds;
        cov = λ q. lay_again (cov_need x q) _ (zeros (cov_need x q)) (w.part q) (b.part q) (c.part q) (r.cov q) (length-replicate (cov_need x q) 0ᶠ) (z.cov q);
        mean = λ q. lay_again (mean_need x q) _ (zeros (mean_need x q)) (w' q) (b' q) (c' q) (r.mean q) (length-replicate (mean_need x q) 0ᶠ) (z.mean q);
      }
