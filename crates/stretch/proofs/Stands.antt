-- A stretch past its checks, from where the run stands: what the passes did over the later parts of the lists, from the carried state, is what the
-- definition says of the whole lists, and the state that they leave is the definition's.
use mathlib.Core.Path.{◌≡◌, refl, sym, ap, ap₂, ◌∙◌}
use Prim.Native.Nat.{ℕ, ◌+◌, ◌*◌, ◌<◌}
use native.Mathlib.Omega.{arith}
use mathlib.Core.Bool.{Bool, true, false, cond, ◌&&◌}
use mathlib.Core.List.{List, [], map}
use lib.ListN.{length, take, drop, length-drop, length-map}
use lib.Seq.{length-take-le}
use lib.Ieee.{Float}
use Rattle.std.specs.Prelude.{Ok, Err}
use borrow.Author.Tests.{ne_eqb}
use Rattle.definition.specs.Run.{any_of, lay, pairs, chunks}
use Rattle.definition.specs.Cov.{Cov, CovPeriod}
use Rattle.definition.specs.Inputs.{Model, Offsets, Class, class_of, is_infinity, gap_rows, noise, system_from, frame_from, system_of, frame_of}
use Rattle.definition.specs.Outcome.{CovParts, MeanParts, Ending, turned, ending_of, number_of, after, counts_in, loglik_in, report_in, no_information, decisions_of, kinds_need, cov_need, mean_need}
use Rattle.definition.specs.Carried.{Past, Carried, plus, past_on, mean_off_on, went}
use Rattle.definition.specs.Carried as carried
use Rattle.definition.specs.Saved.{saved_of}
use Rattle.definition.specs.Stretch.{From, StretchOutcome, carried_in, past_in, bad_from, stretch_refusal, stretch_ending, roomy_stretch, cov_stretch, mean_stretch, save_stretch, stretch_outcome}
use Rattle.laws.specs.Accepted.{Chosen}
use Rattle.promise.specs.declared.Answer.{Answer}
use Rattle.promise.specs.declared.Refusal.{Refusal}
use Rattle.promise.specs.declared.Refusal.TheVariants.{NoInformation}
use Rattle.promise.specs.Refusals as promise
use Rattle.promise.specs.Calls.{Outcome, answer_in, Promise, PromiseStretch}
use Rattle.carried.specs.State.{StateFits, cov_in, cov_from, mean_from, cov_kept, mean_kept}
use Rattle.carried.specs.Next.{Whole, some_next, cov_next, mean_next_lem}
use Rattle.forward.specs.View.{cov_on, mean_on}
use Rattle.judged.specs.declared.Judged.{Judged}
use Rattle.judged.specs.Went.{Went, is_silent, tally_of, told_of, turned_by}
use Rattle.onward.specs.Later.{later_of}
use Rattle.carried.specs.declared.Tallies.{Tallies}
use Rattle.saved.specs.Loaded.{carried_of}
use Rattle.laws.specs.Later.{cov_later, mean_later}
use Rattle.laws.specs.Long.{Long, covs_long, mean_long}

-- designs and transitions have numbers, and each is given once or as a list
pub record Given (x : Model) : Type 0 where
  pub pm : 0 < x.p * x.m
  pub mm : 0 < x.m * x.m
  pub designs : Chosen (x.p * x.m) (length x.z_once) (length x.z_list)
  pub steps : Chosen (x.m * x.m) (length x.t_once) (length x.t_list)

module _ (x : Model) (o : Offsets) (y : List Float) where
  abbrev classes : List Class
  classes = map class_of y

  -- the outcome from what is carried
  abbrev from_here : Bool → Bool → Bool → CovParts → MeanParts → List ℕ → Carried → StretchOutcome
  from_here bad last room w w' save c =
      let f = stretch_ending x o c.past bad last classes room in
      record { cov = cov_stretch x f c.past classes w; mean = mean_stretch x f o c y w'; save = save_stretch x f o c last y save }

  -- s and t: the state lent and where the run stands
  module _ (s : List Float) (t : Tallies) (some : length s ≡ 0 → ⊥) (given : Given x) where
    abbrev here : Carried
    here = carried_of x.m s t

    abbrev later : Model
    later = later_of x t.done

    cov_here : cov_on later s t.live classes ≡ carried.cov_from x here.past classes
    unfolding cov_on cov_from carried.cov_from system_of noise
    cov_here = rw (ne_eqb _ _ some) (sym (cov_later x.p x.m t.done x.z_once x.z_list x.t_once x.t_list given.pm given.mm given.designs given.steps x.h (noise x) here.past.cov (gap_rows x.n x.p classes)))

    mean_from_lem : (cs : List CovPeriod) → mean_on later o s t.answer.loglik cs y ≡ carried.mean_from x o t.done here.mean cs y
    unfolding mean_on mean_from carried.mean_from frame_of
    mean_from_lem cs = rw (ne_eqb _ _ some) (sym (mean_later x.p x.m t.done x.z_once x.z_list x.t_once x.t_list given.pm given.mm given.designs given.steps (record { c = o.c; d = o.d }) here.mean (pairs (decisions_of cs) (chunks x.n x.p y))))

    mean_here : mean_on later o s t.answer.loglik (cov_on later s t.live classes).0 y ≡ carried.mean_on x o here y
    unfolding carried.mean_on
    mean_here = mean_from_lem (cov_on later s t.live classes).0 ∙ ap (λ (c : List CovPeriod × Cov). carried.mean_from x o t.done here.mean c.0 y) cov_here

    module _ {last : Bool} {e : Judged} {s' : List Float} {w b : CovParts} {w' b' : MeanParts} (r : Went later o y s t.live t.done t.answer last e s' w b w' b') where
      answer-here : e.answer ≡ answer_in (past_on x here.past classes).counts (past_on x here.past classes).cov_off (carried.mean_on x o here y).1.loglik (mean_off_on x o here y)
      unfolding past_on plus mean_off_on
      answer-here = rw (mean_here, cov_here) at r.answer

      silent-here : e.silent ≡ (last && no_information (past_on x here.past classes).counts)
      unfolding is_silent
      silent-here = r.silent ∙ ap (λ (a : Answer). last && no_information (tally_of a)) answer-here

      -- the state that is left is the definition's
      module _ (fits : StateFits x.m (length s)) where
        long : Long x.m here.past.cov
        long =
            let h = fits.whole some in
            record {
              star = length-take-le (x.m * x.m) (drop x.m s) (simp length-drop (omega arith));
              pinf = length-take-le (x.m * x.m) (drop (x.m + x.m * x.m) s) (simp length-drop (omega arith));
              root = length-take-le (x.m * x.m) (drop (x.m + x.m * x.m + x.m * x.m) s) (simp length-drop (omega arith));
              unres = length-take-le (x.m * x.m) (drop (x.m + x.m * x.m + x.m * x.m + x.m * x.m) s) (simp length-drop (omega arith));
            }

        ends : Long x.m (carried.cov_from x here.past classes).1
        unfolding carried.cov_from system_of system_from
        ends = covs_long (system_of x) t.done here.past.cov (gap_rows x.n x.p classes) long

        mean_ends : length (carried.mean_on x o here y).1.a ≡ x.m
        unfolding carried.mean_on carried.mean_from frame_of frame_from
        mean_ends = mean_long (frame_of x) (record { c = o.c; d = o.d }) t.done here.mean _ (length-take-le x.m s (let h = fits.whole some in omega arith))

        whole : Whole x.m (carried.cov_from x here.past classes).1 (carried.mean_on x o here y).1.a
        whole = let l = ends in record { mean = mean_ends; star = l.star; pinf = l.pinf; root = l.root; unres = l.unres }

        left : s' ≡ mean_kept x.m (cov_kept x.m s (carried.cov_from x here.past classes).1) (carried.mean_on x o here y).1.a
        left = rw (mean_here, cov_here) at r.state

        -- the state's next mean and covariances
        next_mean : take x.m s' ≡ (carried.mean_on x o here y).1.a
        unfolding mean_from
        next_mean =
            let c = (carried.cov_from x here.past classes).1 in
            let a = (carried.mean_on x o here y).1.a in
            ap (take x.m) left ∙ rw (ne_eqb _ _ (some_next x.m s c a fits some whole)) at (mean_next_lem x.m s c a fits some whole [])

        next_cov : cov_in x.m s' e.live ≡ (carried.cov_from x here.past classes).1
        unfolding cov_from
        next_cov =
            let c = (carried.cov_from x here.past classes).1 in
            let a = (carried.mean_on x o here y).1.a in
            let live : e.live ≡ c.live = rw cov_here at r.live in
            ap₂ (λ (u : List Float) (v : Bool). cov_in x.m u v) left live
            ∙ rw (ne_eqb _ _ (some_next x.m s c a fits some whole)) at (cov_next x.m s c a fits some whole [] [])

        -- where the run stands afterwards
        abbrev pub onward' : Tallies
        onward' = record { done = t.done + x.n; live = e.live; answer = e.answer }

        pub goes_on : carried_of x.m s' onward' ≡ went x o here y
        unfolding went past_on
        goes_on = made e.answer next_mean next_cov answer-here
          where
            made : (g : Answer) {a : List Float} {c : Cov} → take x.m s' ≡ a → cov_in x.m s' e.live ≡ c → g ≡ answer_in (past_on x here.past classes).counts (past_on x here.past classes).cov_off (carried.mean_on x o here y).1.loglik (mean_off_on x o here y)
                → carried_of x.m s' (record { done = t.done + x.n; live = e.live; answer = g })
                ≡ record {
                  past = record { done = t.done + x.n; cov = c; counts = (past_on x here.past classes).counts; cov_off = (past_on x here.past classes).cov_off };
                  mean = record { a = a; loglik = (carried.mean_on x o here y).1.loglik };
                  mean_off = mean_off_on x o here y;
                }
            made g e1 e2 e3 = rw (e1, e2, e3) refl

        -- ---- the two ends past the checks: silent, in the last stretch, or answered

        module _ (save save' : List ℕ) (kept : save' ≡ cond last save (lay (saved_of x.p x.m x.r (carried_of x.m s' onward')) save)) where
          abbrev End : Ending → StretchOutcome
          End f = record { cov = cov_stretch x f here.past classes w; mean = mean_stretch x f o here y w'; save = save_stretch x f o here last y save }

          by : (q : Bool) → e.silent ≡ q → Promise ((End (ending_of 0 q)).cov, (End (ending_of 0 q)).mean) (cond q (Err NoInformation) (Ok e.answer)) b b'
          unfolding cov_stretch mean_stretch number_of ending_of after counts_in loglik_in report_in kinds_need cov_need mean_need
          by true h =
              record {
                refusal = refl;
                answer = tt;
                kinds = rw h at r.kinds;
                cov = λ q. rw h at (r.cov q);
                mean = λ q. rw h at (r.mean q);
              }
          by false h =
              record {
                refusal = refl;
                answer = answer-here;
                kinds = rw (h, cov_here) at r.kinds;
                cov = λ q. rw (h, cov_here) at (r.cov q);
                mean = λ q. rw (h, mean_here) at (r.mean q);
              }

          saved_by : (l q : Bool) → last ≡ l → e.silent ≡ q → save' ≡ save_stretch x (ending_of 0 q) o here last y save
          unfolding save_stretch ending_of after
          saved_by true true f h = kept ∙ rw f refl
          saved_by true false f h = kept ∙ rw f refl
          saved_by false true f h = absurd (let z : e.silent ≡ false = silent-here ∙ rw f refl in let u : ◌≡◌ {A = ℕ} 0 1 = cc in omega arith)
          saved_by false false f h = kept ∙ rw (f, goes_on) refl

          pub ended : PromiseStretch (End (ending_of 0 e.silent)) (told_of e) b b' save'
          ended = record { filter = by e.silent refl; save = saved_by last e.silent refl refl }

-- ---- the call

module _ (x : Model) (o : Offsets) (y : List Float) (from : From) (last : Bool) (w : CovParts) (w' : MeanParts) (save : List ℕ) where
  -- the number of the first refusal before the run that applies, 0 for none
  abbrev pub number : ℕ
  number = stretch_refusal x o (length y) (any_of is_infinity (map class_of y)) (roomy_stretch x last w w' save) (bad_from x from) (past_in x from).done

  by_number : (k : ℕ) → k ≡ number → (c : Past) → c.done ≡ (past_in x from).done
      → stretch_ending x o c (bad_from x from) last (map class_of y) (roomy_stretch x last w w' save) ≡ ending_of k (last && no_information (past_on x c (map class_of y)).counts)
  unfolding stretch_ending
  by_number k e c d = rw (length-map, d, e) refl

  -- the outcome, by where the run stands and how the call ends
  abbrev Of : Carried → Ending → StretchOutcome
  Of c f = record { cov = cov_stretch x f c.past (map class_of y) w; mean = mean_stretch x f o c y w'; save = save_stretch x f o c last y save }

  by_ending : (c : Carried) (f : Ending) → c ≡ carried_in x o from → stretch_ending x o c.past (bad_from x from) last (map class_of y) (roomy_stretch x last w w' save) ≡ f
      → stretch_outcome x o from last y w w' save ≡ Of c f
  unfolding stretch_outcome
  by_ending c f h e =
      let ending : Carried → Ending = λ c. stretch_ending x o c.past (bad_from x from) last (map class_of y) (roomy_stretch x last w w' save) in
      sym (ap (λ (c : Carried). Of c (ending c)) h) ∙ ap (Of c) e

  pub refused : (e : Refusal) → promise.number e ≡ number → PromiseStretch (stretch_outcome x o from last y w w' save) (Err e) w w' save
  unfolding cov_stretch mean_stretch save_stretch number_of after
  refused e h =
      rw (by_ending (carried_in x o from) (turned (promise.number e)) refl (by_number (promise.number e) h (past_in x from) refl ∙ turned_by e _))
      (record { filter = record { refusal = refl; answer = tt; kinds = refl; cov = λ q. refl; mean = λ q. refl }; save = refl })

  pub told : 0 ≡ number
      → (s : List Float) (t : Tallies) (some : length s ≡ 0 → ⊥) (given : Given x)
      → carried_of x.m s t ≡ carried_in x o from
      → StateFits x.m (length s)
      → {e : Judged} {s' : List Float} {b : CovParts} {b' : MeanParts} {save' : List ℕ} {r : Outcome}
      → Went (later_of x t.done) o y s t.live t.done t.answer last e s' w b w' b'
      → save' ≡ cond last save (lay (saved_of x.p x.m x.r (carried_of x.m s' (record { done = t.done + x.n; live = e.live; answer = e.answer }))) save)
      → r ≡ told_of e
      → PromiseStretch (stretch_outcome x o from last y w w' save) r b b' save'
  told check s t some given stands fits {e} {save' = save'} ran kept said =
      let c = carried_of x.m s t in
      let f : stretch_ending x o c.past (bad_from x from) last (map class_of y) (roomy_stretch x last w w' save) ≡ ending_of 0 e.silent =
      by_number 0 check c.past (ap (λ (c : Carried). c.past.done) stands) ∙ ap (ending_of 0) (sym (silent-here x o y s t some given ran)) in
      rw (said, by_ending c (ending_of 0 e.silent) stands f) (ended x o y s t some given ran fits save save' kept)
