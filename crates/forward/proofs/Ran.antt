-- The two passes one after the other: what they may ask for, and that they leave the definition's run.
use mathlib.Core.Path.{◌≡◌, refl, ap, ◌∙◌, subst}
use Prim.Native.Nat.{ℕ, ◌+◌, ◌*◌, ◌≤◌}
use mathlib.Core.Bool.{Bool, true, false, not, cond}
use mathlib.Core.List.{List, map}
use native.Mathlib.Nat.{mul-le-mul}
use native.Mathlib.Omega.{arith}
use lib.ListN.{length, take, drop, length-map, length-take, length-drop}
use lib.Dec.{eqb}
use lib.Seq.{take_at, length-take-le}
use lib.Ieee.{Float}
use borrow.Author.Tests.{eqb-false}
use Rattle.definition.specs.Num.{tabulate}
use Rattle.definition.specs.Run.{count, join, pairs, chunks}
use Rattle.definition.specs.Cov.{Cov, CovPeriod, Decision, cov_run}
use Rattle.definition.specs.Mean.{Mean, MeanPeriod, mean_period, mean_run}
use Rattle.definition.specs.Parts.{CovPart, predCov, pred_inf, filtCov, fStar, fInf, mStar, mInf, MeanPart, predMean, filtMean, innovations, is_news, kind_block}
use Rattle.definition.specs.Inputs.{Model, Offsets, class_of, is_gap, gap_rows, noise, system_from, system_of, frame_from, frame_of, start_from, start_inf}
use Rattle.definition.specs.Refusals.{not_finite}
use Rattle.definition.specs.Reports.{first_from, cov_report, mean_report, told_before}
use Rattle.definition.specs.Outcome.{CovParts, MeanParts, kinds_need, cov_need, mean_need, kinds_written, cov_written, mean_written, decisions_of, counts_of}
use Rattle.laws.specs.Accepted.{as_long}
use Rattle.laws.specs.Lists.{length_tab, length-scan, length_pairs, length-chunks}
use Rattle.laws.specs.Flat.{flat_in, decision_rows, block_at}
use Rattle.laws.specs.Passes.{Laid, count-le}
use Rattle.laws.specs.ReadBack.{rows_back, kinds_join}
use Rattle.laws.specs.Kinds.{news_kind, news_counted}
use Rattle.laws.specs.Shapes.{Sized, run_whole, run_length}
use Rattle.laws.specs.Told.{off_at, cov_told, mean_told}
use Rattle.model.specs.Past.{design_fits, transition_fits, start_fits}
use Rattle.carried.specs.State.{StateFits, cov_in, cov_from, mean_from, mean_kept}
use Rattle.carried.specs.Beside.{mean_beside}
use Rattle.cov.specs.declared.Ended.{Ended}
use Rattle.cov.specs.View as covs
use Rattle.dense.specs.Views.{mat}
use Rattle.mean.specs.View as means
use Rattle.promise.specs.declared.Answer.{Answer}
use Rattle.promise.specs.Lent.{cov_parts, mean_parts}
use Rattle.reports.specs.Rooms.{CovRooms, MeanRooms}
use Rattle.forward.specs.View.{FitOn, Few, Ran, counted_on, reported_on, cov_on, mean_on}

-- ---- what the passes may ask for

module _ {x : Model} {o : Offsets} {y : ℕ} {rqr : List Float} {w : CovParts} {w' : MeanParts} {size done : ℕ} {before : Answer} (f : FitOn x o y rqr w w' size done before) where
  pub cov_ready : covs.Ready x.p x.m x.n (length x.z_once) (length x.z_list) (length x.h) (length x.t_once) (length x.t_list) (length x.p_star) (length x.flags) y
  cov_ready =
      record {
        n4096 = f.sizes.n4096;
        design = design_fits f.sizes f.inputs;
        noise = f.inputs.h;
        transition = transition_fits f.sizes f.inputs;
        start = start_fits f.sizes f.inputs;
        readings = f.readings;
      }

  pub cov_rooms : covs.Rooms x.p x.m x.n (length (w.part predCov)) (length (w.part pred_inf)) (length (w.part filtCov)) (length w.kinds) (length (w.part fStar)) (length (w.part fInf)) (length (w.part mStar)) (length (w.part mInf))
  unfolding kinds_need cov_need
  cov_rooms =
      record {
        pred = f.room.cov predCov;
        pred_inf = f.room.cov pred_inf;
        filt = f.room.cov filtCov;
        kinds = f.room.kinds;
        stars = f.room.cov fStar;
        infs = f.room.cov fInf;
        m_stars = f.room.cov mStar;
        m_infs = f.room.cov mInf;
      }

  pub few_records : x.n * x.p ≤ 65536
  few_records = omega (arith, mul-le-mul {n₁ = x.n} {m₁ = x.p} {n₂ = 4096} {m₂ = 8} f.sizes.n4096 f.sizes.p8)

  pub few : y ≤ 65536
  few = omega (arith, few_records, f.readings)

  -- of parts that are as long as they were lent

  pub state_again : {k : ℕ} → k ≡ size → StateFits x.m k
  state_again e = rw e f.state

  pub records : {ks : ℕ} → ks ≡ length w.kinds → x.n * x.p ≤ ks
  unfolding kinds_need
  records e = as_long f.room.kinds e

  pub mean_ready : (k : List ℕ) (a b c d : List Float) → length k ≡ length w.kinds → length a ≡ length (w.part fStar) → length b ≡ length (w.part fInf) → length c ≡ length (w.part mStar) → length d ≡ length (w.part mInf) → means.Ready x.p x.m x.n (length x.z_once) (length x.z_list) (length x.t_once) (length x.t_list) (length o.c) (length o.d) (length o.a1) y (flat_in k a b c d)
  unfolding kinds_need cov_need
  mean_ready k a b c d ek ea eb ec ed =
      record {
        n4096 = f.sizes.n4096;
        design = design_fits f.sizes f.inputs;
        transition = transition_fits f.sizes f.inputs;
        shift = f.inputs.c;
        intercepts = f.inputs.d;
        start = f.inputs.a1;
        readings = f.readings;
        ks = as_long f.room.kinds ek;
        fs = as_long (f.room.cov fStar) ea;
        fi = as_long (f.room.cov fInf) eb;
        ms = as_long (f.room.cov mStar) ec;
        mi = as_long (f.room.cov mInf) ed;
      }

  pub mean_rooms : means.Rooms x.p x.m x.n (length (w' predMean)) (length (w' filtMean)) (length (w' innovations))
  unfolding mean_need
  mean_rooms = record { pm = f.room.mean predMean; fm = f.room.mean filtMean; vs = f.room.mean innovations }

  -- to look for what ran off
  pub cov_looks : (d pc pi fc : ℕ) → d ≤ x.n → pc ≡ length (w.part predCov) → pi ≡ length (w.part pred_inf) → fc ≡ length (w.part filtCov) → CovRooms d x.m x.n done pc pi fc
  unfolding cov_need
  cov_looks d pc pi fc h ep ei ef =
      record {
        m8 = f.sizes.m8;
        n4096 = f.sizes.n4096;
        done4096 = f.early;
        few = h;
        pred = as_long (f.room.cov predCov) ep;
        inf = omega (arith, f.room.cov pred_inf, ei);
        filt = as_long (f.room.cov filtCov) ef;
      }

  pub mean_looks_lem : (pm fm : ℕ) → pm ≡ length (w' predMean) → fm ≡ length (w' filtMean) → MeanRooms x.m x.n done pm fm
  unfolding mean_need
  mean_looks_lem pm fm ep ef =
      record { m8 = f.sizes.m8; n4096 = f.sizes.n4096; done4096 = f.early; pred = as_long (f.room.mean predMean) ep; filt = as_long (f.room.mean filtMean) ef }

-- ---- what the covariance pass left, read back

news_are : (k : ℕ) (r : List CovPeriod × Cov) (ks₀ ks : List ℕ) → Laid k (kinds_written r) ks₀ ks → count news_kind (take k ks) ≡ count is_news (join (decisions_of r.0))
unfolding kinds_written
news_are k r ks₀ ks l =
    ap (count news_kind) (ap (take k) l.is ∙ take_at (join (map kind_block r.0)) (drop (length (join (map kind_block r.0))) ks₀) k l.long ∙ kinds_join r.0)
    ∙ news_counted (join (decisions_of r.0))

module _ (x : Model) (y s : List Float) (live : Bool) where
  -- the covariance pass's run, by the R Q R' that it was handed
  abbrev cov_ran : List Float → List CovPeriod × Cov
  cov_ran rqr = cov_run (system_from x.p x.m x.z_once x.z_list x.h x.t_once x.t_list (mat x.m rqr)) 0 (cov_from x.m s live x.p_star x.flags) (gap_rows x.n x.p (map class_of y))

  abbrev run : List CovPeriod × Cov
  run = cov_on x s live (map class_of y)

  cov_run_lem : (rqr : List Float) → mat x.m rqr ≡ noise x → cov_ran rqr ≡ run
  unfolding cov_on system_of
  cov_run_lem rqr e = rw e

  rows : length y ≡ x.n * x.p → {k k₀ : List ℕ} {a a₀ b b₀ c c₀ d d₀ : List Float} → Laid (x.n * x.p) (kinds_written run) k₀ k → Laid (x.n * x.p) (cov_written x.m run fStar) a₀ a → Laid (x.n * x.p) (cov_written x.m run fInf) b₀ b → Laid (x.n * (x.p * x.m)) (cov_written x.m run mStar) c₀ c → Laid (x.n * (x.p * x.m)) (cov_written x.m run mInf) d₀ d
      → decision_rows x.n x.p x.m (flat_in k a b c d) ≡ decisions_of run.0
  unfolding cov_on system_of system_from kinds_written cov_written
  rows ly {k} {k₀} {a} {a₀} {b} {b₀} {c} {c₀} {d} {d₀} lk la lb lc ld =
      same lk.is la.is lb.is lc.is ld.is ∙ rows_back x.p x.m run.0 (run_whole (system_of x) 0 (cov_from x.m s live x.p_star x.flags) (map class_of y) x.n x.p (length-map y class_of ∙ ly)) x.n _ _ _ _ _ (run_length (system_of x) 0 (cov_from x.m s live x.p_star x.flags) (map class_of y) x.n x.p)
    where
      same : {k k' : List ℕ} {a a' b b' c c' d d' : List Float} → k ≡ k' → a ≡ a' → b ≡ b' → c ≡ c' → d ≡ d' → decision_rows x.n x.p x.m (flat_in k a b c d) ≡ decision_rows x.n x.p x.m (flat_in k' a' b' c' d')
      same e1 e2 e3 e4 e5 = cc

  run_many : length run.0 ≡ x.n
  unfolding cov_on
  run_many = run_length (system_of x) 0 (cov_from x.m s live x.p_star x.flags) (map class_of y) x.n x.p

  -- no more diffuse periods than periods
  diffuse_few : count (λ c. c.diffuse) run.0 ≤ x.n
  unfolding cov_on
  diffuse_few = omega (arith, count-le (λ (c : CovPeriod). c.diffuse) run.0, run_many)

  -- where they begin: a state of the right sizes
  begins_sized : StateFits x.m (length s) → length x.p_star ≡ x.m * x.m → Sized x.m (cov_from x.m s live x.p_star x.flags)
  unfolding cov_from start_from start_inf
  begins_sized f star = by (eqb (length s) 0) refl
    where
      by : (t : Bool) → eqb (length s) 0 ≡ t → Sized x.m (cond t (start_from x.m x.p_star x.flags) (cov_in x.m s live))
      by true e = record { star = star; pinf = length_tab (x.m * x.m) 0 _ }
      by false e =
          let room = f.whole (eqb-false (length s) 0 e) in
          record { star = simp (length-take, length-drop) (omega arith); pinf = simp (length-take, length-drop) (omega arith) }

mean_begins : (m : ℕ) (s a1 : List Float) → StateFits m (length s) → length a1 ≡ m → length (mean_from m s a1) ≡ m
unfolding mean_from
mean_begins m s a1 f e = by (eqb (length s) 0) refl
  where
    by : (t : Bool) → eqb (length s) 0 ≡ t → length (cond t a1 (take m s)) ≡ m
    by true q = e
    by false q = let room = f.whole (eqb-false (length s) 0 q) in simp length-take (omega arith)

-- ---- both passes

answer_is : {l : Float} {i j k t u i' j' k' t' u' : ℕ} → i ≡ i' → j ≡ j' → k ≡ k' → t ≡ t' → u ≡ u' → ◌≡◌ {A = Answer} (record { loglik = l; d_diffuse = i; heard = j; news = k; cov_off = t; mean_off = u }) (record { loglik = l; d_diffuse = i'; heard = j'; news = k'; cov_off = t'; mean_off = u' })
answer_is e f g h q = cc

module _ (x : Model) (o : Offsets) (y rqr s s₁ s₂ : List Float) (live : Bool) (done : ℕ) (before : Answer) (end : Ended) (heard news cov-off mean-off : ℕ) (with-counts a : Answer) (pm₀ pm fm₀ fm vs₀ vs pc₀ pc pi₀ pi fc₀ fc : List Float) (ks₀ ks : List ℕ) (fs₀ fs fi₀ fi ms₀ ms mi₀ mi : List Float) where
  -- the mean pass's run, over the records that the covariance pass left
  abbrev mean_ran : Float → List MeanPeriod × Mean
  mean_ran l = mean_run (frame_from x.p x.m x.z_once x.z_list x.t_once x.t_list) (record { c = o.c; d = o.d }) 0 (record { a = mean_from x.m s₁ o.a1; loglik = l }) (means.entries x.n x.p x.m (flat_in ks fs fi ms mi) y)

  -- the answer that it goes on from
  abbrev counts : Answer
  counts = counted_on before end.diffuse heard news cov-off

  abbrev CovPassed : List CovPeriod × Cov → Type 0
  CovPassed r = covs.Passed x.p x.m x.n r end s s₁ pc₀ pc pi₀ pi fc₀ fc ks₀ ks fs₀ fs fi₀ fi ms₀ ms mi₀ mi

  abbrev MeanPassed : List MeanPeriod × Mean → Answer → Type 0
  MeanPassed r b = means.Passed x.p x.m x.n r b a s₁ s₂ pm₀ pm fm₀ fm vs₀ vs

  cov_part : CovPassed (run x y s live) → (q : CovPart) → Laid (cov_need x q) (cov_written x.m (run x y s live) q) ((cov_parts pc₀ pi₀ fc₀ ks₀ fs₀ fi₀ ms₀ mi₀).part q) ((cov_parts pc pi fc ks fs fi ms mi).part q)
  unfolding cov_need cov_parts
  cov_part c predCov = c.pred
  cov_part c pred_inf = c.pred_inf
  cov_part c filtCov = c.filt
  cov_part c fStar = c.stars
  cov_part c fInf = c.infs
  cov_part c mStar = c.m_stars
  cov_part c mInf = c.m_infs

  kinds_part : CovPassed (run x y s live) → Laid (kinds_need x) (kinds_written (run x y s live)) (cov_parts pc₀ pi₀ fc₀ ks₀ fs₀ fi₀ ms₀ mi₀).kinds (cov_parts pc pi fc ks fs fi ms mi).kinds
  unfolding kinds_need cov_parts
  kinds_part c = c.kinds

  mean_part : {r : List MeanPeriod × Mean} {b : Answer} → MeanPassed r b → (q : MeanPart) → Laid (mean_need x q) (mean_written r q) (mean_parts pm₀ fm₀ vs₀ q) (mean_parts pm fm vs q)
  unfolding mean_need mean_parts
  mean_part c predMean = c.pm
  mean_part c filtMean = c.fm
  mean_part c innovations = c.vs

  run_is : StateFits x.m (length s) → length y ≡ x.n * x.p → CovPassed (run x y s live) → (l : Float) → mean_ran l ≡ mean_on x o s l (run x y s live).0 y
  unfolding mean_on frame_of means.entries
  run_is st ly c l =
      let e = rows x y s live ly c.kinds c.stars c.infs c.m_stars c.m_infs in
      let b : mean_from x.m s₁ o.a1 ≡ mean_from x.m s o.a1 = ap (λ (z : List Float). mean_from x.m z o.a1) c.state ∙ mean_beside x.m s _ _ _ _ o.a1 st in
      ap (λ (z : List Float). mean_run (frame_from x.p x.m x.z_once x.z_list x.t_once x.t_list) (record { c = o.c; d = o.d }) 0 (record { a = z; loglik = l }) (pairs (decision_rows x.n x.p x.m (flat_in ks fs fi ms mi)) (chunks x.n x.p y))) b
      ∙ ap (λ (ds : List (List Decision)). mean_run (frame_from x.p x.m x.z_once x.z_list x.t_once x.t_list) (record { c = o.c; d = o.d }) 0 (record { a = mean_from x.m s o.a1; loglik = l }) (pairs ds (chunks x.n x.p y))) e

  pub few_diffuse : FitOn x o (length y) rqr (cov_parts pc₀ pi₀ fc₀ ks₀ fs₀ fi₀ ms₀ mi₀) (mean_parts pm₀ fm₀ vs₀) (length s) done before → CovPassed (cov_ran x y s live rqr) → end.diffuse ≤ x.n
  few_diffuse f cp =
      let c : CovPassed (run x y s live) = subst CovPassed (cov_run_lem x y s live rqr f.noise) cp in
      omega (arith, c.diffuse, diffuse_few x y s live)

  pub few_counts : FitOn x o (length y) rqr (cov_parts pc₀ pi₀ fc₀ ks₀ fs₀ fi₀ ms₀ mi₀) (mean_parts pm₀ fm₀ vs₀) (length s) done before → CovPassed (cov_ran x y s live rqr) → heard ≡ count not (map is_gap (map class_of y)) → news ≡ count news_kind (take (x.n * x.p) ks) → x.n * x.p ≤ length ks → Few before end.diffuse heard news
  few_counts f cp eh en lk =
      record {
        tallies = f.tallies;
        diffuse = omega (arith, few_diffuse f cp, f.sizes.n4096);
        heard = omega (arith, count-le not (map is_gap (map class_of y)), length-map (map class_of y) is_gap, length-map y class_of, few f);
        news = omega (arith, count-le news_kind (take (x.n * x.p) ks), length-take-le (x.n * x.p) ks lk, few_records f);
      }

  -- what was looked at is what the run has
  cov_off_is : FitOn x o (length y) rqr (cov_parts pc₀ pi₀ fc₀ ks₀ fs₀ fi₀ ms₀ mi₀) (mean_parts pm₀ fm₀ vs₀) (length s) done before → CovPassed (run x y s live)
      → cov-off ≡ first_from done (tabulate (cond (not_finite (block_at (x.m * x.m) pc x.n)) x.n end.diffuse) (off_at (x.m * x.m) pc pi fc)) → cov-off ≡ cov_report done (run x y s live).0
  unfolding cov_on system_of system_from
  cov_off_is f c e =
      e ∙ cov_told (system_of x) 0 (cov_from x.m s live x.p_star x.flags) (gap_rows x.n x.p (map class_of y)) (begins_sized x y s live f.state f.inputs.p_star) x.n
      (run_length (system_of x) 0 (cov_from x.m s live x.p_star x.flags) (map class_of y) x.n x.p) pc₀ pc pi₀ pi fc₀ fc c.pred.is c.pred_inf.is c.filt.is done end.diffuse c.diffuse

  mean_off_is : {b : Answer} → FitOn x o (length y) rqr (cov_parts pc₀ pi₀ fc₀ ks₀ fs₀ fi₀ ms₀ mi₀) (mean_parts pm₀ fm₀ vs₀) (length s) done before → MeanPassed (mean_on x o s before.loglik (run x y s live).0 y) b
      → mean-off ≡ first_from done (tabulate (cond (not_finite (block_at x.m pm x.n)) x.n 0) (off_at x.m pm fm fm)) → mean-off ≡ mean_report done (mean_on x o s before.loglik (run x y s live).0 y).0
  unfolding mean_on mean_run frame_of frame_from
  mean_off_is f t e =
      let cs = (run x y s live).0 in
      let es = pairs (decisions_of cs) (chunks x.n x.p y) in
      let many : length (decisions_of cs) ≡ x.n = length-map cs (λ (c : CovPeriod). c.decisions) ∙ periods in
      e ∙ mean_told (frame_of x) (record { c = o.c; d = o.d }) 0 (record { a = mean_from x.m s o.a1; loglik = before.loglik }) es (mean_begins x.m s o.a1 f.state f.inputs.a1) x.n
      (length-scan (mean_period (frame_of x) (record { c = o.c; d = o.d })) es 0 _ ∙ length_pairs x.n (decisions_of cs) (chunks x.n x.p y) many (length-chunks x.n x.p y)) pm₀ pm fm₀ fm t.pm.is t.fm.is done
    where
      periods : length (run x y s live).0 ≡ x.n
      periods = run_many x y s live

  pub ran : (final : Answer) → FitOn x o (length y) rqr (cov_parts pc₀ pi₀ fc₀ ks₀ fs₀ fi₀ ms₀ mi₀) (mean_parts pm₀ fm₀ vs₀) (length s) done before → CovPassed (cov_ran x y s live rqr) → heard ≡ count not (map is_gap (map class_of y)) → news ≡ count news_kind (take (x.n * x.p) ks)
      → cov-off ≡ first_from done (tabulate (cond (not_finite (block_at (x.m * x.m) pc x.n)) x.n end.diffuse) (off_at (x.m * x.m) pc pi fc))
      → with-counts ≡ counts → MeanPassed (mean_ran with-counts.loglik) with-counts
      → mean-off ≡ first_from done (tabulate (cond (not_finite (block_at x.m pm x.n)) x.n 0) (off_at x.m pm fm fm)) → final ≡ reported_on a mean-off
      → Ran x o y s live done before (record { answer = final; live = end.live }) s₂ (cov_parts pc₀ pi₀ fc₀ ks₀ fs₀ fi₀ ms₀ mi₀) (cov_parts pc pi fc ks fs fi ms mi) (mean_parts pm₀ fm₀ vs₀) (mean_parts pm fm vs)
  unfolding counts_of
  ran final f cp eh en eo ew mp em ef =
      let c : CovPassed (run x y s live) = subst CovPassed (cov_run_lem x y s live rqr f.noise) cp in
      let q : MeanPassed (mean_ran before.loglik) counts = subst (λ (b : Answer). MeanPassed (mean_ran b.loglik) b) ew mp in
      let t : MeanPassed (mean_on x o s before.loglik (run x y s live).0 y) counts = subst (λ (r : List MeanPeriod × Mean). MeanPassed r counts) (run_is f.state f.readings c before.loglik) q in
      record {
        answer =
            ef ∙ ap (λ (b : Answer). reported_on b mean-off) t.answer
            ∙ answer_is (ap (λ (i : ℕ). before.d_diffuse + i) c.diffuse) (ap (λ (i : ℕ). before.heard + i) eh) (ap (λ (i : ℕ). before.news + i) (en ∙ news_are (x.n * x.p) (run x y s live) ks₀ ks c.kinds))
            (ap (told_before before.cov_off) (cov_off_is f c eo)) (ap (told_before before.mean_off) (mean_off_is f t em));
        live = c.live;
        state = t.state ∙ ap (λ (z : List Float). mean_kept x.m z (mean_on x o s before.loglik (run x y s live).0 y).1.a) c.state;
        kinds = kinds_part c;
        cov = cov_part c;
        mean = mean_part t;
      }
