-- What the mean run wrote is what the way back looks at: each period's predicted mean has m places, and its innovations p.
use Rattle.std.specs.Prelude.{◌≡◌, ℕ, suc, ◌*◌, length, Float}
use Rattle.std.proofs.Common.{◌∙◌}
use mathlib.Core.List.{List, [], ◌∷◌, map, append_assoc}
use Rattle.std.proofs.lemmas.List.{length-map}
use Rattle.definition.specs.Num.{0ᶠ}
use Rattle.definition.specs.Dense.{axpy}
use Rattle.definition.specs.Run.{scan, pairs, chunks, join}
use Rattle.definition.specs.Cov.{Decision, CovPeriod}
use Rattle.definition.specs.Mean.{Frame, Shift, Mean, MeanPeriod, hear, mean_step, mean_ended, mean_period_of, mean_period, mean_run}
use Rattle.definition.specs.Parts.{predMean, innovations, mean_block}
use Rattle.definition.specs.Inputs.{Model, Offsets, Class, system_from, system_of, frame_from, frame_of, start_of}
use Rattle.definition.specs.Outcome.{decisions_of, cov_of, mean_of, mean_written}
use Rattle.laws.specs.Flat.{mean_look_of, mean_looks}
use Rattle.laws.specs.Lists.{Each, length_tab, length-scan, length-chunks, chunks_each, length_pairs}
use Rattle.laws.specs.Passes.{Laid}
use Rattle.laws.specs.All.{AllOf}
use Rattle.laws.specs.ReadBack.{Whole}
use Rattle.laws.specs.Shapes.{run_whole, run_length}
use Rattle.laws.specs.Backward.{LongP, mean_looks_back}

-- ---- a run over periods that decide on p elements and have p readings

Full : ℕ → List Decision × List Float → Type 0
Full p e = (length e.0 ≡ p) × (length e.1 ≡ p)

module _ (y : Frame) (x : Shift) (p : ℕ) where
  run_long : (es : List (List Decision × List Float)) (t : ℕ) (s : Mean) → length s.a ≡ y.m → AllOf (Full p) es → AllOf (LongP p y.m) (scan (mean_period y x) t s es).0
  unfolding scan mean_period_of mean_ended mean_step axpy Full
  run_long [] t s h g = tt
  run_long (e ∷ es) t s h g = (
    record { pred = h; vs = length-scan (hear y.m (y.design_at t) x.d) (pairs e.0 e.1) 0 s ∙ length_pairs p e.0 e.1 g.0.0 g.0.1 },
    run_long es (suc t) (mean_period y x t s e).1 (length_tab y.m 0 _) g.1,
  )

  all_full : (m : ℕ) (cs : List CovPeriod) (ls : List (List Float)) → AllOf (λ c. Whole p m c.decisions) cs → Each p ls → AllOf (Full p) (pairs (decisions_of cs) ls)
  unfolding pairs Full
  all_full m [] ls h g = tt
  all_full m (c ∷ cs) [] h g = tt
  all_full m (c ∷ cs) (l ∷ ls) h g = ((h.0.many, g.0), all_full m cs ls h.1 g.1)

-- ---- a call's run

module _ (x : Model) (o : Offsets) (ks : List Class) (y : List Float) (gaps : length ks ≡ x.n * x.p) (readings : length y ≡ x.n * x.p) where
  cov_whole : AllOf (λ c. Whole x.p x.m c.decisions) (cov_of x ks).0
  unfolding cov_of system_of system_from
  cov_whole = run_whole (system_of x) 0 (start_of x) ks x.n x.p gaps

  cov_long : length (cov_of x ks).0 ≡ x.n
  unfolding cov_of
  cov_long = run_length (system_of x) 0 (start_of x) ks x.n x.p

  pub mean_long : length (mean_of x o (cov_of x ks).0 y).0 ≡ x.n
  unfolding mean_of mean_run
  mean_long =
      let ds = decisions_of (cov_of x ks).0 in
      let l = length_pairs x.n ds (chunks x.n x.p y) (length-map (cov_of x ks).0 (λ c. c.decisions) ∙ cov_long) (length-chunks x.n x.p y) in
      length-scan _ (pairs ds (chunks x.n x.p y)) 0 _ ∙ l

  pub mean_sized : length o.a1 ≡ x.m → AllOf (LongP x.p x.m) (mean_of x o (cov_of x ks).0 y).0
  unfolding mean_of mean_run frame_of frame_from
  mean_sized start =
      let sh : Shift = record { c = o.c; d = o.d } in
      run_long (frame_of x) sh x.p (pairs (decisions_of (cov_of x ks).0) (chunks x.n x.p y)) 0 (record { a = o.a1; loglik = 0ᶠ }) start (all_full (frame_of x) sh x.p x.m (cov_of x ks).0 (chunks x.n x.p y) cov_whole (chunks_each x.n x.p y readings))

  -- parts that hold what the run wrote, over what was lent
  pub means_looked : {pm₀ pm v₀ v : List Float} {k0 k1 : ℕ} → length o.a1 ≡ x.m → Laid k0 (mean_written (mean_of x o (cov_of x ks).0 y) predMean) pm₀ pm → Laid k1 (mean_written (mean_of x o (cov_of x ks).0 y) innovations) v₀ v
      → mean_looks x.n x.p x.m pm v ≡ map mean_look_of (mean_of x o (cov_of x ks).0 y).0
  unfolding mean_written
  means_looked start pm v =
      let r = mean_of x o (cov_of x ks).0 y in
      rw (pm.is, v.is, append_assoc (join (map (mean_block predMean) r.0)) r.1.a) (mean_looks_back x.n x.p x.m r.0 (mean_sized start) mean_long nowhere _ _)
    where
      nowhere : MeanPeriod
      nowhere = record { pred = []; vs = []; filt = [] }
