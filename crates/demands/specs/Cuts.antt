-- Any number of cuts, by `cut_call`: a run in any number of stretches, each from the bytes that the one before saved, against one call over all its
-- readings. Each stretch before the last answers; the final number, answer and saved bytes are that call's; where it answers, each of its parts is the
-- stretches' blocks, one after another.
use Rattle.std.specs.Prelude.{◌≡◌, ◌⊎◌, ℕ, ◌+◌, ◌*◌, false, ◌&&◌, length, take, replicate, leb, Float}
use Rattle.std.proofs.Math.Path.{sym, ap}
use Rattle.std.proofs.Common.{◌∙◌, inl, inr, ⊎_elim, le_of_eq, take_at, le-leb}
use Rattle.std.proofs.Math.Bool.{Bool, true}
use mathlib.Core.List.{List, [], ◌∷◌, ◌++◌, map}
use Rattle.std.proofs.lemmas.List.{length-replicate, length-map}
use Rattle.definition.specs.Num.{0ᶠ, zeros}
use Rattle.definition.specs.Run.{any_of}
use Rattle.definition.specs.Inputs.{Model, Offsets, Class, class_of, is_infinity}
use Rattle.definition.specs.Parts.{CovPart, predCov, pred_inf, filtCov, fStar, fInf, mStar, mInf, MeanPart, predMean, filtMean, innovations}
use Rattle.definition.specs.Outcome.{Ending, answered, ending_of, number_of, after, counts_in, loglik_in, report_in, no_information, kinds_need, cov_need, mean_need, roomy}
use Rattle.definition.specs.Carried.{past_on, mean_on, mean_off_on}
use Rattle.definition.specs.Saved.{saved_need}
use Rattle.definition.specs.Stretch.{From, StretchOutcome, past_in, carried_in, bad_from, stretch_refusal, roomy_stretch, stretch_ending, cov_stretch, mean_stretch, stretch_outcome}
use Rattle.laws.specs.All.{AllOf}
use Rattle.laws.specs.Any.{or_true}
use Rattle.laws.specs.Accepted.{lengths_pass}
use Rattle.laws.specs.Cut.{lasting}
use Rattle.laws.specs.Written.{cov_unit, mean_unit, kinds_written_lem, cov_written_lem, mean_written_lem}
use Rattle.laws.specs.AcceptedStretch.{Ready, resume, passes, quiet_not}
use Rattle.laws.specs.AcceptedStretch as stretch
use Rattle.demands.specs.CutOnce.{Lent, call, Cuts, cut_call}

pub record Piece : Type 0 where
  pub long : ℕ
  pub readings : List Float
  pub lent : Lent

module _ (x : Model) (o : Offsets) where
  -- one stretch
  abbrev pub run : From → Bool → Piece → StretchOutcome
  run w last c = call (lasting c.long x) o w last c.readings c.lent

  -- what it hands on
  abbrev pub hands : From → Piece → From
  hands w c = resume (take (saved_need x.m) (run w false c).save)

  -- each before the last answers
  abbrev pub AnswersIn : From → List Piece → Type 0
  AnswersIn w [] = Unit {0}
  AnswersIn w (c ∷ cs) = ((run w false c).cov.refused ≡ 0) × AnswersIn (hands w c) cs

  -- all of them: the last call's outcome, and what they leave in each part
  abbrev pub runs : From → Bool → List Piece → Piece → StretchOutcome
  runs w last [] z = run w last z
  runs w last (c ∷ cs) z = runs (hands w c) last cs z

  abbrev pub kinds_in : From → Bool → List Piece → Piece → List ℕ
  kinds_in w last [] z = take (kinds_need (lasting z.long x)) (run w last z).cov.parts.kinds
  kinds_in w last (c ∷ cs) z = take (c.long * x.p) (run w false c).cov.parts.kinds ++ kinds_in (hands w c) last cs z

  abbrev pub covs_in : From → Bool → List Piece → Piece → CovPart → List Float
  covs_in w last [] z q = take (cov_need (lasting z.long x) q) ((run w last z).cov.parts.part q)
  covs_in w last (c ∷ cs) z q = take (c.long * cov_unit x.p x.m q) ((run w false c).cov.parts.part q) ++ covs_in (hands w c) last cs z q

  abbrev pub means_in : From → Bool → List Piece → Piece → MeanPart → List Float
  means_in w last [] z q = take (mean_need (lasting z.long x) q) ((run w last z).mean.parts q)
  means_in w last (c ∷ cs) z q = take (c.long * mean_unit x.p x.m q) ((run w false c).mean.parts q) ++ means_in (hands w c) last cs z q

abbrev pub all_long : List Piece → Piece → ℕ
all_long [] z = z.long
all_long (c ∷ cs) z = c.long + all_long cs z

abbrev pub all_readings : List Piece → Piece → List Float
all_readings [] z = z.readings
all_readings (c ∷ cs) z = c.readings ++ all_readings cs z

-- each has its readings, and room
pub record Fits (x : Model) (last : Bool) (c : Piece) : Type 0 where
  pub readings : length c.readings ≡ c.long * x.p
  pub room : roomy_stretch (lasting c.long x) last c.lent.cov c.lent.mean c.lent.save ≡ true

-- ---- parts that are long enough, for a call in between

enough : {A : Type 0} (k : ℕ) (a : A) → leb k (length (replicate k a)) ≡ true
enough k a = le-leb _ _ (le_of_eq (sym (length-replicate k a)))

abbrev ample : Model → Lent
ample x = record { cov = record { kinds = replicate (kinds_need x) 0; part = λ q. zeros (cov_need x q) }; mean = λ q. zeros (mean_need x q); save = replicate (saved_need x.m) 0 }

ample_room : (x : Model) (last : Bool) → roomy_stretch x last (ample x).cov (ample x).mean (ample x).save ≡ true
unfolding roomy_stretch roomy
ample_room x last =
    rw (enough {A = ℕ} (kinds_need x) 0, enough (cov_need x predCov) 0ᶠ, enough (cov_need x pred_inf) 0ᶠ, enough (cov_need x filtCov) 0ᶠ, enough (cov_need x fStar) 0ᶠ, enough (cov_need x fInf) 0ᶠ, enough (cov_need x mStar) 0ᶠ, enough (cov_need x mInf) 0ᶠ, enough (mean_need x predMean) 0ᶠ, enough (mean_need x filtMean) 0ᶠ, enough (mean_need x innovations) 0ᶠ, enough {A = ℕ} (saved_need x.m) 0) (or_true last)

-- ---- the theorem

fronts : {A : Type 0} (N : ℕ) (f g : Ending) (w blank : List A) (old old' : List A) → f ≡ answered → g ≡ answered → length w ≡ N → take N (after f w blank old) ≡ take N (after g w blank old')
unfolding after
fronts N f g w blank old old' a b l =
    ap (λ (f : Ending). take N (after f w blank old)) a ∙ take_at w _ N l ∙ sym (ap (λ (f : Ending). take N (after f w blank old')) b ∙ take_at w _ N l)

answered_by_zero : (x : Model) (o : Offsets) (w : From) (last : Bool) (ks : List Class) (room : Bool) → stretch_refusal x o (length ks) (any_of is_infinity ks) room (bad_from x w) (past_in x w).done ≡ 0 → number_of (stretch_ending x o (past_in x w) (bad_from x w) last ks room) ≡ 0 → stretch_ending x o (past_in x w) (bad_from x w) last ks room ≡ answered
unfolding stretch_ending
answered_by_zero x o w last ks room ok q =
    let b = last && no_information (past_on x (past_in x w) ks).counts in
    ap (λ (r : ℕ). ending_of r b) ok ∙ quiet_not b (sym (ap (λ (r : ℕ). number_of (ending_of r b)) ok) ∙ q)

module _ (x : Model) (o : Offsets) (last : Bool) where
  pub record Agree (w : From) (cs : List Piece) (z : Piece) (u : Lent) : Type 0 where
    pub firsts : AnswersIn x o w cs
    pub number : (runs x o w last cs z).cov.refused ≡ (call (lasting (all_long cs z) x) o w last (all_readings cs z) u).cov.refused
    pub counts : (runs x o w last cs z).cov.counts ≡ (call (lasting (all_long cs z) x) o w last (all_readings cs z) u).cov.counts
    pub loglik : (runs x o w last cs z).mean.loglik ≡ (call (lasting (all_long cs z) x) o w last (all_readings cs z) u).mean.loglik
    pub cov_off : (runs x o w last cs z).cov.cov_off ≡ (call (lasting (all_long cs z) x) o w last (all_readings cs z) u).cov.cov_off
    pub mean_off : (runs x o w last cs z).mean.mean_off ≡ (call (lasting (all_long cs z) x) o w last (all_readings cs z) u).mean.mean_off
    pub saved : last ≡ false → take (saved_need x.m) (runs x o w last cs z).save ≡ take (saved_need x.m) (call (lasting (all_long cs z) x) o w last (all_readings cs z) u).save
    pub kinds : (runs x o w last cs z).cov.refused ≡ 0 → kinds_in x o w last cs z ≡ take (kinds_need (lasting (all_long cs z) x)) (call (lasting (all_long cs z) x) o w last (all_readings cs z) u).cov.parts.kinds
    pub covs : (runs x o w last cs z).cov.refused ≡ 0 → (q : CovPart) → covs_in x o w last cs z q ≡ take (cov_need (lasting (all_long cs z) x) q) ((call (lasting (all_long cs z) x) o w last (all_readings cs z) u).cov.parts.part q)
    pub means : (runs x o w last cs z).cov.refused ≡ 0 → (q : MeanPart) → means_in x o w last cs z q ≡ take (mean_need (lasting (all_long cs z) x) q) ((call (lasting (all_long cs z) x) o w last (all_readings cs z) u).mean.parts q)

  -- the call over all of them is not turned away
  abbrev pub Through : From → List Piece → Piece → Lent → Type 0
  Through w cs z u = ((call (lasting (all_long cs z) x) o w last (all_readings cs z) u).cov.refused ≡ 0) ⊎ ((call (lasting (all_long cs z) x) o w last (all_readings cs z) u).cov.refused ≡ 12)

  -- no cut: what is lent after the needed places, and how much, does not matter
  alone : (w : From) (z : Piece) (u : Lent) → Ready x o w → Fits x last z → Through w [] z u → Agree w [] z u
  unfolding stretch_outcome cov_stretch mean_stretch
  alone w z u ready fit pass =
      let X = lasting z.long x in
      let y = z.readings in
      let v = z.lent in
      let ready' : Ready X o w = record { p_star = ready.p_star; a1 = ready.a1; bytes = ready.bytes } in
      let ok = stretch.free X o w last y u.cov u.mean u.save pass in
      let room : roomy_stretch X last u.cov u.mean u.save ≡ true = (lengths_pass X o _ _ (passes X o _ _ _ _ _ ok).lengths).2 in
      let same : roomy_stretch X last v.cov v.mean v.save ≡ roomy_stretch X last u.cov u.mean u.save = fit.room ∙ sym room in
      let ok' = ap (λ (r : Bool). stretch_refusal X o (length (map class_of y)) (any_of is_infinity (map class_of y)) r (bad_from X w) (past_in X w).done) same ∙ ok in
      let s = carried_in X o w in
      let ks = map class_of y in
      let f : Bool → Ending = λ r. stretch_ending X o (past_in X w) (bad_from X w) last ks r in
      let endings : f (roomy_stretch X last v.cov v.mean v.save) ≡ f (roomy_stretch X last u.cov u.mean u.save) = ap f same in
      let full = stretch.fits X o w last y u.cov u.mean u.save ready' ok in
      let kept = stretch.begins_kept X o w last y u.cov u.mean u.save ready' ok in
      let answers : number_of (f (roomy_stretch X last v.cov v.mean v.save)) ≡ 0 → f (roomy_stretch X last v.cov v.mean v.save) ≡ answered = λ q. answered_by_zero X o w last ks (roomy_stretch X last v.cov v.mean v.save) ok' q in
      record {
        firsts = tt;
        number = ap number_of endings;
        counts = ap (λ (f : Ending). counts_in f (past_on X s.past ks).counts) endings;
        loglik = ap (λ (f : Ending). loglik_in f (mean_on X o s y).1.loglik) endings;
        cov_off = ap (λ (f : Ending). report_in f (past_on X s.past ks).cov_off) endings;
        mean_off = ap (λ (f : Ending). report_in f (mean_off_on X o s y)) endings;
        saved = λ q. stretch.saved_is X o w last y v.cov v.mean v.save ready' ok' q ∙ sym (stretch.saved_is X o w last y u.cov u.mean u.save ready' ok q);
        kinds = λ q. fronts _ _ _ _ _ _ _ (answers q) (sym endings ∙ answers q) (kinds_written_lem X s.past ks full);
        covs = λ q p. fronts _ _ _ _ _ _ _ (answers q) (sym endings ∙ answers q) (cov_written_lem X s.past ks full kept.cov p);
        means = λ q p. fronts _ _ _ _ _ _ _ (answers q) (sym endings ∙ answers q) (mean_written_lem X o s y (sym (length-map y class_of) ∙ full) kept.mean p);
      }

  pub cuts : (w : From) (cs : List Piece) (z : Piece) (u : Lent) → Ready x o w → AllOf (Fits x false) cs → Fits x last z → Through w cs z u → Agree w cs z u
  cuts w [] z u ready fits fit pass = alone w z u ready fit pass
  cuts w (c ∷ cs) z u ready fits fit pass =
      let k = all_long cs z in
      let y = all_readings cs z in
      let l = ample (lasting k x) in
      let h : Cuts x o w c.long k last c.readings y u c.lent l =
      record { fits = fits.0.readings; ready = ready; passed = pass; room_early = fits.0.room; room_late = ample_room (lasting k x) last } in
      let s = cut_call x o w c.long k last c.readings y u c.lent l h in
      let ready' : Ready x o (hands x o w c) = record { p_star = ready.p_star; a1 = ready.a1; bytes = s.bytes } in
      let pass' : Through (hands x o w c) cs z l = ⊎_elim (λ q. inl (s.number ∙ q)) (λ q. inr (s.number ∙ q)) pass in
      let r = cuts (hands x o w c) cs z l ready' fits.1 fit pass' in
      record {
        firsts = (s.first, r.firsts);
        number = r.number ∙ s.number;
        counts = r.counts ∙ s.counts;
        loglik = r.loglik ∙ s.loglik;
        cov_off = r.cov_off ∙ s.cov_off;
        mean_off = r.mean_off ∙ s.mean_off;
        saved = λ q. r.saved q ∙ sym (s.saved q);
        kinds = λ q. ap (λ (l : List ℕ). take (c.long * x.p) (run x o w false c).cov.parts.kinds ++ l) (r.kinds q) ∙ sym (s.all_kinds (sym (r.number ∙ s.number) ∙ q));
        covs = λ q p. ap (λ (l : List Float). take (c.long * cov_unit x.p x.m p) ((run x o w false c).cov.parts.part p) ++ l) (r.covs q p) ∙ sym (s.all_covs (sym (r.number ∙ s.number) ∙ q) p);
        means = λ q p. ap (λ (l : List Float). take (c.long * mean_unit x.p x.m p) ((run x o w false c).mean.parts p) ++ l) (r.means q p) ∙ sym (s.all_means (sym (r.number ∙ s.number) ∙ q) p);
      }
