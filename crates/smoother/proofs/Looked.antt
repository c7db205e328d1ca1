-- The passes back, between the filter's call that wrote what they read and the outcome's smoothed moments.
use mathlib.Core.Path.{◌≡◌, refl, ap, ◌∙◌}
use Prim.Native.Nat.{ℕ, ◌*◌}
use mathlib.Core.List.{List, map}
use lib.ListN.{length, length-map}
use lib.Ieee.{Float}
use Rattle.std.specs.Prelude.{Ok}
use Rattle.definition.specs.Run.{join, count, lay}
use Rattle.definition.specs.Smooth.{smooth_cov, smooth_mean}
use Rattle.definition.specs.Parts.{CovPart, MeanPart, predCov, pred_inf, fStar, fInf, mStar, mInf, predMean, innovations}
use Rattle.definition.specs.Inputs.{Model, Offsets, class_of, frame_of}
use Rattle.definition.specs.Outcome.{CovParts, MeanParts, answered, after, counts_in, kinds_written, cov_written, mean_written, smoothed_cov_need, smoothed_mean_need, roomy_smoothed, cov_of, mean_of, counts_of, cov_outcome, mean_outcome}
use Rattle.laws.specs.Accepted.{Accepted, RoomySmoothed, room_smoothed, as_long}
use Rattle.laws.specs.Any.{both_true}
use Rattle.laws.specs.Flat.{flat_in, Flat, look_of, mean_look_of, looks, mean_looks}
use Rattle.laws.specs.Passes.{Laid}
use Rattle.blank.specs.Stretches.{SmoothedRoom}
use Rattle.forward.specs.View.{Fit}
use Rattle.promise.specs.declared.Answer.{Answer}
use Rattle.promise.specs.Calls.{Promise}
use Rattle.filter.specs.Ends as ends
use Rattle.cov_back.specs.Call as cov-call
use Rattle.laws.specs.Looked as cov_looked
use Rattle.mean_back.specs.Call as mean-call
use Rattle.mean_back.specs.Looked as mean_looked
use Rattle.backward.specs.View.{ReadyBack, Back}

-- ---- past the refusals before the run

-- w and w' are the filter's parts as they were lent, sm and sc the smoothed ones
pub record Past (x : Model) (o : Offsets) (y : ℕ) (w : CovParts) (w' : MeanParts) (sm sc : List Float) : Type 0 where
  pub accepted : Accepted x o y (roomy_smoothed x w w' sm sc)

module _ {x : Model} {o : Offsets} {y : ℕ} {w : CovParts} {w' : MeanParts} {sm sc : List Float} (past : Past x o y w w' sm sc) where
  abbrev f : Accepted x o y (roomy_smoothed x w w' sm sc)
  f = past.accepted

  room : RoomySmoothed x w w' (length sm) (length sc)
  room = room_smoothed x w w' sm sc f.roomy

  pub fit : Fit x o y w w'
  unfolding roomy_smoothed
  fit = record { accepted = record { sizes = f.sizes; inputs = f.inputs; readings = f.readings; roomy = (both_true _ _ (both_true _ _ f.roomy).0).0 } }

  pub smoothed_room : {lm lc : ℕ} → lm ≡ length sm → lc ≡ length sc → SmoothedRoom x.p x.m x.n lm lc
  unfolding smoothed_cov_need smoothed_mean_need
  smoothed_room e e' =
      record {
        sizes = record { p8 = f.sizes.p8; m8 = f.sizes.m8; n4096 = f.sizes.n4096 };
        mean = as_long room.mean e;
        cov = as_long room.cov e';
      }

  pub ready : (k : List ℕ) (a b c d : List Float) {pm pc pi v lm lc : ℕ} → pm ≡ length (w' predMean) → pc ≡ length (w.part predCov) → pi ≡ length (w.part pred_inf) → v ≡ length (w' innovations) → length k ≡ length w.kinds → length a ≡ length (w.part fStar) → length b ≡ length (w.part fInf) → length c ≡ length (w.part mStar) → length d ≡ length (w.part mInf) → lm ≡ length sm → lc ≡ length sc
      → ReadyBack x.p x.m x.n (length x.z_once) (length x.z_list) (length x.t_once) (length x.t_list) pm pc pi v (flat_in k a b c d) lm lc
  ready k a b c d {pm} {pc} {pi} {v} {lm} {lc} epm epc epi ev ek ea eb ec ed em es =
      let r = room.filter in
      let hpc = as_long (r.cov predCov) epc in
      let hpi = as_long (r.cov pred_inf) epi in
      let hk = as_long r.kinds ek in
      let ha = as_long (r.cov fStar) ea in
      let hb = as_long (r.cov fInf) eb in
      let hc = as_long (r.cov mStar) ec in
      let hd = as_long (r.cov mInf) ed in
      record {
        covs = cov-call.ready x o pc pi (flat_in k a b c d) f hpc hpi hk ha hb hc hd;
        means = mean-call.ready x o pm pc pi v (flat_in k a b c d) lm f (as_long (r.mean predMean) epm) hpc hpi (as_long (r.mean innovations) ev) hk ha hb hc hd (as_long room.mean em);
        cov_room = cov-call.own_room x o (as_long room.cov es);
      }

-- ---- over what an answered call of the filter left: the outcome's

pub record Smoothed (x : Model) (o : Offsets) (y : List Float) (sm₀ sm sc₀ sc : List Float) : Type 0 where
  pub mean : sm ≡ lay (join (smooth_mean (frame_of x) (cov_of x (map class_of y)).0 (mean_of x o (cov_of x (map class_of y)).0 y).0)) sm₀
  pub cov : sc ≡ lay (join (smooth_cov (frame_of x) (cov_of x (map class_of y)).0)) sc₀

module _ (x : Model) (o : Offsets) (y : List Float) (w : CovParts) (w' : MeanParts) {a : Answer} {b : CovParts} {b' : MeanParts} (star : length x.p_star ≡ x.m * x.m) (start : length o.a1 ≡ x.m) (readings : length y ≡ x.n * x.p) (u : Promise (ends.End x o y w w' answered) (Ok a) b b') where
  diffuse_is : a.d_diffuse ≡ count (λ c. c.diffuse) (cov_of x (map class_of y)).0
  unfolding cov_outcome counts_in counts_of
  diffuse_is = ap (λ (b : Answer). b.d_diffuse) u.answer

  kinds_laid : Laid (length (kinds_written (cov_of x (map class_of y)))) (kinds_written (cov_of x (map class_of y))) w.kinds b.kinds
  unfolding cov_outcome after
  kinds_laid = record { long = refl; is = u.kinds }

  cov_laid_lem : (q : CovPart) → Laid (length (cov_written x.m (cov_of x (map class_of y)) q)) (cov_written x.m (cov_of x (map class_of y)) q) (w.part q) (b.part q)
  unfolding cov_outcome after
  cov_laid_lem q = record { long = refl; is = u.cov q }

  mean_laid : (q : MeanPart) → Laid (length (mean_written (mean_of x o (cov_of x (map class_of y)).0 y) q)) (mean_written (mean_of x o (cov_of x (map class_of y)).0 y) q) (w' q) (b' q)
  unfolding mean_outcome after
  mean_laid q = record { long = refl; is = u.mean q }

  abbrev flat : Flat
  flat = flat_in b.kinds (b.part fStar) (b.part fInf) (b.part mStar) (b.part mInf)

  looked : looks x.n x.p x.m a.d_diffuse (b.part predCov) (b.part pred_inf) flat ≡ map look_of (cov_of x (map class_of y)).0
  looked = cov_looked.looked x (map class_of y) a.d_diffuse star (length-map y class_of ∙ readings) diffuse_is (cov_laid_lem predCov) (cov_laid_lem pred_inf) kinds_laid (cov_laid_lem fStar) (cov_laid_lem fInf) (cov_laid_lem mStar) (cov_laid_lem mInf)

  means_looked : mean_looks x.n x.p x.m (b' predMean) (b' innovations) ≡ map mean_look_of (mean_of x o (cov_of x (map class_of y)).0 y).0
  means_looked = mean_looked.means_looked x o (map class_of y) y (length-map y class_of ∙ readings) readings start (mean_laid predMean) (mean_laid innovations)

  pub smoothed : {sm₀ sm sc₀ sc : List Float} → Back x.p x.m x.n a.d_diffuse x.z_once x.z_list x.t_once x.t_list (b' predMean) (b.part predCov) (b.part pred_inf) (b' innovations) flat sm₀ sm sc₀ sc → Smoothed x o y sm₀ sm sc₀ sc
  smoothed {sm₀} {sm} {sc₀} {sc} k =
      record {
        mean = rw (mean-call.run_of x o (cov_of x (map class_of y)).0 (mean_of x o (cov_of x (map class_of y)).0 y).0 a.d_diffuse (b' predMean) (b.part predCov) (b.part pred_inf) (b' innovations) flat looked means_looked) at k.mean.is;
        cov = rw (cov-call.run_of x o (cov_of x (map class_of y)).0 (looks x.n x.p x.m a.d_diffuse (b.part predCov) (b.part pred_inf) flat) looked) at k.cov.is;
      }
