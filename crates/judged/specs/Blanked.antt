-- Refusal 12: the stretch of every part that a run needs may be blanked, and is blank then.
use Rattle.std.specs.Prelude.{◌≡◌, ℕ, List, length, replicate, Float}
use Rattle.definition.specs.Num.{zeros}
use Rattle.definition.specs.Run.{lay}
use Rattle.definition.specs.Parts.{CovPart, predCov, pred_inf, filtCov, fStar, fInf, mStar, mInf, MeanPart, predMean, filtMean, innovations}
use Rattle.definition.specs.Inputs.{Model, Offsets}
use Rattle.definition.specs.Outcome.{CovParts, MeanParts, kinds_need, cov_need, mean_need}
use Rattle.laws.specs.Accepted.{as_long}
use Rattle.blank.specs.Stretches.{Sizes, MeanRoom, CovRoom, RecordRoom, MeanBlank, CovBlank, RecordBlank}
use Rattle.promise.specs.declared.Answer.{Answer}
use Rattle.promise.specs.Lent.{cov_parts, mean_parts}
use Rattle.forward.specs.View.{FitOn}

-- ---- past refusal 2 the stretches are there, in parts that are as long as they were lent

module _ {x : Model} {o : Offsets} {y : ℕ} {rqr : List Float} {w : CovParts} {w' : MeanParts} {size done : ℕ} {before : Answer} (f : FitOn x o y rqr w w' size done before) where
  sizes : Sizes x.p x.m x.n
  sizes = record { p8 = f.sizes.p8; m8 = f.sizes.m8; n4096 = f.sizes.n4096 }

  mean_room : {pm fm vs : ℕ} → pm ≡ length (w' predMean) → fm ≡ length (w' filtMean) → vs ≡ length (w' innovations) → MeanRoom x.p x.m x.n pm fm vs
  unfolding mean_need
  mean_room e1 e2 e3 = record { sizes = sizes; pred = as_long (f.room.mean predMean) e1; filt = as_long (f.room.mean filtMean) e2; v = as_long (f.room.mean innovations) e3 }

  cov_room : {pc pi fc : ℕ} → pc ≡ length (w.part predCov) → pi ≡ length (w.part pred_inf) → fc ≡ length (w.part filtCov) → CovRoom x.p x.m x.n pc pi fc
  unfolding cov_need
  cov_room e1 e2 e3 = record { sizes = sizes; pred = as_long (f.room.cov predCov) e1; pred_inf = as_long (f.room.cov pred_inf) e2; filt = as_long (f.room.cov filtCov) e3 }

  record_room : {ks fs fi ms mi : ℕ} → ks ≡ length w.kinds → fs ≡ length (w.part fStar) → fi ≡ length (w.part fInf) → ms ≡ length (w.part mStar) → mi ≡ length (w.part mInf) → RecordRoom x.p x.m x.n ks fs fi ms mi
  unfolding kinds_need cov_need
  record_room e1 e2 e3 e4 e5 =
      record { sizes = sizes; kinds = as_long f.room.kinds e1; f_star = as_long (f.room.cov fStar) e2; f_inf = as_long (f.room.cov fInf) e3; m_star = as_long (f.room.cov mStar) e4; m_inf = as_long (f.room.cov mInf) e5 }

  pub rooms : {pm fm vs pc pi fc ks fs fi ms mi : ℕ} → pm ≡ length (w' predMean) → pc ≡ length (w.part predCov) → pi ≡ length (w.part pred_inf) → fm ≡ length (w' filtMean) → fc ≡ length (w.part filtCov) → ks ≡ length w.kinds → vs ≡ length (w' innovations) → fs ≡ length (w.part fStar) → fi ≡ length (w.part fInf) → ms ≡ length (w.part mStar) → mi ≡ length (w.part mInf)
      → MeanRoom x.p x.m x.n pm fm vs × CovRoom x.p x.m x.n pc pi fc × RecordRoom x.p x.m x.n ks fs fi ms mi
  rooms e1 e2 e3 e4 e5 e6 e7 e8 e9 e10 e11 = (mean_room e1 e4 e7, cov_room e2 e3 e5, record_room e6 e8 e9 e10 e11)

-- ---- what is blank then

pub record Blanked (x : Model) (b c : CovParts) (b' c' : MeanParts) : Type 0 where
  pub kinds : c.kinds ≡ lay (replicate (kinds_need x) 0) b.kinds
  pub cov : (q : CovPart) → c.part q ≡ lay (zeros (cov_need x q)) (b.part q)
  pub mean : (q : MeanPart) → c' q ≡ lay (zeros (mean_need x q)) (b' q)

mean_blank : (x : Model) {pm₀ pm fm₀ fm vs₀ vs : List Float} → MeanBlank x.p x.m x.n pm₀ pm fm₀ fm vs₀ vs → (q : MeanPart) → mean_parts pm fm vs q ≡ lay (zeros (mean_need x q)) (mean_parts pm₀ fm₀ vs₀ q)
unfolding mean_need mean_parts
mean_blank x b predMean = b.pred
mean_blank x b filtMean = b.filt
mean_blank x b innovations = b.v

module _ (x : Model) {pc₀ pc pi₀ pi fc₀ fc : List Float} {ks₀ ks : List ℕ} {fs₀ fs fi₀ fi ms₀ ms mi₀ mi : List Float} (c : CovBlank x.m x.n pc₀ pc pi₀ pi fc₀ fc) (r : RecordBlank x.p x.m x.n ks₀ ks fs₀ fs fi₀ fi ms₀ ms mi₀ mi) where
  cov_blank : (q : CovPart) → (cov_parts pc pi fc ks fs fi ms mi).part q ≡ lay (zeros (cov_need x q)) ((cov_parts pc₀ pi₀ fc₀ ks₀ fs₀ fi₀ ms₀ mi₀).part q)
  unfolding cov_need cov_parts
  cov_blank predCov = c.pred
  cov_blank pred_inf = c.pred_inf
  cov_blank filtCov = c.filt
  cov_blank fStar = r.f_star
  cov_blank fInf = r.f_inf
  cov_blank mStar = r.m_star
  cov_blank mInf = r.m_inf

  kinds_blank : (cov_parts pc pi fc ks fs fi ms mi).kinds ≡ lay (replicate (kinds_need x) 0) (cov_parts pc₀ pi₀ fc₀ ks₀ fs₀ fi₀ ms₀ mi₀).kinds
  unfolding kinds_need cov_parts
  kinds_blank = r.kinds

  pub blanked : {pm₀ pm fm₀ fm vs₀ vs : List Float} → MeanBlank x.p x.m x.n pm₀ pm fm₀ fm vs₀ vs → Blanked x (cov_parts pc₀ pi₀ fc₀ ks₀ fs₀ fi₀ ms₀ mi₀) (cov_parts pc pi fc ks fs fi ms mi) (mean_parts pm₀ fm₀ vs₀) (mean_parts pm fm vs)
  blanked b = record { kinds = kinds_blank; cov = cov_blank; mean = mean_blank x b }
