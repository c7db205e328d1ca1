-- Refusal 2's room over numbers: the lengths of the lent parts, and that they are the definition's tests.
use Rattle.std.specs.Prelude.{◌≡◌, ℕ, ◌+◌, ◌*◌, Bool, ◌&&◌, List, length, leb, Float}
use Rattle.std.proofs.Math.Path.{refl, ap}
use Rattle.std.proofs.Common.{sym, ◌∙◌}
use Rattle.std.proofs.Math.Bool.{true, false}
use Rattle.definition.specs.Inputs.{Model, Offsets}
use Rattle.definition.specs.Refusals.{outside, first_of, tests, refusal}
use Rattle.definition.specs.Parts.{predCov, pred_inf, filtCov, fStar, fInf, mStar, mInf, predMean, filtMean, innovations}
use Rattle.definition.specs.Outcome.{CovParts, MeanParts, kinds_need, cov_need, mean_need, smoothed_cov_need, smoothed_mean_need, roomy, roomy_smoothed}
use Rattle.model.specs.declared.lengths.OutputLengths as code

-- of the filter's outputs, in the order of the call: predicted mean, covariance and diffuse covariance, filtered mean and
-- covariance, kinds, v, F*, F∞, M*, M∞
unfoldable pub rooms : (p m n pm pc pi fm fc ks vs fs fi ms mi : ℕ) → Bool
rooms p m n pm pc pi fm fc ks vs fs fi ms mi =
    leb (n * p) ks && leb (n * (m * m) + m * m) pc && leb (n * (m * m) + m * m) pi && leb (n * (m * m)) fc && leb (n * p) fs
    && leb (n * p) fi
    && leb (n * (p * m)) ms
    && leb (n * (p * m)) mi
    && leb (n * m + m) pm
    && leb (n * m) fm
    && leb (n * p) vs

-- as the code has the lengths
abbrev pub rooms_in : ℕ → ℕ → ℕ → code.OutputLengths → Bool
rooms_in p m n h =
    rooms p m n h.pred_mean h.pred_cov h.pred_inf h.filt_mean h.filt_cov h.kinds h.v h.f_star h.f_inf h.m_star h.m_inf

-- the lengths of what is lent, in the same order
abbrev pub lengths_of : (pred_mean pred_cov pred_inf filt_mean filt_cov : List Float) (kinds : List ℕ)
    (v f_star f_inf m_star m_inf : List Float) → code.OutputLengths
lengths_of pm pc pi fm fc ks v fs fi ms mi =
    record {
      pred_mean = length pm;
      pred_cov = length pc;
      pred_inf = length pi;
      filt_mean = length fm;
      filt_cov = length fc;
      kinds = length ks;
      v = length v;
      f_star = length fs;
      f_inf = length fi;
      m_star = length ms;
      m_inf = length mi;
    }

-- and of the smoother's two, covariance and mean
unfoldable pub rooms_smoothed : ℕ → ℕ → Bool → ℕ → ℕ → Bool
rooms_smoothed m n room sm sc = room && leb (n * (m * m)) sc && leb (n * m) sm

-- ---- they are the definition's

-- the rooms of lent parts
abbrev pub rooms_of : Model → CovParts → MeanParts → Bool
rooms_of x b b' =
    rooms x.p x.m x.n (length (b' predMean)) (length (b.part predCov)) (length (b.part pred_inf)) (length (b' filtMean))
    (length (b.part filtCov)) (length b.kinds) (length (b' innovations)) (length (b.part fStar)) (length (b.part fInf))
    (length (b.part mStar)) (length (b.part mInf))

pub rooms_are : (x : Model) (b : CovParts) (b' : MeanParts) → roomy x b b' ≡ rooms_of x b b'
unfolding roomy kinds_need cov_need mean_need rooms
rooms_are x b b' = refl

pub rooms_smoothed_are : (x : Model) (b : CovParts) (b' : MeanParts) (sm sc : List Float)
    → roomy_smoothed x b b' sm sc ≡ rooms_smoothed x.m x.n (roomy x b b') (length sm) (length sc)
unfolding roomy_smoothed smoothed_cov_need smoothed_mean_need rooms_smoothed
rooms_smoothed_are x b b' sm sc = refl

-- ---- what the code's `room` and `room_smoothed` do for the refusal's number

module _ (x : Model) (o : Offsets) (readings : ℕ) (infinity : Bool) where
  abbrev within : Type 0
  within = outside x.p x.m x.r x.n ≡ false

  -- out of range, refusal 1 comes first: the room is not asked
  room_unseen : {room room' : Bool} → (within → room ≡ room') → refusal x o readings infinity room ≡ refusal x o readings infinity room'
  unfolding refusal tests first_of
  room_unseen {room} {room'} h = by_test (outside x.p x.m x.r x.n) refl
    where
      by_test : (t : Bool) → outside x.p x.m x.r x.n ≡ t
          → refusal x o readings infinity room ≡ refusal x o readings infinity room'
      by_test true e = rw e refl
      by_test false e = ap (refusal x o readings infinity) (h e)

  module _ (b : CovParts) (b' : MeanParts) where
    -- what `room` ensures
    abbrev pub Room : Bool → Type 0
    Room room = within → room ≡ rooms_of x b b'

    pub by_room : {room : Bool} → Room room → refusal x o readings infinity room ≡ refusal x o readings infinity (roomy x b b')
    by_room h = room_unseen (λ e. h e ∙ sym (rooms_are x b b'))

    -- and `room_smoothed`
    pub by_room_smoothed : (sm sc : List Float) {room both : Bool} → Room room
        → (within → both ≡ rooms_smoothed x.m x.n room (length sm) (length sc))
        → refusal x o readings infinity both ≡ refusal x o readings infinity (roomy_smoothed x b b' sm sc)
    by_room_smoothed sm sc h g =
        let rooms : Bool → Bool = λ w. rooms_smoothed x.m x.n w (length sm) (length sc) in
        room_unseen (λ e. g e ∙ ap rooms (h e ∙ sym (rooms_are x b b')) ∙ sym (rooms_smoothed_are x b b' sm sc))
