-- What a call knows once refusals 1 and 2 have passed: the sizes are in range, and every lent part has its length.
use Rattle.std.specs.Prelude.{◌≡◌, refl, ℕ, zero, suc, ◌*◌, ◌/◌, ◌≤◌, ◌<◌, Bool, true, false, ◌&&◌, ◌||◌, ◌⊎◌, List, ◌++◌, length, T, leb, ltb, eqb, Float}
use Rattle.std.proofs.Common.{sym, subst, arith, ltb-false, eqb-true}
use Rattle.std.proofs.lemmas.Bool.{eqb-false, not-false}
use Rattle.definition.specs.Inputs.{Model, Offsets}
use Rattle.definition.specs.Refusals.{beyond, outside, part_fits, inputs_fit, bad_length, first_of, of_sizes, of_lengths, of_reach, of_entries, refusal, tests}
use Rattle.definition.specs.Parts.{CovPart, predCov, pred_inf, filtCov, fStar, fInf, mStar, mInf, MeanPart, predMean, filtMean, innovations}
use Rattle.definition.specs.Outcome.{CovParts, MeanParts, kinds_need, cov_need, mean_need, smoothed_cov_need, smoothed_mean_need, roomy, roomy_smoothed}
use Rattle.laws.specs.Any.{either_false, both_true}
use Rattle.laws.specs.Says.{Says, says_as, says_not, says_and, says_or, says_eq, says_le}
use Rattle.laws.specs.Numbered.{first_none, none_of_both}

-- ---- the sizes

-- what refusal 1 lets through, but for n above 0: nothing goes by that
pub record InRange (p m r n : ℕ) : Type 0 where
  pub p0 : 0 < p
  pub p8 : p ≤ 8
  pub m0 : 0 < m
  pub m8 : m ≤ 8
  pub r0 : 0 < r
  pub r8 : r ≤ 8
  pub n4096 : n ≤ 4096

pub positive : (k : ℕ) → (k ≡ 0 → ⊥) → 0 < k
positive zero h = absurd (h refl)
positive (suc k) h = omega arith

within : (top k : ℕ) → beyond top k ≡ false → (0 < k) × (k ≤ top)
within top k e = let s = either_false (eqb k 0) (ltb top k) e in (positive k (eqb-false k 0 s.0), ltb-false top k s.1)

pub in_range : (p m r n : ℕ) → outside p m r n ≡ false → InRange p m r n
unfolding outside
in_range p m r n e =
    let a = either_false (beyond 8 p || beyond 8 m || beyond 8 r) (beyond 4096 n) e in
    let b = either_false (beyond 8 p || beyond 8 m) (beyond 8 r) a.0 in
    let c = either_false (beyond 8 p) (beyond 8 m) b.0 in
    let hp = within 8 p c.0 in
    let hm = within 8 m c.1 in
    let hr = within 8 r b.1 in
    let hn = within 4096 n a.1 in
    record { p0 = hp.0; p8 = hp.1; m0 = hm.0; m8 = hm.1; r0 = hr.0; r8 = hr.1; n4096 = hn.1 }

-- ---- the inputs' lengths

-- Z, and T: one of k numbers, or a list of them
pub record Listed (k once list : ℕ) : Type 0 where
  pub none : once ≡ 0
  pub whole : list ≡ list / k * k
  pub some : 0 < list / k
  pub most : list / k ≤ 4096

pub record Constant (k once list : ℕ) : Type 0 where
  pub one : once ≡ k
  pub none : list ≡ 0

abbrev pub Chosen : ℕ → ℕ → ℕ → Type 0
Chosen k once list = Constant k once list ⊎ Listed k once list

says_chosen : (k once list : ℕ) → Says (part_fits k once list) (Chosen k once list)
unfolding part_fits
says_chosen k once list =
    says_or
    (says_as (λ h. record { one = h.0; none = h.1 }) (λ h. (h.one, h.none)) (says_and (says_eq once k) (says_eq list 0)))
    (says_as
    (λ h. record { none = h.0.0.0; whole = h.0.0.1; some = positive (list / k) h.0.1; most = h.1 })
    (λ h. (((h.none, h.whole), λ e. omega (arith, h.some)), h.most))
    (says_and (says_and (says_and (says_eq once 0) (says_eq list (list / k * k))) (says_not (says_eq (list / k) 0))) (says_le (list / k) 4096)))

pub record InputsFit (x : Model) (o : Offsets) : Type 0 where
  pub design : Chosen (x.p * x.m) (length x.z_once) (length x.z_list)
  pub h : length x.h ≡ x.p * x.p
  pub transition : Chosen (x.m * x.m) (length x.t_once) (length x.t_list)
  pub rr : length x.rr ≡ x.m * x.r
  pub q : length x.q ≡ x.r * x.r
  pub c : length o.c ≡ x.m
  pub d : length o.d ≡ x.p
  pub a1 : length o.a1 ≡ x.m
  pub p_star : length x.p_star ≡ x.m * x.m
  pub flags : length x.flags ≡ x.m

pub says_inputs : (x : Model) (o : Offsets) → Says (inputs_fit x o) (InputsFit x o)
unfolding inputs_fit
says_inputs x o =
    let is : (a b : ℕ) → Says (eqb a b) (a ≡ b) = says_eq in
    says_as
    (λ h.
    record {
      design = h.0.0.0.0.0.0.0.0.0;
      h = h.0.0.0.0.0.0.0.0.1;
      transition = h.0.0.0.0.0.0.0.1;
      rr = h.0.0.0.0.0.0.1;
      q = h.0.0.0.0.0.1;
      c = h.0.0.0.0.1;
      d = h.0.0.0.1;
      a1 = h.0.0.1;
      p_star = h.0.1;
      flags = h.1;
    })
    (λ h. (((((((((h.design, h.h), h.transition), h.rr), h.q), h.c), h.d), h.a1), h.p_star), h.flags))
    (says_and
    (says_and
    (says_and
    (says_and
    (says_and
    (says_and
    (says_and
    (says_and
    (says_and (says_chosen (x.p * x.m) (length x.z_once) (length x.z_list)) (is (length x.h) (x.p * x.p)))
    (says_chosen (x.m * x.m) (length x.t_once) (length x.t_list)))
    (is (length x.rr) (x.m * x.r)))
    (is (length x.q) (x.r * x.r)))
    (is (length o.c) x.m))
    (is (length o.d) x.p))
    (is (length o.a1) x.m))
    (is (length x.p_star) (x.m * x.m)))
    (is (length x.flags) x.m))

-- ---- past refusal 1, past refusal 2, past them all

pub past_sizes : (x : Model) → first_of (of_sizes x) ≡ 0 → InRange x.p x.m x.r x.n
past_sizes x e = in_range x.p x.m x.r x.n (first_none (of_sizes x) tt e).0

pub inputs_fit_lem : (x : Model) (o : Offsets) → inputs_fit x o ≡ true → InputsFit x o
inputs_fit_lem x o e = (says_inputs x o).to (subst T (sym e) tt)

pub lengths_pass : (x : Model) (o : Offsets) (y : ℕ) (room : Bool) → bad_length x o y room ≡ false → (inputs_fit x o ≡ true) × (y ≡ x.n * x.p) × (room ≡ true)
unfolding bad_length
lengths_pass x o y room e =
    let b = both_true (inputs_fit x o && eqb y (x.n * x.p)) room (not-false _ e) in
    let c = both_true (inputs_fit x o) (eqb y (x.n * x.p)) b.0 in
    (c.0, eqb-true y (x.n * x.p) c.1, b.1)

pub past_lengths : (x : Model) (o : Offsets) (y : ℕ) (room : Bool) → first_of (of_lengths x o y room) ≡ 0 → InputsFit x o × (y ≡ x.n * x.p) × (room ≡ true)
past_lengths x o y room e =
    let a = lengths_pass x o y room (first_none (of_lengths x o y room) tt e).0 in
    (inputs_fit_lem x o a.0, a.1, a.2)

pub record Accepted (x : Model) (o : Offsets) (y : ℕ) (room : Bool) : Type 0 where
  pub sizes : InRange x.p x.m x.r x.n
  pub inputs : InputsFit x o
  pub readings : y ≡ x.n * x.p
  pub roomy : room ≡ true

pub accepted : (x : Model) (o : Offsets) (y : ℕ) (infinity room : Bool) → refusal x o y infinity room ≡ 0 → Accepted x o y room
unfolding refusal tests
accepted x o y infinity room e =
    let rest = of_reach x x.n ++ of_entries x o infinity in
    let s = none_of_both (of_sizes x) (of_lengths x o y room ++ rest) tt e in
    let f = past_lengths x o y room (none_of_both (of_lengths x o y room) rest tt s.1).0 in
    record { sizes = past_sizes x s.0; inputs = f.0; readings = f.1; roomy = f.2 }

-- ---- the outputs' lengths

pub as_long : {n a b : ℕ} → n ≤ b → a ≡ b → n ≤ a
as_long h e = omega arith

pub record Roomy (x : Model) (b : CovParts) (b' : MeanParts) : Type 0 where
  pub kinds : kinds_need x ≤ length b.kinds
  pub cov : (q : CovPart) → cov_need x q ≤ length (b.part q)
  pub mean : (q : MeanPart) → mean_need x q ≤ length (b' q)

by_part : (P : CovPart → Type 0) → P predCov → P pred_inf → P filtCov → P fStar → P fInf → P mStar → P mInf → (q : CovPart) → P q
by_part P a b c d e f g predCov = a
by_part P a b c d e f g pred_inf = b
by_part P a b c d e f g filtCov = c
by_part P a b c d e f g fStar = d
by_part P a b c d e f g fInf = e
by_part P a b c d e f g mStar = f
by_part P a b c d e f g mInf = g

by_mean : (P : MeanPart → Type 0) → P predMean → P filtMean → P innovations → (q : MeanPart) → P q
by_mean P a b c predMean = a
by_mean P a b c filtMean = b
by_mean P a b c innovations = c

pub says_roomy : (x : Model) (b : CovParts) (b' : MeanParts) → Says (roomy x b b') (Roomy x b b')
unfolding roomy
says_roomy x b b' =
    let c : (q : CovPart) → Says (leb (cov_need x q) (length (b.part q))) (cov_need x q ≤ length (b.part q)) = λ q. says_le (cov_need x q) (length (b.part q)) in
    let s : (q : MeanPart) → Says (leb (mean_need x q) (length (b' q))) (mean_need x q ≤ length (b' q)) = λ q. says_le (mean_need x q) (length (b' q)) in
    says_as
    (λ h.
    record {
      kinds = h.0.0.0.0.0.0.0.0.0.0;
      cov =
          by_part
          (λ q. cov_need x q ≤ length (b.part q))
          h.0.0.0.0.0.0.0.0.0.1
          h.0.0.0.0.0.0.0.0.1
          h.0.0.0.0.0.0.0.1
          h.0.0.0.0.0.0.1
          h.0.0.0.0.0.1
          h.0.0.0.0.1
          h.0.0.0.1;
      mean = by_mean (λ q. mean_need x q ≤ length (b' q)) h.0.0.1 h.0.1 h.1;
    })
    (λ h.
    ((((((((((h.kinds, h.cov predCov), h.cov pred_inf), h.cov filtCov), h.cov fStar), h.cov fInf), h.cov mStar), h.cov mInf), h.mean predMean), h.mean filtMean), h.mean innovations))
    (says_and
    (says_and
    (says_and
    (says_and
    (says_and
    (says_and
    (says_and (says_and (says_and (says_and (says_le (kinds_need x) (length b.kinds)) (c predCov)) (c pred_inf)) (c filtCov)) (c fStar))
    (c fInf))
    (c mStar))
    (c mInf))
    (s predMean))
    (s filtMean))
    (s innovations))

pub room_of : (x : Model) (b : CovParts) (b' : MeanParts) → roomy x b b' ≡ true → Roomy x b b'
room_of x b b' e = (says_roomy x b b').to (subst T (sym e) tt)

pub record RoomySmoothed (x : Model) (b : CovParts) (b' : MeanParts) (sm sc : ℕ) : Type 0 where
  pub filter : Roomy x b b'
  pub cov : smoothed_cov_need x ≤ sc
  pub mean : smoothed_mean_need x ≤ sm

pub says_roomy_smoothed : (x : Model) (b : CovParts) (b' : MeanParts) (sm sc : List Float)
    → Says (roomy_smoothed x b b' sm sc) (RoomySmoothed x b b' (length sm) (length sc))
unfolding roomy_smoothed
says_roomy_smoothed x b b' sm sc =
    says_as
    (λ h. record { filter = h.0.0; cov = h.0.1; mean = h.1 })
    (λ h. ((h.filter, h.cov), h.mean))
    (says_and (says_and (says_roomy x b b') (says_le (smoothed_cov_need x) (length sc))) (says_le (smoothed_mean_need x) (length sm)))

pub room_smoothed : (x : Model) (b : CovParts) (b' : MeanParts) (sm sc : List Float) → roomy_smoothed x b b' sm sc ≡ true → RoomySmoothed x b b' (length sm) (length sc)
room_smoothed x b b' sm sc e = (says_roomy_smoothed x b b' sm sc).to (subst T (sym e) tt)
