-- The table of refusals, for the filter's call and the smoother's: each test says its condition. Refusal 12 blanks what is needed of every lent part,
-- and leaves the rest (`blanked`); every other one leaves each as it was (`keeps`). Which one it is, `refuses` says, in proofs/Refusals.antt.
use Rattle.std.specs.Prelude.{◌≡◌, refl, ◌↔◌, ℕ, zero, suc, ◌*◌, ◌/◌, ◌<◌, Bool, true, false, cond, ◌||◌, List, [], ◌∷◌, ◌++◌, map, T, ltb, eqb, length, get_or, drop, replicate, Float}
use Rattle.std.proofs.Common.{sym, ◌∙◌, inl, inr, ⊎_elim, arith}
use Rattle.std.proofs.Math.Path.{ap}
use Rattle.std.proofs.lemmas.List.{length-map, length-replicate}
use Rattle.std.specs.Float.{nan}
use Rattle.std.specs.Float.Ieee.{lt, eq}
use Rattle.std.specs.Float.Ieee.Bits.{is_false}
use Rattle.definition.specs.Num.{0ᶠ, is_zero, is_finite, is_infinite, at, ent}
use Rattle.definition.specs.Run.{any_of}
use Rattle.definition.specs.Inputs.{Model, Offsets, class_of, is_infinity, is_flagged, noise}
use Rattle.definition.specs.Refusals.{outside, bad_length, outrun, list_short, bad_system, bad_start, negative_at, negative, not_psd, off_at, off_row, off_diagonal, shape_at, shape_row, shape_of, start_shape, driven_at, driven_row, mixed_driven, not_finite, first_of, of_sizes, of_lengths, of_reach, of_system, of_start, of_h, of_readings, of_step}
use Rattle.definition.specs.Parts.{CovPart, MeanPart}
use Rattle.definition.specs.Outcome.{CovParts, MeanParts, CovOutcome, MeanOutcome, SmoothedCov, SmoothedMean, Ending, turned, silent, ending_of, number_of, ending, after, kinds_need, cov_need, mean_need, smoothed_cov_need, smoothed_mean_need, roomy, roomy_smoothed, no_information, cov_outcome, mean_outcome, outcome, outcome_at, smoothed_cov, smoothed_mean, smooth_outcome, smooth_outcome_at}
use Rattle.laws.specs.Any.{infinite_classes}
use Rattle.laws.specs.Accepted.{Chosen, InputsFit, positive, says_inputs, says_roomy}
use Rattle.laws.specs.Numbered.{numbered, or_else, joined, not_twelve}
use Rattle.laws.specs.Says.{Says, says_itself, says_as, says_of, says_not, says_and, says_or, says_eq, says_le, says_lt, says_below, says_within}
use Rattle.demands.specs.Conditions.{NotFinite, Negative, Some, OutOf, Dimension, EitherPart, Lengths, Outrun, ListShort, NonFiniteSystem, NonFiniteStart, NotPsd, OffDiagonal, Flagged, Misshapen, StartShape, InfiniteReading, first_step, MixedDriven, ran, NoInformation, Room, RoomSmooth, OfSizes, OfLengths, OfSteps, OfReach, OfSystem, OfStart, OfH, OfReadings, OfStep, OfRun, First}

-- ---- each test of the definition says its condition

says_finite : (l : List Float) → Says (not_finite l) (Some l NotFinite)
says_finite l = says_within (λ v. says_not (says_itself (is_finite v))) l nan

pub says_out : (top k : ℕ) → Says (eqb k 0 || ltb top k) (OutOf top k)
says_out top k = says_or (says_eq k 0) (says_lt top k)

says_dimension : (x : Model) → Says (outside x.p x.m x.r x.n) (Dimension x)
unfolding outside
says_dimension x = says_or (says_or (says_or (says_out 8 x.p) (says_out 8 x.m)) (says_out 8 x.r)) (says_out 4096 x.n)

-- Z's two parts, and T's
to_either : (k : ℕ) (once list : List Float) → Chosen k (length once) (length list) → EitherPart k once list
to_either k once list =
    ⊎_elim
    (λ d. inl (record { whole = d.one; none = d.none }))
    (λ d. inr (record { none = d.none; whole = d.whole; some = λ e. omega (arith, d.some); few = d.most }))

from_either : (k : ℕ) (once list : List Float) → EitherPart k once list → Chosen k (length once) (length list)
from_either k once list =
    ⊎_elim
    (λ d. inl (record { one = d.whole; none = d.none }))
    (λ d. inr (record { none = d.none; whole = d.whole; some = positive _ d.some; most = d.few }))

says_lengths : (x : Model) (o : Offsets) (y : List Float) (room : Bool) (Room : Type 0) → Says room Room → Says (bad_length x o (length (map class_of y)) room) (Lengths x o y Room → ⊥)
unfolding bad_length
says_lengths x o y room Room s =
    says_not
    (says_as
    (λ h.
    let i = h.0.0 in
    record {
      z = to_either _ x.z_once x.z_list i.design;
      h = i.h;
      t = to_either _ x.t_once x.t_list i.transition;
      rr = i.rr;
      q = i.q;
      c = i.c;
      d = i.d;
      a1 = i.a1;
      p_star = i.p_star;
      flags = i.flags;
      readings = sym (length-map y class_of) ∙ h.0.1;
      room = h.1;
    })
    (λ h.
    let i : InputsFit x o =
    record {
      design = from_either _ x.z_once x.z_list h.z;
      h = h.h;
      transition = from_either _ x.t_once x.t_list h.t;
      rr = h.rr;
      q = h.q;
      c = h.c;
      d = h.d;
      a1 = h.a1;
      p_star = h.p_star;
      flags = h.flags;
    } in
    ((i, length-map y class_of ∙ h.readings), h.room))
    (says_and (says_and (says_inputs x o) (says_eq (length (map class_of y)) (x.n * x.p))) s))

pub says_outrun : (k : ℕ) (list : List Float) (periods : ℕ) → Says (outrun k (length list) periods) (Outrun k list periods)
unfolding outrun
says_outrun k list periods = says_and (says_not (says_eq (length list) 0)) (says_lt (length list / k) periods)

pub not_outrun : (k : ℕ) (list : List Float) (periods : ℕ) → (Outrun k list periods → ⊥) → outrun k (length list) periods ≡ false
not_outrun k list periods h = is_false _ ((says_not (says_outrun k list periods)).from h)

pub says_short : (x : Model) (periods : ℕ) → Says (list_short x.repeats (x.p * x.m) (length x.z_list) periods) (ListShort x periods)
unfolding list_short
says_short x periods = says_and (says_not (says_itself x.repeats)) (says_outrun (x.p * x.m) x.z_list periods)

pub not_short : (x : Model) (periods : ℕ) → (ListShort x periods → ⊥) → list_short x.repeats (x.p * x.m) (length x.z_list) periods ≡ false
not_short x periods h = is_false _ ((says_not (says_short x periods)).from h)

says_system : (x : Model) → Says (bad_system x.z_once x.z_list x.h x.t_once x.t_list x.rr x.q) (NonFiniteSystem x)
unfolding bad_system
says_system x =
    says_or
    (says_or
    (says_or (says_or (says_or (says_or (says_finite x.z_once) (says_finite x.z_list)) (says_finite x.h)) (says_finite x.t_once)) (says_finite x.t_list))
    (says_finite x.rr))
    (says_finite x.q)

says_start : (x : Model) (o : Offsets) → Says (bad_start o.c o.d o.a1 x.p_star) (NonFiniteStart x o)
unfolding bad_start
says_start x o = says_or (says_or (says_or (says_finite o.c) (says_finite o.d)) (says_finite o.a1)) (says_finite x.p_star)

says_negative : (k : ℕ) (a : List Float) (i : ℕ) → Says (negative_at k a i) (Negative (ent k a i i))
unfolding negative_at
says_negative k a i = says_itself (lt (ent k a i i) 0ᶠ)

says_psd : (x : Model) → Says (not_psd x.p x.h x.r x.q) (NotPsd x)
unfolding not_psd negative
says_psd x = says_or (says_below (says_negative x.p x.h) x.p) (says_below (says_negative x.r x.q) x.r)

says_off : (k : ℕ) (a : List Float) → Says (off_diagonal k a) (OffDiagonal k a)
unfolding off_diagonal off_row off_at
says_off k a = says_below (λ i. says_below (λ j. says_and (says_not (says_eq i j)) (says_not (says_itself (is_zero (ent k a i j))))) k) k

says_flagged : (x : Model) (i : ℕ) → Says (is_flagged x.flags i) (Flagged x i)
says_flagged x i = says_eq (get_or x.flags i 0) 1

says_misshapen : (x : Model) (i j : ℕ) → Says (shape_at x.m x.p_star x.flags i j) (Misshapen x i j)
unfolding shape_at
says_misshapen x i j =
    let u = ent x.m x.p_star i j in
    let w = ent x.m x.p_star j i in
    says_or (says_not (says_itself (eq u w))) (says_and (says_flagged x i) (says_not (says_and (says_itself (is_zero u)) (says_itself (is_zero w)))))

says_shape : (x : Model) (o : Offsets) → Says (start_shape x.m x.p_star x.flags o.a1) (StartShape x o)
unfolding start_shape shape_of shape_row
says_shape x o =
    says_or
    (says_within (λ b. says_lt 1 b) x.flags 0)
    (says_below
    (λ i.
    says_or
    (says_or (says_negative x.m x.p_star i) (says_and (says_flagged x i) (says_not (says_itself (is_zero (at o.a1 i))))))
    (says_below (λ j. says_misshapen x i j) x.m))
    x.m)

says_infinite : (y : List Float) → Says (any_of is_infinity (map class_of y)) (InfiniteReading y)
says_infinite y = says_of (infinite_classes y) (says_within (λ v. says_itself (is_infinite v)) y nan)

says_driven : (x : Model) → Says (mixed_driven x.m (first_step x) x.flags) (MixedDriven x)
unfolding mixed_driven driven_row driven_at
says_driven x =
    says_below
    (λ i.
    says_below
    (λ j.
    says_as
    (λ h. (h.0.0, h.0.1, h.1))
    (λ h. ((h.0, h.1), h.2))
    (says_and (says_and (says_not (says_flagged x i)) (says_flagged x j)) (says_not (says_itself (is_zero (ent x.m (first_step x) i j))))))
    x.m)
    x.m

says_silent : (x : Model) (y : List Float) → Says (no_information (ran x y)) (NoInformation x y)
unfolding no_information
says_silent x y = says_and (says_lt 0 (ran x y).heard) (says_eq (ran x y).news 0)

-- ---- the first test of a numbered list and the first condition of a table

abbrev pub Table : List (ℕ × Bool) → List (ℕ × Type 0) → Type 0
Table [] [] = Unit {0}
Table [] (e ∷ es) = ⊥
Table (b ∷ bs) [] = ⊥
Table (b ∷ bs) (e ∷ es) = ((b.0 ≡ e.0) × Says b.1 e.1) × Table bs es

pub first_to : (bs : List (ℕ × Bool)) (es : List (ℕ × Type 0)) → Table bs es → (k : ℕ) → first_of bs ≡ k → First k es
unfolding first_of
first_to [] [] s k e = sym e
first_to [] (c ∷ es) s k e = absurd s
first_to (b ∷ bs) [] s k e = absurd s
first_to (b ∷ bs) (c ∷ es) s k e = pick b.1 s.0.1 e (first_to bs es s.1 k)
  where
    pick : (t : Bool) → Says t c.1 → cond t b.0 (first_of bs) ≡ k → (first_of bs ≡ k → First k es) → First k (c ∷ es)
    pick true t e rest = inl (sym e ∙ s.0.0, t.to tt)
    pick false t e rest = inr (t.from, rest e)

pub first_from_lem : (bs : List (ℕ × Bool)) (es : List (ℕ × Type 0)) → Table bs es → (k : ℕ) → First k es → first_of bs ≡ k
unfolding first_of
first_from_lem [] [] s k e = sym e
first_from_lem [] (c ∷ es) s k e = absurd s
first_from_lem (b ∷ bs) [] s k e = absurd s
first_from_lem (b ∷ bs) (c ∷ es) s k e = ⊎_elim (λ h. here b.1 s.0.1 h.0 h.1) (λ h. there b.1 s.0.1 h.0 (first_from_lem bs es s.1 k h.1)) e
  where
    here : (t : Bool) → Says t c.1 → k ≡ c.0 → c.1 → cond t b.0 (first_of bs) ≡ k
    here true t e h = s.0.0 ∙ sym e
    here false t e h = absurd (t.from h)

    there : (t : Bool) → Says t c.1 → (c.1 → ⊥) → first_of bs ≡ k → cond t b.0 (first_of bs) ≡ k
    there true t h e = absurd (h (t.to tt))
    there false t h e = e

-- ---- a segment of the tests reads as a segment of the table, and so do two in a row

pub record Reads (bs : List (ℕ × Bool)) (es : List (ℕ × Type 0)) : Type 0 where
  pub rows : Table bs es

rows_joined : (bs bs' : List (ℕ × Bool)) (es es' : List (ℕ × Type 0)) → Table bs es → Table bs' es' → Table (bs ++ bs') (es ++ es')
rows_joined [] bs' [] es' s r = r
rows_joined [] bs' (e ∷ es) es' s r = absurd s
rows_joined (b ∷ bs) bs' [] es' s r = absurd s
rows_joined (b ∷ bs) bs' (e ∷ es) es' s r = (s.0, rows_joined bs bs' es es' s.1 r)

infixl 65 ◌then◌
pub ◌then◌ : {bs bs' : List (ℕ × Bool)} {es es' : List (ℕ × Type 0)} → Reads bs es → Reads bs' es' → Reads (bs ++ bs') (es ++ es')
◌then◌ {bs} {bs'} {es} {es'} s r = record { rows = rows_joined bs bs' es es' s.rows r.rows }

pub reads_sizes : (x : Model) → Reads (of_sizes x) (OfSizes x)
reads_sizes x = record { rows = ((refl, says_dimension x), tt) }

pub reads_lengths : (x : Model) (o : Offsets) (y : List Float) (room : Bool) (Room : Type 0) → Says room Room
    → Reads (of_lengths x o (length (map class_of y)) room) (OfLengths x o y Room)
reads_lengths x o y room Room s = record { rows = ((refl, says_lengths x o y room Room s), tt) }

pub reads_steps : (x : Model) (periods : ℕ) → Reads ((2, outrun (x.m * x.m) (length x.t_list) periods) ∷ []) (OfSteps x periods)
reads_steps x periods = record { rows = ((refl, says_outrun (x.m * x.m) x.t_list periods), tt) }

pub reads_reach : (x : Model) (periods : ℕ) → Reads (of_reach x periods) (OfReach x periods)
reads_reach x periods = record { rows = ((reads_steps x periods).rows.0, ((refl, says_short x periods), tt)) }

pub reads_system : (x : Model) → Reads (of_system x) (OfSystem x)
reads_system x = record { rows = ((refl, says_system x), ((refl, says_psd x), ((refl, says_off x.r x.q), tt))) }

pub reads_start : (x : Model) (o : Offsets) → Reads (of_start x o) (OfStart x o)
reads_start x o = record { rows = ((refl, says_start x o), ((refl, says_shape x o), tt)) }

pub reads_h : (x : Model) → Reads (of_h x) (OfH x)
reads_h x = record { rows = ((refl, says_off x.p x.h), tt) }

pub reads_readings : (y : List Float) → Reads (of_readings (any_of is_infinity (map class_of y))) (OfReadings y)
reads_readings y = record { rows = ((refl, says_infinite y), tt) }

pub reads_step : (x : Model) → Reads (of_step x) (OfStep x)
reads_step x = record { rows = ((refl, says_driven x), ((refl, says_finite (noise x)), tt)) }

pub reads_run : (x : Model) (y : List Float) → Reads ((12, no_information (ran x y)) ∷ []) (OfRun x y)
reads_run x y = record { rows = ((refl, says_silent x y), tt) }

-- the ending's number: that of the early refusal, else 12 where the run has no information
number_of_lem : (early : ℕ) (q : Bool) → number_of (ending_of early q) ≡ or_else early (first_of ((12, q) ∷ []))
unfolding first_of ending_of number_of
number_of_lem zero true = refl
number_of_lem zero false = refl
number_of_lem (suc k) q = refl

-- a call whose tests before the run, and 12 after it, read as a table
module _ (before : List (ℕ × Bool)) (q : Bool) (es : List (ℕ × Type 0)) (h : T (numbered before)) (reads : Reads (before ++ ((12, q) ∷ [])) es) where
  number_is : number_of (ending_of (first_of before) q) ≡ first_of (before ++ ((12, q) ∷ []))
  number_is = number_of_lem (first_of before) q ∙ sym (joined before ((12, q) ∷ []) h)

  pub first_is : (k : ℕ) → (number_of (ending_of (first_of before) q) ≡ k) ↔ First k es
  first_is k = (
    λ e. first_to (before ++ ((12, q) ∷ [])) es reads.rows k (sym number_is ∙ e),
    λ h. number_is ∙ first_from_lem (before ++ ((12, q) ∷ [])) es reads.rows k h,
  )

pub says_room : (x : Model) (b : CovParts) (b' : MeanParts) → Says (roomy x b b') (Room x b b')
says_room x b b' =
    says_as
    (λ h. record { kinds = h.kinds; covs = h.cov; means = h.mean })
    (λ h. record { kinds = h.kinds; cov = h.covs; mean = h.means })
    (says_roomy x b b')

pub says_room_smooth : (x : Model) (b : CovParts) (b' : MeanParts) (sm sc : List Float) → Says (roomy_smoothed x b b' sm sc) (RoomSmooth x b b' sm sc)
unfolding roomy_smoothed
says_room_smooth x b b' sm sc =
    says_as
    (λ h. record { filter = h.0.0; covs = h.0.1; means = h.1 })
    (λ h. ((h.filter, h.covs), h.means))
    (says_and (says_and (says_room x b b') (says_le (smoothed_cov_need x) (length sc))) (says_le (smoothed_mean_need x) (length sm)))

-- ---- the ending by its number

pub early : (r : ℕ) (q : Bool) (k : ℕ) → 0 < k → (k ≡ 12 → ⊥) → number_of (ending_of r q) ≡ k → ending_of r q ≡ turned k
unfolding ending_of number_of
early zero true k a b e = absurd (b (sym e))
early zero false k a b e = absurd (omega arith)
early (suc r) q k a b e = ap turned e

pub twelfth : (r : ℕ) (q : Bool) → (r ≡ 12 → ⊥) → number_of (ending_of r q) ≡ 12 → ending_of r q ≡ silent
unfolding ending_of number_of
twelfth zero true l e = refl
twelfth zero false l e = absurd (omega arith)
twelfth (suc r) q l e = absurd (l e)

-- w needed places of an output blank, and the rest of it as it was
abbrev pub Blanked : {A : Type 0} → ℕ → A → List A → List A → Type 0
Blanked k blank old now = now ≡ replicate k blank ++ drop k old

pub blanks : {A : Type 0} (f : Ending) (w old : List A) (k : ℕ) (blank : A) → f ≡ silent → Blanked k blank old (after f w (replicate k blank) old)
unfolding after
blanks f w old k blank e =
    ap (λ (f : Ending). after f w (replicate k blank) old) e ∙ ap (λ (j : ℕ). replicate k blank ++ drop j old) (length-replicate k blank)

-- ---- the filter's call

pub record Blank (x : Model) (b : CovParts) (b' : MeanParts) (r : CovOutcome × MeanOutcome) : Type 0 where
  pub kinds : Blanked (kinds_need x) 0 b.kinds r.0.parts.kinds
  pub covs : (q : CovPart) → Blanked (cov_need x q) 0ᶠ (b.part q) (r.0.parts.part q)
  pub means : (q : MeanPart) → Blanked (mean_need x q) 0ᶠ (b' q) (r.1.parts q)

module _ (x : Model) (o : Offsets) (y : List Float) (b : CovParts) (b' : MeanParts) where
  -- all but 12 write nothing
  pub keeps : (k : ℕ) → 0 < k → (k ≡ 12 → ⊥) → (outcome x o y b b').0.refused ≡ k → ((outcome x o y b b').0.parts ≡ b) × ((outcome x o y b b').1.parts ≡ b')
  unfolding outcome outcome_at cov_outcome mean_outcome ending after
  keeps k l n e =
      let f = early _ _ k l n e in (
        ap (λ (f : Ending). (cov_outcome x f (map class_of y) b).parts) f,
        ap (λ (f : Ending). (mean_outcome x f o (map class_of y) y b').parts) f,
      )

  -- 12 sets the needed stretch of every output to +0.0 and every record to a gap
  pub blanked : (outcome x o y b b').0.refused ≡ 12 → Blank x b b' (outcome x o y b b')
  unfolding outcome outcome_at cov_outcome mean_outcome ending
  blanked e =
      let f = twelfth _ _ (not_twelve x o _ _ _) e in
      record {
        kinds = blanks (ending x o (map class_of y) (roomy x b b')) _ b.kinds (kinds_need x) 0 f;
        covs = λ q. blanks (ending x o (map class_of y) (roomy x b b')) _ (b.part q) (cov_need x q) 0ᶠ f;
        means = λ q. blanks (ending x o (map class_of y) (roomy x b b')) _ (b' q) (mean_need x q) 0ᶠ f;
      }

-- ---- the smoother's call

module _ (x : Model) (o : Offsets) (y : List Float) (b : CovParts) (b' : MeanParts) (sm sc : List Float) where
  abbrev ended : SmoothedCov × SmoothedMean
  ended = smooth_outcome x o y b b' sm sc

  pub keeps_smooth : (k : ℕ) → 0 < k → (k ≡ 12 → ⊥) → ended.0.filter.refused ≡ k
      → (ended.0.filter.parts ≡ b) × (ended.1.filter.parts ≡ b') × (ended.0.smoothed ≡ sc) × (ended.1.smoothed ≡ sm)
  unfolding smooth_outcome smooth_outcome_at cov_outcome mean_outcome smoothed_cov smoothed_mean ending after
  keeps_smooth k l n e =
      let f = early _ _ k l n e in (
        ap (λ (f : Ending). (cov_outcome x f (map class_of y) b).parts) f,
        ap (λ (f : Ending). (mean_outcome x f o (map class_of y) y b').parts) f,
        ap (λ (f : Ending). smoothed_cov x f (map class_of y) sc) f,
        ap (λ (f : Ending). smoothed_mean x f o (map class_of y) y sm) f,
      )

  pub blanked_smooth : ended.0.filter.refused ≡ 12
      → Blank x b b' (ended.0.filter, ended.1.filter)
      × Blanked (smoothed_cov_need x) 0ᶠ sc ended.0.smoothed
      × Blanked (smoothed_mean_need x) 0ᶠ sm ended.1.smoothed
  unfolding smooth_outcome smooth_outcome_at cov_outcome mean_outcome smoothed_cov smoothed_mean ending
  blanked_smooth e =
      let f = twelfth _ _ (not_twelve x o _ _ _) e in
      let g = ending x o (map class_of y) (roomy_smoothed x b b' sm sc) in (
        record {
          kinds = blanks g _ b.kinds (kinds_need x) 0 f;
          covs = λ q. blanks g _ (b.part q) (cov_need x q) 0ᶠ f;
          means = λ q. blanks g _ (b' q) (mean_need x q) 0ᶠ f;
        },
        blanks g _ sc (smoothed_cov_need x) 0ᶠ f,
        blanks g _ sm (smoothed_mean_need x) 0ᶠ f,
      )
