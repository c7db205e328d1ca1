-- Document 01's table of refusals, "The twelve refusals", and document 02's, of lists that are too short: T's reach, which is 2, and 14, right after
-- 2. Each condition is a statement about what is lent.
use Rattle.std.specs.Prelude.{◌≡◌, ℕ, ◌*◌, ◌/◌, ◌≤◌, ◌<◌, List, [], ◌∷◌, ◌++◌, map, T, length, get_or, Float}
use Rattle.std.specs.Float.{nan}
use Rattle.std.specs.Float.Ieee.{lt, eq}
use Rattle.definition.specs.Num.{0ᶠ, is_zero, is_finite, is_infinite, at, ent}
use Rattle.definition.specs.Inputs.{Model, Offsets, class_of, noise, transition_from}
use Rattle.definition.specs.Parts.{CovPart, MeanPart}
use Rattle.definition.specs.Outcome.{CovParts, MeanParts, Counts, kinds_need, cov_need, mean_need, smoothed_cov_need, smoothed_mean_need, cov_of, counts_of}
use Rattle.laws.specs.Says.{◌or◌, Below, Within}

abbrev pub NotFinite : Float → Type 0
NotFinite v = T (is_finite v) → ⊥

-- either zero is 0, and neither is below 0
abbrev pub NotZero : Float → Type 0
NotZero v = T (is_zero v) → ⊥

abbrev pub Negative : Float → Type 0
Negative v = T (lt v 0ᶠ)

abbrev pub Some : List Float → (Float → Type 0) → Type 0
Some l P = Within l nan P

-- 1: p, m, r or n outside its range
abbrev pub OutOf : ℕ → ℕ → Type 0
OutOf top k = (k ≡ 0) or (top < k)

abbrev pub Dimension : Model → Type 0
Dimension x = OutOf 8 x.p or OutOf 8 x.m or OutOf 8 x.r or OutOf 4096 x.n

-- 2: a lent part has the wrong length, or the rule of Z's two parts, or of T's, is broken. `room`: each output is at least as long as needed
pub record Once (k once list : ℕ) : Type 0 where
  pub whole : once ≡ k
  pub none : list ≡ 0

pub record Listed (k once list : ℕ) : Type 0 where
  pub none : once ≡ 0
  pub whole : list ≡ list / k * k
  pub some : list / k ≡ 0 → ⊥
  pub few : list / k ≤ 4096

abbrev pub EitherPart : ℕ → List Float → List Float → Type 0
EitherPart k once list = Once k (length once) (length list) or Listed k (length once) (length list)

pub record Lengths (x : Model) (o : Offsets) (y : List Float) (Room : Type 0) : Type 0 where
  pub z : EitherPart (x.p * x.m) x.z_once x.z_list
  pub h : length x.h ≡ x.p * x.p
  pub t : EitherPart (x.m * x.m) x.t_once x.t_list
  pub rr : length x.rr ≡ x.m * x.r
  pub q : length x.q ≡ x.r * x.r
  pub c : length o.c ≡ x.m
  pub d : length o.d ≡ x.p
  pub a1 : length o.a1 ≡ x.m
  pub p_star : length x.p_star ≡ x.m * x.m
  pub flags : length x.flags ≡ x.m
  pub readings : length y ≡ x.n * x.p
  pub room : Room

-- a list is given, and has fewer entries, of k numbers each, than the run has periods
abbrev pub Outrun : ℕ → List Float → ℕ → Type 0
Outrun k list periods = (length list ≡ 0 → ⊥) × (length list / k < periods)

-- 2 too: T's list has
abbrev pub StepsShort : Model → ℕ → Type 0
StepsShort x periods = Outrun (x.m * x.m) x.t_list periods

-- 14: the list of designs has, and the call does not ask that the last be used again
abbrev pub ListShort : Model → ℕ → Type 0
ListShort x periods = (T x.repeats → ⊥) × Outrun (x.p * x.m) x.z_list periods

abbrev pub SomeShort : Model → ℕ → Type 0
SomeShort x periods = StepsShort x periods or ListShort x periods

-- 3 and 6: an entry is not finite
abbrev pub NonFiniteSystem : Model → Type 0
NonFiniteSystem x =
    Some x.z_once NotFinite or Some x.z_list NotFinite or Some x.h NotFinite
    or Some x.t_once NotFinite or Some x.t_list NotFinite or Some x.rr NotFinite or Some x.q NotFinite

abbrev pub NonFiniteStart : Model → Offsets → Type 0
NonFiniteStart x o = Some o.c NotFinite or Some o.d NotFinite or Some o.a1 NotFinite or Some x.p_star NotFinite

-- 4: a diagonal entry of H or Q is below 0
abbrev pub NotPsd : Model → Type 0
NotPsd x = Below x.p (λ i. Negative (ent x.p x.h i i)) or Below x.r (λ i. Negative (ent x.r x.q i i))

-- 5 and 8: an off-diagonal entry of a k by k matrix is not 0
abbrev pub OffDiagonal : ℕ → List Float → Type 0
OffDiagonal k a = Below k (λ i. Below k (λ j. (i ≡ j → ⊥) × NotZero (ent k a i j)))

-- 7: a flag above 1; or for some state i: its diagonal entry of P* is negative; it is flagged with non-zero a1; or for some state j: P* is not
-- mirrored there as numbers, or i is flagged and has a non-zero entry there in its row or column
abbrev pub Flagged : Model → ℕ → Type 0
Flagged x i = get_or x.flags i 0 ≡ 1

abbrev pub Misshapen : Model → ℕ → ℕ → Type 0
Misshapen x i j =
    (T (eq (ent x.m x.p_star i j) (ent x.m x.p_star j i)) → ⊥)
    or (Flagged x i × (T (is_zero (ent x.m x.p_star i j)) × T (is_zero (ent x.m x.p_star j i)) → ⊥))

abbrev pub StartShape : Model → Offsets → Type 0
StartShape x o =
    Within x.flags 0 (λ b. 1 < b)
    or Below x.m (λ i. Negative (ent x.m x.p_star i i) or (Flagged x i × NotZero (at o.a1 i)) or Below x.m (λ j. Misshapen x i j))

-- 9: some y is infinite
abbrev pub InfiniteReading : List Float → Type 0
InfiniteReading y = Some y (λ v. T (is_infinite v))

-- 10: the first T at (unflagged, flagged) is not 0
abbrev pub first_step : Model → List Float
first_step x = transition_from x.m x.t_once x.t_list 0

abbrev pub MixedDriven : Model → Type 0
MixedDriven x = Below x.m (λ i. Below x.m (λ j. (Flagged x i → ⊥) × Flagged x j × NotZero (ent x.m (first_step x) i j)))

-- 11: R Q R', symmetrised, has a non-finite entry
abbrev pub NonFiniteNoise : Model → Type 0
NonFiniteNoise x = Some (noise x) NotFinite

-- 12: heard > 0 and news = 0, by the run
abbrev pub ran : Model → List Float → Counts
ran x y = counts_of (cov_of x (map class_of y)).0 (map class_of y)

abbrev pub NoInformation : Model → List Float → Type 0
NoInformation x y = (0 < (ran x y).heard) × ((ran x y).news ≡ 0)

-- the outputs are at least as long as needed, in the filter's call and in the smoother's

pub record Room (x : Model) (b : CovParts) (b' : MeanParts) : Type 0 where
  pub kinds : kinds_need x ≤ length b.kinds
  pub covs : (q : CovPart) → cov_need x q ≤ length (b.part q)
  pub means : (q : MeanPart) → mean_need x q ≤ length (b' q)

pub record RoomSmooth (x : Model) (b : CovParts) (b' : MeanParts) (sm sc : List Float) : Type 0 where
  pub filter : Room x b b'
  pub covs : smoothed_cov_need x ≤ length sc
  pub means : smoothed_mean_need x ≤ length sm

-- ---- the table, in the definition's segments

abbrev pub OfSizes : Model → List (ℕ × Type 0)
OfSizes x = (1, Dimension x) ∷ []

abbrev pub OfLengths : Model → Offsets → List Float → Type 0 → List (ℕ × Type 0)
OfLengths x o y Room = (2, Lengths x o y Room → ⊥) ∷ []

abbrev pub OfSteps : Model → ℕ → List (ℕ × Type 0)
OfSteps x periods = (2, StepsShort x periods) ∷ []

abbrev pub OfReach : Model → ℕ → List (ℕ × Type 0)
OfReach x periods = OfSteps x periods ++ ((14, ListShort x periods) ∷ [])

abbrev pub OfSystem : Model → List (ℕ × Type 0)
OfSystem x = (3, NonFiniteSystem x) ∷ (4, NotPsd x) ∷ (5, OffDiagonal x.r x.q) ∷ []

abbrev pub OfStart : Model → Offsets → List (ℕ × Type 0)
OfStart x o = (6, NonFiniteStart x o) ∷ (7, StartShape x o) ∷ []

abbrev pub OfH : Model → List (ℕ × Type 0)
OfH x = (8, OffDiagonal x.p x.h) ∷ []

abbrev pub OfReadings : List Float → List (ℕ × Type 0)
OfReadings y = (9, InfiniteReading y) ∷ []

abbrev pub OfStep : Model → List (ℕ × Type 0)
OfStep x = (10, MixedDriven x) ∷ (11, NonFiniteNoise x) ∷ []

abbrev pub OfRun : Model → List Float → List (ℕ × Type 0)
OfRun x y = (12, NoInformation x y) ∷ []

-- 3 to 11
abbrev pub OfEntries : Model → Offsets → List Float → List (ℕ × Type 0)
OfEntries x o y = OfSystem x ++ OfStart x o ++ OfH x ++ OfReadings y ++ OfStep x

-- the filter's call and the smoother's
abbrev pub table : Model → Offsets → List Float → Type 0 → List (ℕ × Type 0)
table x o y Room = OfSizes x ++ OfLengths x o y Room ++ OfReach x x.n ++ OfEntries x o y ++ OfRun x y

-- k is the number of the first condition that applies; 0 where none does
abbrev pub First : ℕ → List (ℕ × Type 0) → Type 0
First k [] = k ≡ 0
First k (e ∷ es) = ((k ≡ e.0) × e.1) or ((e.1 → ⊥) × First k es)
