-- Document 01's refusals 1 to 11 and document 02's 14: each one's condition, and the number of the first that applies. (12 is Outcome's: it is judged
-- after the run.)
-- A zero is either zero, and is not below 0.
use Rattle.std.specs.Prelude.{ℕ, ◌*◌, ◌/◌, Bool, not, ◌&&◌, ◌||◌, cond, List, [], ◌∷◌, ◌++◌, length, leb, ltb, eqb, Float}
use Rattle.std.specs.Float.Ieee.{eq}
use Rattle.definition.specs.Num.{◌>ᶠ◌, 0ᶠ, is_zero, is_finite, at, ent}
use Rattle.definition.specs.Run.{any_of, any_to}
use Rattle.definition.specs.Inputs.{Model, Offsets, is_flagged, noise, transition_from}

-- 1 Dimension: p, m, r or n outside its range
abbrev pub beyond : ℕ → ℕ → Bool
beyond top k = eqb k 0 || ltb top k

unfoldable pub outside : ℕ → ℕ → ℕ → ℕ → Bool
outside p m r n = beyond 8 p || beyond 8 m || beyond 8 r || beyond 4096 n

-- 2 Length. Of Z's two parts exactly one is non-empty, and so of T's: the constant one, of k numbers, or 1 to 4096 listed ones
unfoldable pub part_fits : ℕ → ℕ → ℕ → Bool
part_fits k once list =
    (eqb once k && eqb list 0) || (eqb once 0 && eqb list (list / k * k) && not (eqb (list / k) 0) && leb (list / k) 4096)

-- the inputs' lengths: Z, Zs, H, T, Ts, R, Q, c, d, a1, P*, flags
unfoldable pub inputs_fit : Model → Offsets → Bool
inputs_fit x o =
    let p = x.p in
    let m = x.m in
    let r = x.r in
    part_fits (p * m) (length x.z_once) (length x.z_list) && eqb (length x.h) (p * p)
    && part_fits (m * m) (length x.t_once) (length x.t_list) && eqb (length x.rr) (m * r) && eqb (length x.q) (r * r) && eqb (length o.c) m && eqb (length o.d) p
    && eqb (length o.a1) m && eqb (length x.p_star) (m * m) && eqb (length x.flags) m

-- `readings`: how many there are; `room`: each output is at least as long as needed
unfoldable pub bad_length : Model → Offsets → ℕ → Bool → Bool
bad_length x o readings room = not (inputs_fit x o && eqb readings (x.n * x.p) && room)

-- A list, of so many numbers, that has fewer entries, of k numbers each, than the run has periods. (What is constant has no list.) It is 2 Length of the
-- list of transitions; and of the designs' 14 ListShort, where the call does not ask that the last be used again.
unfoldable pub outrun : ℕ → ℕ → ℕ → Bool
outrun k list periods = not (eqb list 0) && ltb (list / k) periods

unfoldable pub list_short : Bool → ℕ → ℕ → ℕ → Bool
list_short repeats pm list periods = not repeats && outrun pm list periods

-- 3 NonFiniteSystem and 6 NonFiniteStart
abbrev pub unfit : Float → Bool
unfit x = not (is_finite x)

abbrev pub not_finite : List Float → Bool
not_finite a = any_of unfit a

unfoldable pub bad_system : List Float → List Float → List Float → List Float → List Float → List Float → List Float → Bool
bad_system z_once z_list h t_once t_list rr q =
    not_finite z_once || not_finite z_list || not_finite h || not_finite t_once || not_finite t_list || not_finite rr || not_finite q

unfoldable pub bad_start : List Float → List Float → List Float → List Float → Bool
bad_start c d a1 p_star = not_finite c || not_finite d || not_finite a1 || not_finite p_star

-- 4 NotPsd: a diagonal entry of H or Q is below 0
unfoldable pub negative_at : ℕ → List Float → ℕ → Bool
negative_at k a i = 0ᶠ >ᶠ ent k a i i

unfoldable pub negative : ℕ → List Float → Bool
negative k a = any_to k (negative_at k a)

unfoldable pub not_psd : ℕ → List Float → ℕ → List Float → Bool
not_psd p h r q = negative p h || negative r q

-- 5 QNotDiagonal and 8 NonDiagonalH: an entry off the diagonal is not 0
unfoldable pub off_at : ℕ → List Float → ℕ → ℕ → Bool
off_at k a i j = not (eqb i j) && not (is_zero (ent k a i j))

unfoldable pub off_row : ℕ → List Float → ℕ → Bool
off_row k a i = any_to k (off_at k a i)

unfoldable pub off_diagonal : ℕ → List Float → Bool
off_diagonal k a = any_to k (off_row k a)

-- 7 StartShape: a flag above 1; P* not mirrored as numbers, or with a negative diagonal entry; a flagged state with non-zero a1 or a non-zero
-- P* row or column. (Each place (i, j) is looked at, so where P* is mirrored a flagged row is a flagged column too.)
unfoldable pub shape_at : ℕ → List Float → List ℕ → ℕ → ℕ → Bool
shape_at m p flags i j =
    not (eq (ent m p i j) (ent m p j i)) || (is_flagged flags i && not (is_zero (ent m p i j) && is_zero (ent m p j i)))

unfoldable pub shape_row : ℕ → List Float → List ℕ → ℕ → Bool
shape_row m p flags i = any_to m (shape_at m p flags i)

unfoldable pub shape_of : ℕ → List Float → List ℕ → List Float → ℕ → Bool
shape_of m p flags a1 i = negative_at m p i || (is_flagged flags i && not (is_zero (at a1 i))) || shape_row m p flags i

abbrev pub bad_flag : ℕ → Bool
bad_flag b = ltb 1 b

unfoldable pub start_shape : ℕ → List Float → List ℕ → List Float → Bool
start_shape m p flags a1 = any_of bad_flag flags || any_to m (shape_of m p flags a1)

-- 10 MixedDriven: the first T at (unflagged, flagged) is not 0
unfoldable pub driven_at : ℕ → List Float → List ℕ → ℕ → ℕ → Bool
driven_at m t flags i j = not (is_flagged flags i) && is_flagged flags j && not (is_zero (ent m t i j))

unfoldable pub driven_row : ℕ → List Float → List ℕ → ℕ → Bool
driven_row m t flags i = any_to m (driven_at m t flags i)

unfoldable pub mixed_driven : ℕ → List Float → List ℕ → Bool
mixed_driven m t flags = any_to m (driven_row m t flags)

-- the number of the first test that holds; 0 for none
unfoldable pub first_of : List (ℕ × Bool) → ℕ
first_of [] = 0
first_of (e ∷ es) = let rest = first_of es in cond e.1 e.0 rest

-- ---- The table of document 01, in its order, and 14, in segments: a call's order is a join of them and of the refusals that the call alone has.

-- 1 Dimension
abbrev pub of_sizes : Model → List (ℕ × Bool)
of_sizes x = (1, outside x.p x.m x.r x.n) ∷ []

-- 2 Length. Of the readings: how many there are; `room` as above
abbrev pub of_lengths : Model → Offsets → ℕ → Bool → List (ℕ × Bool)
of_lengths x o readings room = (2, bad_length x o readings room) ∷ []

-- How far the lists reach, of a run of so many periods, its first one being the first of each list: 2 Length by T's, 14 ListShort by the designs'
abbrev pub of_reach : Model → ℕ → List (ℕ × Bool)
of_reach x periods =
    (2, outrun (x.m * x.m) (length x.t_list) periods)
    ∷ (14, list_short x.repeats (x.p * x.m) (length x.z_list) periods)
    ∷ []

-- 3 NonFiniteSystem, 4 NotPsd, 5 QNotDiagonal
abbrev pub of_system : Model → List (ℕ × Bool)
of_system x =
    (3, bad_system x.z_once x.z_list x.h x.t_once x.t_list x.rr x.q)
    ∷ (4, not_psd x.p x.h x.r x.q)
    ∷ (5, off_diagonal x.r x.q)
    ∷ []

-- 6 NonFiniteStart, 7 StartShape
abbrev pub of_start : Model → Offsets → List (ℕ × Bool)
of_start x o =
    (6, bad_start o.c o.d o.a1 x.p_star) ∷ (7, start_shape x.m x.p_star x.flags o.a1) ∷ []

-- 8 NonDiagonalH
abbrev pub of_h : Model → List (ℕ × Bool)
of_h x = (8, off_diagonal x.p x.h) ∷ []

-- 9 InfiniteReading
abbrev pub of_readings : Bool → List (ℕ × Bool)
of_readings infinity = (9, infinity) ∷ []

-- 10 MixedDriven, 11 NonFiniteNoise
abbrev pub of_step : Model → List (ℕ × Bool)
of_step x =
    (10, mixed_driven x.m (transition_from x.m x.t_once x.t_list 0) x.flags) ∷ (11, not_finite (noise x)) ∷ []

-- 3 to 11: what is looked up in the inputs themselves. Of the readings: whether one is infinite
abbrev pub of_entries : Model → Offsets → Bool → List (ℕ × Bool)
of_entries x o infinity = of_system x ++ of_start x o ++ of_h x ++ of_readings infinity ++ of_step x

-- The filter's call and the smoother's: the lists' reach right after the lengths.
unfoldable pub tests : Model → Offsets → ℕ → Bool → Bool → List (ℕ × Bool)
tests x o readings infinity room = of_sizes x ++ of_lengths x o readings room ++ of_reach x x.n ++ of_entries x o infinity

unfoldable pub refusal : Model → Offsets → ℕ → Bool → Bool → ℕ
refusal x o readings infinity room = first_of (tests x o readings infinity room)
