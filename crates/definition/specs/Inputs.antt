-- A call's inputs, and what the two tracks take of them (document 01, "Sizes and lent parts" and "Taken and left").
use Rattle.std.specs.Prelude.{ℕ, ◌-◌, ◌*◌, ◌/◌, min, Bool, true, false, ◌&&◌, cond, List, map, length, get_or, take, drop, eqb, Float}
use Rattle.std.specs.Float.{nan, inf, fin}
use Rattle.definition.specs.Num.{0ᶠ, 1ᶠ, matrix}
use Rattle.definition.specs.Dense.{product, transpose, symmetrise}
use Rattle.definition.specs.Run.{any_of, count, chunks}
use Rattle.definition.specs.Cov.{System, Cov}
use Rattle.definition.specs.Mean.{Frame}

-- the sizes; the design once (z_once) or as a list (z_list), and whether the call asks that the last one be used again where the list runs out
-- (repeats: refusal 14 reads it, the run does not); H; the transition once (t_once) or as a list (t_list); R, Q; the flags and P* of the start
pub record Model : Type 0 where
  pub p : ℕ
  pub m : ℕ
  pub r : ℕ
  pub n : ℕ
  pub z_once : List Float
  pub z_list : List Float
  pub repeats : Bool
  pub h : List Float
  pub t_once : List Float
  pub t_list : List Float
  pub rr : List Float
  pub q : List Float
  pub flags : List ℕ
  pub p_star : List Float

-- what only the means go by: c, d and a1
pub record Offsets : Type 0 where
  pub c : List Float
  pub d : List Float
  pub a1 : List Float

-- all that the refusals and the covariances see of a reading
pub data Class : Type 0 where
  gap infinite finite : Class

unfoldable pub class_of : Float → Class
class_of nan = gap
class_of (inf s) = infinite
class_of (fin s m e) = finite

abbrev pub is_gap : Class → Bool
is_gap gap = true
is_gap infinite = false
is_gap finite = false

abbrev pub is_infinity : Class → Bool
is_infinity gap = false
is_infinity infinite = true
is_infinity finite = false

-- the readings by period: which are gaps
unfoldable pub gap_rows : ℕ → ℕ → List Class → List (List Bool)
gap_rows n p ks = chunks n p (map is_gap ks)

-- ---- Z and T of period t: the constant one, or entry t of the list, whose entries have k numbers each, or the last once the list has run out. (A run
-- goes past its list in a marked call, and there past the designs' alone: refusals 14 and 2.)

unfoldable pub part_from : ℕ → List Float → List Float → ℕ → List Float
part_from k once list t =
    let part = take k (drop (min t (length list / k - 1) * k) list) in
    cond (eqb (length list) 0) once part

abbrev pub design_from : ℕ → ℕ → List Float → List Float → ℕ → List Float
design_from p m z_once z_list = part_from (p * m) z_once z_list

abbrev pub transition_from : ℕ → List Float → List Float → ℕ → List Float
transition_from m t_once t_list = part_from (m * m) t_once t_list

-- ---- R Q R' as (R Q) R', symmetrised

unfoldable pub noise_of : ℕ → ℕ → List Float → List Float → List Float
noise_of m r rr q = symmetrise m (product m r m (product m r r rr q) (transpose m r rr))

unfoldable pub noise : Model → List Float
noise x = noise_of x.m x.r x.rr x.q

-- ---- what the covariances go by, and the means

unfoldable pub system_from : ℕ → ℕ → List Float → List Float → List Float → List Float → List Float → List Float → System
system_from p m z_once z_list h t_once t_list rqr =
    record { p = p; m = m; design_at = design_from p m z_once z_list; transition_at = transition_from m t_once t_list; h = h; rqr = rqr }

unfoldable pub frame_from : ℕ → ℕ → List Float → List Float → List Float → List Float → Frame
frame_from p m z_once z_list t_once t_list =
    record { m = m; design_at = design_from p m z_once z_list; transition_at = transition_from m t_once t_list }

unfoldable pub system_of : Model → System
system_of x = system_from x.p x.m x.z_once x.z_list x.h x.t_once x.t_list (noise x)

unfoldable pub frame_of : Model → Frame
frame_of x = frame_from x.p x.m x.z_once x.z_list x.t_once x.t_list

-- ---- the start: P* as given; P∞ is 1 on the diagonal at each flag; column j of its root belongs to the j-th flagged state (diffuse_root)

abbrev pub is_flagged : List ℕ → ℕ → Bool
is_flagged flags i = eqb (get_or flags i 0) 1

unfoldable pub flags_before : List ℕ → ℕ → ℕ
flags_before flags i = count (eqb 1) (take i flags)

unfoldable pub start_inf_at : List ℕ → ℕ → ℕ → Float
start_inf_at flags i j = cond (eqb i j && is_flagged flags i) 1ᶠ 0ᶠ

unfoldable pub start_inf : ℕ → List ℕ → List Float
start_inf m flags = matrix m m (start_inf_at flags)

unfoldable pub start_root_at : List ℕ → ℕ → ℕ → Float
start_root_at flags i j = cond (is_flagged flags i && eqb (flags_before flags i) j) 1ᶠ 0ᶠ

unfoldable pub start_root : ℕ → List ℕ → List Float
start_root m flags = matrix m m (start_root_at flags)

unfoldable pub start_from : ℕ → List Float → List ℕ → Cov
start_from m p_star flags =
    record { star = p_star; pinf = start_inf m flags; root = start_root m flags; unres = start_inf m flags; live = any_of (eqb 1) flags }

unfoldable pub start_of : Model → Cov
start_of x = start_from x.m x.p_star x.flags
