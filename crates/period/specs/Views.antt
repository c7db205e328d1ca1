-- A period's values as the definition's, and what each stretch of its elements leaves.
use Rattle.std.specs.Prelude.{ℕ, ◌≤◌, ◌<◌, ◌+◌, ◌≡◌, Bool, false, cond, List, [], map, take, get_or, Float, Option, None, Some}
use Rattle.std.specs.Float.{nan}
use Rattle.std.specs.Float.Ieee.{is_nan}
use Rattle.definition.specs.Run.{scan, join}
use Rattle.definition.specs.Inputs.{class_of, is_gap}
use Rattle.definition.specs.Cov.{Decision, Inner, Fixed, element_of, entered, is_live, none_yet}
use Rattle.definition.specs.Parts as parts
use Rattle.definition.specs.Parts.{kind_no, m_star_of, m_inf_of}
use Rattle.laws.specs.Flat.{Flat}
use Rattle.laws.specs.Kinds.{news_kind}
use Rattle.dense.specs.Views.{mat, rect}
use Rattle.track.specs.declared.State.{State}
use Rattle.element.specs.declared.Period.{Period}
use Rattle.element.specs.Views.{Carried, carried, inner_of, noise_in, fixed_of, ByRoot}
use Rattle.element.specs.declared.Step.{Step}
use Rattle.element.specs.declared.Step.TheVariants as step

-- ---- what the callers see

-- what the elements of a period leave: their decisions in the flat form, and P*, P∞ and B
pub record Ran (p m : ℕ) (want : List Decision × Inner) (n : Flat) (s : State) : Type 0 where
  pub kinds : take p n.kinds ≡ map kind_no want.0
  pub f_stars : take p n.f_stars ≡ map parts.f_star_of want.0
  pub f_infs : take p n.f_infs ≡ map parts.f_inf_of want.0
  pub m_stars : rect p m n.m_stars ≡ join (map (m_star_of m) want.0)
  pub m_infs : rect p m n.m_infs ≡ join (map (m_inf_of m) want.0)
  pub star : mat m s.star ≡ want.1.star
  pub pinf : mat m s.p_inf ≡ want.1.pinf
  pub root : mat m s.root ≡ want.1.root

-- the state before the period's first element
abbrev pub before_first : ℕ → State → Inner
before_first m s = record { star = mat m s.star; pinf = mat m s.p_inf; root = mat m s.root; taken = [] }

-- the period's test: whether it is diffuse, and P∞; the rest stays
pub record Begun (m : ℕ) (s s' : State) : Type 0 where
  pub lasts : s'.live ≡ is_live m s.live (mat m s.p_inf)
  pub pinf : mat m s'.p_inf ≡ entered m s'.live (mat m s.p_inf)
  pub star : s'.star ≡ s.star
  pub root : s'.root ≡ s.root
  pub unres : s'.unres ≡ s.unres

-- ---- the stretches

abbrev pub gaps_of : List Float → List Bool
gaps_of ys = map is_gap (map class_of ys)

-- element i of a period, or its end; with n readings
pub record Sizes (x : Period) (i n : ℕ) : Type 0 where
  pub elements : x.p ≤ 8
  pub states : x.m ≤ 8
  pub here : i ≤ x.p
  pub readings : n ≡ x.p

-- where the next stretch begins, if one ends with element i, by how that ended
unfoldable pub stop_of : Step → Bool → ℕ → Option ℕ
stop_of step.Passed fresh i = None
stop_of step.Taken fresh i = cond fresh (Some (i + 1)) None
stop_of step.Doubtful fresh i = Some i

-- the first i elements, as the definition has them
abbrev pub up_to : ℕ → ℕ → List Float → Fixed → List Bool → Inner → ℕ → List Decision × Inner
up_to p m h fix gaps s i = scan (element_of p m h fix) 0 s (take i gaps)

-- the records hold the decisions ds
pub record RecordsOf (m i : ℕ) (ds : List Decision) (n : Flat) : Type 0 where
  pub kinds : take i n.kinds ≡ map kind_no ds
  pub f_stars : take i n.f_stars ≡ map parts.f_star_of ds
  pub f_infs : take i n.f_infs ≡ map parts.f_inf_of ds
  pub m_stars : rect i m n.m_stars ≡ join (map (m_star_of m) ds)
  pub m_infs : rect i m n.m_infs ≡ join (map (m_inf_of m) ds)

-- i elements are done, from the state s on
pub record Gone (p m : ℕ) (h : List Float) (fix : Fixed) (gaps : List Bool) (s : Inner) (i : ℕ) (b : Carried)
    : Type 0 where
  pub inner : inner_of m b (up_to p m h fix gaps s i).1.taken ≡ (up_to p m h fix gaps s i).1
  pub records : RecordsOf m i (up_to p m h fix gaps s i).0 b.flat

-- whether none of the first i was taken
abbrev pub none_taken : ℕ → ℕ → List Float → Fixed → List Bool → Inner → ℕ → Bool
none_taken p m h fix gaps s i = none_yet (up_to p m h fix gaps s i).1.taken

-- A stretch without the star root, to element r. It ends before p only once an element is taken, and one that began so
-- only in a period that is not diffuse.
pub record Stretch (p m : ℕ) (h : List Float) (fix : Fixed) (gaps : List Bool) (fresh : Bool) (from r : ℕ)
    (b b' : Carried) : Type 0 where
  pub high : r ≤ p
  pub gone : (s : Inner) → Gone p m h fix gaps s from b → fresh ≡ none_taken p m h fix gaps s from
      → Gone p m h fix gaps s r b' × (r < p → none_taken p m h fix gaps s r ≡ false)
  pub calm : r < p → fresh ≡ false → fix.diffuse ≡ false

-- all the elements that are left
abbrev pub Rest : ℕ → ℕ → List Float → Fixed → List Bool → ℕ → Carried → Carried → Type 0
Rest p m h fix gaps from b b' =
    (s : Inner) → s.taken ≡ [] → Gone p m h fix gaps s from b → none_taken p m h fix gaps s from ≡ false
    → Gone p m h fix gaps s p b'

-- the same in a period that is not diffuse, whatever P∞, B and the unresolved matrix are
abbrev pub RestByRoot : Period → List Bool → ℕ → List Float → Flat → List Float → Flat → Type 0
RestByRoot x gaps from star n star' n' =
    (p∞ b unres : List Float)
    → Rest x.p x.m (noise_in x) (fixed_of x false unres) gaps from (carried star p∞ b n) (carried star' p∞ b n')

-- Element i with F by the star root at hand, and whether it is taken. One before `from` is done already: its record says so,
-- and nothing moves.
pub record TakenAt (x : Period) (ys : List Float) (from i : ℕ) (again : Float) (star : List Float) (n : Flat)
    (star' : List Float) (n' : Flat) (r : Bool) : Type 0 where
  pub done : i < from → (star' ≡ star) × ((n' ≡ n) × (r ≡ news_kind (get_or n.kinds i 0)))
  pub here : from ≤ i → ByRoot x i (is_nan (get_or ys i nan)) again star n star' n' r
