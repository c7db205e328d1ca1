-- An element's values as the definition's, and what each step of it leaves.
use Rattle.std.specs.Prelude.{ℕ, ◌≤◌, ◌<◌, ◌+◌, ◌≡◌, Bool, false, cond, List, [], ◌∷◌, ◌++◌, take, Float, Option}
use Rattle.std.specs.Borrow.{Bor}
use Rattle.definition.specs.Dense.{outer_sub, over}
use Rattle.definition.specs.Cov.{Decision, skipped, usual, diffuse, Inner, Fixed, apply, element_of, k1_of, none_yet, sd_of}
use Rattle.definition.specs.Star.{again_of}
use Rattle.definition.specs.Parts.{kind_no, f_star_of, f_inf_of, m_star_of, m_inf_of}
use Rattle.laws.specs.Flat.{Flat, flat_in}
use Rattle.dense.specs.Views.{vec, mat, rect}
use Rattle.track.specs.declared.State.{State}
use Rattle.acceptance.specs.Views.{sd_in, fresh_in}
use Rattle.acceptance.specs.declared.Finding.{Finding}
use Rattle.acceptance.specs.declared.Finding.TheVariants as finding
use Rattle.promise.specs.Records.{cause_in}
use Rattle.element.specs.declared.Period.{Period}
use Rattle.element.specs.declared.Records.{Records}
use Rattle.element.specs.declared.Step.{Step}
use Rattle.element.specs.declared.Step.TheVariants as step

-- what a diffuse update leaves of P* and P∞
pub record Updated (m : ℕ) (p* p∞ m* m∞ : List Float) (f f∞ : Float) (q* q∞ : List Float) : Type 0 where
  pub star : mat m q*
      ≡ outer_sub m (outer_sub m (mat m p*) (vec m m*) (over m (vec m m∞) f∞)) (vec m m∞)
      (k1_of m (vec m m*) (over m (vec m m∞) f∞) f f∞)
  pub pinf : mat m q∞ ≡ outer_sub m (mat m p∞) (vec m m∞) (over m (vec m m∞) f∞)

-- ---- what goes from element to element

-- the arrays: P*, P∞, the root B of P∞, and the period's records in the flat form
pub record Carried : Type 0 where
  pub star : List Float
  pub pinf : List Float
  pub root : List Float
  pub flat : Flat

abbrev pub carried : List Float → List Float → List Float → Flat → Carried
carried star pinf root n = record { star = star; pinf = pinf; root = root; flat = n }

-- as the definition has them: the state between elements, `taken` so far; and what stays the same through the period
abbrev pub inner_of : ℕ → Carried → List ℕ → Inner
inner_of m b taken = record { star = mat m b.star; pinf = mat m b.pinf; root = mat m b.root; taken = taken }

abbrev pub fixed_of : Period → Bool → List Float → Fixed
fixed_of x live unres = record { diffuse = live; z = rect x.p x.m x.design.now; pre = mat x.m x.pre.now; unres = mat x.m unres }

abbrev pub noise_in : Period → List Float
noise_in x = mat x.p x.hs.now

-- from the state and the records, and from what of the state stays the same
abbrev pub flat_of : Records → Flat
flat_of r = flat_in r.kinds r.f_star r.f_inf r.m_star r.m_inf

abbrev pub carried_of : State → Records → Carried
carried_of s r = carried s.star s.p_inf s.root (flat_of r)

abbrev pub fixed_in : Period → State → Fixed
fixed_in x s = fixed_of x s.live s.unres

pub record Kept (s s' : State) : Type 0 where
  pub live : s'.live ≡ s.live
  pub unres : s'.unres ≡ s.unres

-- the record of element i, with its numbers and its vectors, after those before it; the same by the decision on the
-- element
pub record Entered (i m kind : ℕ) (f g : Float) (a b : List Float) (n n' : Flat) : Type 0 where
  pub kinds : take (i + 1) n'.kinds ≡ take i n.kinds ++ (kind ∷ [])
  pub f_stars : take (i + 1) n'.f_stars ≡ take i n.f_stars ++ (f ∷ [])
  pub f_infs : take (i + 1) n'.f_infs ≡ take i n.f_infs ++ (g ∷ [])
  pub m_stars : rect (i + 1) m n'.m_stars ≡ rect i m n.m_stars ++ a
  pub m_infs : rect (i + 1) m n'.m_infs ≡ rect i m n.m_infs ++ b

abbrev pub Recorded : ℕ → ℕ → Decision → Flat → Flat → Type 0
Recorded m i d n n' = Entered i m (kind_no d) (f_star_of d) (f_inf_of d) (m_star_of m d) (m_inf_of m d) n n'

-- how an element ended, by the decision on it
abbrev pub step_of : Decision → Step
step_of (skipped c) = step.Passed
step_of (usual f m*) = step.Taken
step_of (diffuse f f∞ m* m∞) = step.Taken

-- the elements taken, after a decision on element i
abbrev pub taken_by : Decision → List ℕ → ℕ → List ℕ
taken_by (skipped c) t i = t
taken_by (usual f m*) t i = t ++ (i ∷ [])
taken_by (diffuse f f∞ m* m∞) t i = t ++ (i ∷ [])

-- decision d on element i, carried out
pub record Applied (m i : ℕ) (z : List Float) (d : Decision) (r : Step) (b b' : Carried) : Type 0 where
  pub inner : (taken : List ℕ) → inner_of m b' (taken_by d taken i) ≡ apply m z i (inner_of m b taken) d
  pub recorded : Recorded m i d b.flat b'.flat
  pub told : r ≡ step_of d

-- and what a finding brings, M* and M∞ being the arrays a and c
unfoldable pub Settled : ℕ → ℕ → List Float → Float → Finding → List Float → List Float → Step → Carried → Carried
    → Type 0
Settled m i z f (finding.Nothing why) a c r b b' = Applied m i z (skipped (cause_in why)) r b b'
Settled m i z f finding.Usual a c r b b' = Applied m i z (usual f (vec m a)) r b b'
Settled m i z f (finding.Diffuse g) a c r b b' = Applied m i z (diffuse f g (vec m a) (vec m c)) r b b'
Settled m i z f (finding.Doubtful x) a c r b b' = (r ≡ step.Doubtful) × (b' ≡ b)

-- element i of p, m states
pub record InPeriod (x : Period) (i : ℕ) : Type 0 where
  pub elements : x.p ≤ 8
  pub states : x.m ≤ 8
  pub here : i < x.p

-- the standard deviations are worked out, once the period had an update
pub record SdKnown (x : Period) (sd : Option (Bor (List Float))) : Type 0 where
  pub known : fresh_in sd ≡ false → sd_in x.m sd ≡ sd_of x.m (mat x.m x.pre.now)

-- element i as the definition has it: what goes on, its record, and whether it was taken
pub record ElementIs (m i : ℕ) (want : Decision × Inner) (r : Step) (b b' : Carried) : Type 0 where
  pub inner : inner_of m b' want.1.taken ≡ want.1
  pub recorded : Recorded m i want.0 b.flat b'.flat
  pub told : r ≡ step_of want.0

-- nothing was done, since the star root has to say: so the period is not diffuse and had an update
pub record Stayed (live fresh : Bool) (b b' : Carried) : Type 0 where
  pub same : b' ≡ b
  pub settled : live ≡ false
  pub stale : fresh ≡ false

-- element i was done, whatever elements were taken before it
abbrev pub ElementDone : ℕ → ℕ → List Float → Fixed → Bool → ℕ → Bool → Carried → Carried → Step → Type 0
ElementDone p m h fix fresh i gap b b' r =
    (taken : List ℕ) → fresh ≡ none_yet taken → ElementIs m i (element_of p m h fix i (inner_of m b taken) gap) r b b'

-- by how it ended, the star root not being asked
unfoldable pub WithoutRoot : ℕ → ℕ → List Float → Fixed → Bool → ℕ → Bool → Carried → Carried → Step → Type 0
WithoutRoot p m h fix fresh i gap b b' step.Passed = ElementDone p m h fix fresh i gap b b' step.Passed
WithoutRoot p m h fix fresh i gap b b' step.Taken = ElementDone p m h fix fresh i gap b b' step.Taken
WithoutRoot p m h fix fresh i gap b b' step.Doubtful = Stayed fix.diffuse fresh b b'

-- The same with F by the star root of the elements taken at hand, whatever P∞, B and the unresolved matrix are; r says
-- whether the element joins them.
pub record ByRootAt (m i : ℕ) (want : Decision × Inner) (taken : List ℕ) (b b' : Carried) (r : Bool) : Type 0 where
  pub inner : inner_of m b' want.1.taken ≡ want.1
  pub recorded : Recorded m i want.0 b.flat b'.flat
  pub joined : want.1.taken ≡ cond r (taken ++ (i ∷ [])) taken

abbrev pub ByRoot : Period → ℕ → Bool → Float → List Float → Flat → List Float → Flat → Bool → Type 0
ByRoot x i gap again star n star' n' r =
    (p∞ b unres : List Float) (taken : List ℕ) → none_yet taken ≡ false
    → again ≡ again_of x.p x.m (rect x.p x.m x.design.now) (noise_in x) (mat x.m x.pre.now) i taken
    → ByRootAt x.m i
    (element_of x.p x.m (noise_in x) (fixed_of x false unres) i (inner_of x.m (carried star p∞ b n) taken) gap) taken
    (carried star p∞ b n) (carried star' p∞ b n') r
