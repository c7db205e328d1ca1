-- The diffuse root's spare columns, those past the flagged states, are +0.0 in every period of a run that began and passed refusals 2 and 3: document
-- 02's words on the saved root.
use Rattle.std.specs.Prelude.{◌≡◌, refl, ℕ, zero, suc, ◌+◌, ◌-◌, ◌*◌, ◌/◌, ◌≤◌, ◌<◌, min, Bool, ◌&&◌, length, get_or, drop, T, eqb, ℤ, pos, Float}
use Rattle.std.proofs.Math.Path.{sym, ap, subst}
use Rattle.std.proofs.Common.{ap₂, ◌∙◌, inl, inr, zero-mul, mul-pos, zero-lt-suc, mul-le-mul_right, suc-mul, arith, get_or-take, get_or-drop, ne_eqb, eq-eqb, eqb-true, le-ltb}
use Rattle.std.proofs.Math.Bool.{true, false, cond}
use mathlib.Core.List.{List, [], ◌∷◌, map}
use Rattle.std.proofs.lemmas.List.{length-map}
use Rattle.std.proofs.Math.Dec.{eqb-suc-zero}
use Rattle.std.specs.Float.{nan, inf, fin, binary64}
use Rattle.std.specs.Float.Ieee.{up, down, unlike, round, mul, div, lt, of_bits}
use Rattle.std.specs.Float.Ieee.Fits.{up_pos}
use Rattle.definition.specs.Num.{◌⊖◌, ◌⊗◌, ◌⊘◌, ◌>ᶠ◌, 0ᶠ, 1ᶠ, cancel_tol, rank_tol, is_zero, is_finite, abs_of, sum_from, at, ent}
use Rattle.definition.specs.Dense.{dot, over, over_at, mat_vec, mat_tVec, mat_tVec_at, mat_tVec_term, less_of, outer_sub, outer_sub_at, product, product_at, product_term, abs_quad_form, abs_to, abs_column, abs_term, row, row_at}
use Rattle.definition.specs.Run.{scan, count, chunks}
use Rattle.definition.specs.Cov.{System, Cov, Fixed, Inner, Decision, diffuse, Candidate, usually, diffusely, diffuse_test, judge, candidate, verdict, apply, root_less, f_inf_by, f_star_by, element_of, is_live, entered, ended, stepped, period_of, period, cov_run}
use Rattle.definition.specs.Inputs.{Model, Offsets, Class, is_gap, part_from, design_from, system_of, system_from, gap_rows, is_flagged, flags_before, start_root, start_root_at, start_of, start_from}
use Rattle.definition.specs.Refusals.{not_finite, bad_system}
use Rattle.definition.specs.Carried.{Past, begun_past, cov_from, past_on}
use Rattle.laws.specs.Verdicts.{cond_by, usually_by}
use Rattle.laws.specs.Any.{either_false, both_true}
use Rattle.laws.specs.All.{AllOf, all_true, each_all}
use Rattle.laws.specs.Accepted.{Chosen, InputsFit}
use Rattle.laws.specs.Lists.{matrix_at, vector_at, place_lt, chunks_each}
use Rattle.laws.specs.Zeros.{Nil, zero_is, round_zero, times_zero, zero_times, sum_zero, nil_is_zero, finite_at}
use Rattle.laws.specs.Signs.{Plain, round_plain, add_plain, lt_nan_right}

-- a divisor above what is not below 0
mul_plain : (x y : Float) → Plain x → Plain y → Plain (x ⊗ y)
unfolding mul
mul_plain nan y p q = tt
mul_plain (inf s) nan p q = tt
mul_plain (inf s) (inf t) p q = both s t p q
  where
    both : (s t : Bool) → s ≡ false → t ≡ false → unlike s t ≡ false
    both s t p q = ap₂ unlike p q
mul_plain (inf s) (fin t n d) p q = go (eqb n 0)
  where
    go : (b : Bool) → Plain (cond b nan (inf (unlike s t)))
    go true = tt
    go false = ap₂ unlike p q
mul_plain (fin s m e) nan p q = tt
mul_plain (fin s m e) (inf t) p q = go (eqb m 0)
  where
    go : (b : Bool) → Plain (cond b nan (inf (unlike s t)))
    go true = tt
    go false = ap₂ unlike p q
mul_plain (fin s m e) (fin t n d) p q = round_plain binary64 (unlike s t) (m * up e * (n * up d)) (down e * down d) (ap₂ unlike p q)

abs_plain : (x : Float) → Plain (abs_of x)
unfolding abs_of
abs_plain nan = tt
abs_plain (inf s) = refl
abs_plain (fin s m e) = refl

from_plain : (s : Float) (k : ℕ) (f : ℕ → Float) → Plain s → ((i : ℕ) → Plain (f i)) → Plain (sum_from s k f)
unfolding sum_from
from_plain s zero f p h = p
from_plain s (suc k) f p h = add_plain binary64 (sum_from s k f) (f k) (from_plain s k f p h) (h k)

cond_plain : (b : Bool) (x y : Float) → Plain x → Plain y → Plain (cond b x y)
cond_plain true x y p q = p
cond_plain false x y p q = q

to_plain : (m : ℕ) (z a : List Float) (k : ℕ) → Plain (abs_to m z a k)
unfolding abs_to abs_column abs_term
to_plain m z a zero = subst Plain (sym zero_is) refl
to_plain m z a (suc k) =
    let h = to_plain m z a k in
    cond_plain (is_zero (at z k)) _ _ h
    (from_plain (abs_to m z a k) m (abs_term m z a k) h (λ i. mul_plain _ _ (mul_plain _ _ (abs_plain (at z i)) (abs_plain (at z k))) (abs_plain (ent m a i k))))

quad_plain : (m : ℕ) (z a : List Float) → Plain (abs_quad_form m z a)
unfolding abs_quad_form
quad_plain m z a = to_plain m z a m

tol_plain : Plain cancel_tol
unfolding of_bits
tol_plain = refl

-- 0 over a number that is above another, which is not below 0
not_below : (c : Float) (t : Bool) (e : ℤ) → Plain c → lt c (fin t 0 e) ≡ false
unfolding lt
not_below nan t e p = refl
not_below (inf s) t e p = p
not_below (fin true m d) t e p = absurd (subst T p tt)
not_below (fin false m d) true e p = refl
not_below (fin false m d) false e p =
    let z : 0 * up e * down d ≡ 0 = ap (λ (i : ℕ). i * down d) (zero-mul (up e)) ∙ zero-mul (down d) in
    le-ltb (m * up d * down e) (0 * up e * down d) (omega arith)

zero_over : (c d : Float) → Plain c → lt c d ≡ true → Nil (fin false 0 (pos 0) ⊘ d)
unfolding div
zero_over c nan p h = absurd (let z = lt_nan_right c in let w : ◌≡◌ {A = ℕ} 0 1 = cc in omega arith)
zero_over c (inf t) p h = (unlike false t, refl)
zero_over c (fin t zero e) p h = absurd (let z = not_below c t e p in let w : ◌≡◌ {A = ℕ} 0 1 = cc in omega arith)
zero_over c (fin t (suc n) e) p h = (
  unlike false t,
  ap (λ (b : Bool). cond b (cond (eqb 0 0) nan (inf (unlike false t))) (round binary64 (unlike false t) (0 * down e) (suc n * up e * 1))) (eqb-suc-zero n)
      ∙ round_zero (unlike false t) (0 * down e) (suc n * up e * 1) (zero-mul (down e)) (mul-pos (mul-pos (zero-lt-suc n) (up_pos e)) (zero-lt-suc 0)),
)

-- ---- the root: columns from k on are +0.0

abbrev pub Spare : ℕ → ℕ → List Float → Type 0
Spare m k root = (i j : ℕ) → i < m → k ≤ j → j < m → ent m root i j ≡ 0ᶠ

abbrev pub Finite : ℕ → List Float → Type 0
Finite m z = (i : ℕ) → i < m → T (is_finite (at z i))

module _ (m k : ℕ) (root : List Float) (spare : Spare m k root) where
  none : (i j : ℕ) → i < m → k ≤ j → j < m → is_zero (ent m root i j) ≡ true
  none i j hi hk hj = nil_is_zero (ent m root i j) (false, spare i j hi hk hj ∙ zero_is)

  -- T B
  spare_product : (tr : List Float) → ((i l : ℕ) → i < m → l < m → T (is_finite (ent m tr i l))) → Spare m k (product m m m tr root)
  unfolding product product_at product_term
  spare_product tr f i j hi hk hj =
      matrix_at m m i j (product_at m m tr root) hi hj
      ∙ sum_zero m (product_term m m tr root i j) (λ l hl. times_zero (ent m tr i l) (ent m root l j) (f i l hi hl) (none l j hl hk hj))
      ∙ sym zero_is

  module _ (z : List Float) (fine : Finite m z) where
    -- u = B' z there
    nothing : (j : ℕ) → k ≤ j → j < m → at (mat_tVec m root z) j ≡ fin false 0 (pos 0)
    unfolding mat_tVec mat_tVec_at mat_tVec_term
    nothing j hk hj =
        vector_at m j (mat_tVec_at m root z) hj
        ∙ sum_zero m (mat_tVec_term m root z j) (λ i hi. zero_times (ent m root i j) (at z i) (fine i hi) (none i j hi hk hj))

    -- B (I - u u' / u' u), where u' u passed the diffuse test
    spare_less : (c : Float) → Plain c → lt c (dot m (mat_tVec m root z) (mat_tVec m root z)) ≡ true → Spare m k (root_less m z root)
    unfolding root_less outer_sub outer_sub_at less_of over over_at
    spare_less c p h i j hi hk hj =
        let u = mat_tVec m root z in
        let d = dot m u u in
        let b = over m u d in
        let n : Nil (at b j) = subst Nil (sym (vector_at m j (over_at u d) hj ∙ ap (λ (v : Float). v ⊘ d) (nothing j hk hj))) (zero_over c d p h) in
        matrix_at m m i j (outer_sub_at m root (mat_vec m root u) b) hi hj
        ∙ ap (λ (t : Bool). cond t (ent m root i j) (ent m root i j ⊖ at (mat_vec m root u) i ⊗ at b j)) (nil_is_zero (at b j) n)
        ∙ spare i j hi hk hj

-- ---- one element

module _ (p m k : ℕ) (h : List Float) (f : Fixed) (i : ℕ) (s : Inner) (spare : Spare m k s.root) (fine : Finite m (row m f.z i)) where
  abbrev After : Decision → Type 0
  After d = Spare m k (apply m (row m f.z i) i s d).root

  usually_spare : (e : Candidate) (f* : Float) (m* : List Float) → After (usually m e f* m*)
  unfolding apply
  usually_spare e f* m* = usually_by After m e f* m* spare spare spare spare

  diffusely_spare : (f* : Float) (m* : List Float) → After (diffusely m (candidate p m h f i s) f* m*)
  unfolding diffusely diffuse_test apply candidate
  diffusely_spare f* m* =
      let e = candidate p m h f i s in
      let z = row m f.z i in
      let m∞ = mat_vec m s.pinf z in
      let f∞ = f_inf_by m z m∞ in
      let u = mat_tVec m s.root z in
      let first = f∞ >ᶠ rank_tol ⊗ abs_quad_form m z s.pinf in
      let least = cancel_tol ⊗ abs_quad_form m z f.unres in
      cond_by After (first && (dot m u u >ᶠ least)) (diffuse f* f∞ m* m∞) (usually m e f* m*)
      (λ q. spare_less m k s.root spare z fine least (mul_plain cancel_tol (abs_quad_form m z f.unres) tol_plain (quad_plain m z f.unres)) (both_true first (dot m u u >ᶠ least) q).1)
      (usually_spare e f* m*)

  element_spare : (gap : Bool) → After (verdict p m h f i s gap)
  unfolding verdict judge apply
  element_spare true = spare
  element_spare false =
      let e = candidate p m h f i s in
      let m* = mat_vec m e.star e.z in
      let f* = f_star_by m e.z e.h m* in
      cond_by After e.live (diffusely m e f* m*) (usually m e f* m*) (λ q. diffusely_spare f* m*) (usually_spare e f* m*)

-- ---- a period, a run

module _ {A B S : Type 0} (f : ℕ → S → A → B × S) (P : S → Type 0) (Q : A → Type 0) (top : ℕ) (step : (t : ℕ) (s : S) (x : A) → t < top → Q x → P s → P (f t s x).1) where
  scan_below : (xs : List A) (t : ℕ) (s : S) → t + length xs ≤ top → AllOf Q xs → P s → P (scan f t s xs).1
  unfolding scan
  scan_below [] t s l q h = h
  scan_below (x ∷ xs) t s l q h = scan_below xs (suc t) (f t s x).1 (omega arith) q.1 (step t s x (omega arith) q.0 h)

-- every design's rows, and every T, are finite
pub record Fine (y : System) : Type 0 where
  pub designs : (t i : ℕ) → i < y.p → Finite y.m (row y.m (y.design_at t) i)
  pub steps : (t i l : ℕ) → i < y.m → l < y.m → T (is_finite (ent y.m (y.transition_at t) i l))

period_spare : (y : System) → Fine y → (k t : ℕ) (c : Cov) (g : List Bool) → length g ≡ y.p → Spare y.m k c.root → Spare y.m k (period y t c g).1.root
unfolding period_of ended stepped element_of
period_spare y fine k t c g long spare =
    let m = y.m in
    let lasts = is_live m c.live c.pinf in
    let f : Fixed = record { diffuse = lasts; z = y.design_at t; pre = c.star; unres = c.unres } in
    let s : Inner = record { star = c.star; pinf = entered m lasts c.pinf; root = c.root; taken = [] } in
    let e = (scan (element_of y.p m y.h f) 0 s g).1 in
    let kept : Spare m k e.root =
    scan_below (element_of y.p m y.h f) (λ (s : Inner). Spare m k s.root) (λ b. Unit {0}) y.p (λ i s b l u q. element_spare y.p m k y.h f i s q (fine.designs t i l) b) g 0 s (omega arith) (all_true g) spare in
    cond_by (Spare m k) lasts (product m m m (y.transition_at t) e.root) e.root (λ q. spare_product m k e.root kept (y.transition_at t) (fine.steps t)) kept

pub run_spare : (y : System) → Fine y → (k t : ℕ) (c : Cov) (rows : List (List Bool)) → AllOf (λ g. length g ≡ y.p) rows → Spare y.m k c.root → Spare y.m k (cov_run y t c rows).1.root
unfolding cov_run
run_spare y fine k t c rows each spare =
    scan_below (period y) (λ (c : Cov). Spare y.m k c.root) (λ g. length g ≡ y.p) (t + length rows) (λ t c g l q h. period_spare y fine k t c g q h) rows t c (omega arith) each spare

-- ---- from a run's start

-- the flagged states before one of them are fewer than all
flags_fewer : (flags : List ℕ) (i : ℕ) → is_flagged flags i ≡ true → flags_before flags i < count (eqb 1) flags
unfolding flags_before count
flags_fewer [] i e = absurd (let z : 0 ≡ 1 = eqb-true 0 1 e in omega arith)
flags_fewer (b ∷ flags) zero e = let z : eqb 1 b ≡ true = eq-eqb 1 b (sym (eqb-true b 1 e)) in rw z (omega arith)
flags_fewer (b ∷ flags) (suc i) e = let ih = flags_fewer flags i e in omega arith

pub start_spare : (m : ℕ) (flags : List ℕ) → Spare m (count (eqb 1) flags) (start_root m flags)
unfolding start_root start_root_at
start_spare m flags i j hi hk hj = matrix_at m m i j (start_root_at flags) hi hj ∙ go (is_flagged flags i) (eqb (flags_before flags i) j) refl refl
  where
    go : (a b : Bool) → is_flagged flags i ≡ a → eqb (flags_before flags i) j ≡ b → cond (a && b) 1ᶠ 0ᶠ ≡ 0ᶠ
    go true true p q = absurd (let l = flags_fewer flags i p in let z : flags_before flags i ≡ j = eqb-true _ _ q in omega arith)
    go true false p q = refl
    go false b p q = refl

-- ---- refusals 2 and 3 see to what is finite

-- entry i of the design, or of the transition, of period t
part_at : (k : ℕ) (once list : List Float) (t i : ℕ) → not_finite once ≡ false → not_finite list ≡ false → Chosen k (length once) (length list) → i < k → T (is_finite (get_or (part_from k once list t) i nan))
unfolding part_from
part_at k once list t i a b (inl d) h =
    let e : eqb (length list) 0 ≡ true = eq-eqb (length list) 0 d.none in
    rw e (finite_at once i a (omega (arith, d.one)))
part_at k once list t i a b (inr d) h =
    let n = length list / k in
    let s = min t (n - 1) in
    let low : suc s ≤ n = omega (arith, d.some) in
    let top : suc s * k ≤ n * k = mul-le-mul_right k low in
    let whole : length list ≡ n * k = d.whole in
    let in_list : s * k + i < length list = omega (arith, suc-mul s k) in
    let e : eqb (length list) 0 ≡ false = ne_eqb (length list) 0 (λ z. omega arith) in
    rw (e, get_or-take k (drop (s * k) list) i nan h, get_or-drop (s * k) list i nan) (finite_at list (s * k + i) b in_list)

pub fine_system : (x : Model) (o : Offsets) → InputsFit x o → bad_system x.z_once x.z_list x.h x.t_once x.t_list x.rr x.q ≡ false → Fine (system_of x)
unfolding system_of system_from bad_system row row_at
fine_system x o fit e =
    let a = either_false _ _ e in
    let b = either_false _ _ a.0 in
    let listed = either_false _ _ b.0 in
    let once = either_false _ _ listed.0 in
    let d = either_false _ _ once.0 in
    let f = either_false (not_finite x.z_once) (not_finite x.z_list) d.0 in
    record {
      designs = λ t i hi j hj.
          let z = design_from x.p x.m x.z_once x.z_list t in
          subst (λ (v : Float). T (is_finite v)) (sym (vector_at x.m j (row_at x.m z i) hj))
          (part_at (x.p * x.m) x.z_once x.z_list t (i * x.m + j) f.0 f.1 fit.design (place_lt x.p x.m i j hi hj));
      steps = λ t i l hi hl. part_at (x.m * x.m) x.t_once x.t_list t (i * x.m + l) once.1 listed.1 fit.transition (place_lt x.m x.m i l hi hl);
    }

-- a run's start has them, and every stretch that passes refusals 2 and 3 keeps them
pub begun_spare : (x : Model) → Spare x.m (count (eqb 1) x.flags) (begun_past x).cov.root
unfolding begun_past start_of start_from
begun_spare x = start_spare x.m x.flags

pub spare_kept : (x : Model) (o : Offsets) (s : Past) (ks : List Class) (k : ℕ) → InputsFit x o → bad_system x.z_once x.z_list x.h x.t_once x.t_list x.rr x.q ≡ false → length ks ≡ x.n * x.p → Spare x.m k s.cov.root → Spare x.m k (past_on x s ks).cov.root
unfolding past_on cov_from gap_rows system_of system_from
spare_kept x o s ks k fit e long spare =
    let gs = chunks x.n x.p (map is_gap ks) in
    run_spare (system_of x) (fine_system x o fit e) k s.done s.cov gs (each_all x.p gs (chunks_each x.n x.p (map is_gap ks) (length-map ks is_gap ∙ long))) spare
