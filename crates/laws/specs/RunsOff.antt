-- What is not finite stays so to the run's end: no update and no step takes an infinity or a NaN back. So where the moments at place n are finite, those
-- of every period are, and a report (definition Reports) needs no look at them: `cov_found`, `mean_found`. Only P∞ can run off and be cleared again.
use Rattle.std.specs.Prelude.{◌≡◌, ◌⊎◌, ℕ, zero, suc, ◌+◌, ◌*◌, ◌/◌, ◌%◌, ◌<◌, Bool, true, not, ◌||◌, cond, T, ltb, eqb, take, Float}
use Rattle.std.proofs.Math.Path.{refl, ap}
use Rattle.std.proofs.Common.{sym, ◌∙◌, inl, inr, not-suc-le-zero, le_of_suc-le-suc, div-add-mod', div-lt_iff_lt-mul, mod-lt, eq-or-lt_of_le, arith, take_all}
use Rattle.std.proofs.Math.Bool.{false}
use Rattle.std.specs.Bool.{beq}
use mathlib.Core.List.{List, [], ◌∷◌, map}
use Rattle.std.proofs.Math.ListN.{length}
use Rattle.std.proofs.lemmas.List.{length-map}
use Rattle.std.specs.Float.{nan, inf, fin, Format}
use Rattle.std.specs.Float.Ieee.{binary64, add, sub, mul, neg, eq, unlike, of_bits}
use Rattle.definition.specs.Num.{◌⊕◌, ◌⊖◌, ◌⊗◌, half, is_zero, is_finite, zeros, at, ent, sum_to, sum_but}
use Rattle.definition.specs.Dense.{axpy_at, axpy, over, less_of, outer_sub_at, outer_sub, mat_vec_term, mat_vec_at, mat_vec, zero_at, product_term, product_at, product, mul as matMul, transposed, sandwich, plus_at, plus, sym_at, symmetrise}
use Rattle.definition.specs.Run.{scan, any_of, count, pairs}
use Rattle.definition.specs.Cov.{System, Cov, Inner, Decision, skipped, usual, diffuse, CovPeriod, k1_of, apply, element_of, entered, step_star, stepped, ended, period_of, period, cov_run}
use Rattle.definition.specs.Mean.{Frame, Shift, Mean, MeanPeriod, heed, hear, mean_step, mean_ended, mean_period_of, mean_period, mean_run}
use Rattle.definition.specs.Refusals.{not_finite}
use Rattle.definition.specs.Reports.{first_from, cov_is_off, mean_is_off, cov_report, mean_report}
use Rattle.laws.specs.All.{all_take, scan_keeps}
use Rattle.laws.specs.Lists.{length_tab, some_column, vector_at, matrix_at}
use Rattle.laws.specs.Long.{symmetrise_long}
use Rattle.laws.specs.Shapes.{Sized, period_keeps, period_first}
use Rattle.laws.specs.Reports.{None, first_none}

abbrev Off : Float → Type 0
Off x = is_finite x ≡ false

-- ---- numbers

either_off : (b : Bool) (x y : Float) → Off x → Off y → Off (cond b x y)
either_off true x y h g = h
either_off false x y h g = g

no : {A : Type 0} → true ≡ false → A
no e = absurd (let z : ◌≡◌ {A = ℕ} 0 1 = cc in omega arith)

add_left : (f : Format) (x y : Float) → Off x → Off (add f x y)
unfolding is_finite add
add_left f nan y e = refl
add_left f (inf s) nan e = refl
add_left f (inf s) (inf t) e = either_off (beq s t) (inf s) nan refl refl
add_left f (inf s) (fin t n d) e = refl
add_left f (fin s m d) y e = no e

add_right : (f : Format) (x y : Float) → Off y → Off (add f x y)
unfolding is_finite add
add_right f nan y e = refl
add_right f (inf s) nan e = refl
add_right f (inf s) (inf t) e = either_off (beq s t) (inf s) nan refl refl
add_right f (inf s) (fin t n d) e = no e
add_right f (fin s m d) nan e = refl
add_right f (fin s m d) (inf t) e = refl
add_right f (fin s m d) (fin t n c) e = no e

sub_left : (f : Format) (x y : Float) → Off x → Off (sub f x y)
unfolding sub
sub_left f x y e = add_left f x (neg y) e

mul_left : (f : Format) (x y : Float) → Off x → Off (mul f x y)
unfolding is_finite mul
mul_left f nan y e = refl
mul_left f (inf s) nan e = refl
mul_left f (inf s) (inf t) e = refl
mul_left f (inf s) (fin t n d) e = either_off (eqb n 0) nan (inf (unlike s t)) refl refl
mul_left f (fin s m d) y e = no e

mul_right : (f : Format) (x y : Float) → Off y → Off (mul f x y)
unfolding is_finite mul
mul_right f nan y e = refl
mul_right f (inf s) nan e = refl
mul_right f (inf s) (inf t) e = refl
mul_right f (inf s) (fin t n d) e = no e
mul_right f (fin s m d) nan e = refl
mul_right f (fin s m d) (inf t) e = either_off (eqb m 0) nan (inf (unlike s t)) refl refl
mul_right f (fin s m d) (fin t n c) e = no e

-- it is not left out of a sum as a zero is
off_not_zero : (x : Float) → Off x → is_zero x ≡ false
unfolding is_finite eq of_bits
off_not_zero nan e = refl
off_not_zero (inf s) e = refl
off_not_zero (fin s m d) e = no e

sum_off : (k l : ℕ) (f : ℕ → Float) → l < k → Off (f l) → Off (sum_to k f)
unfolding sum_to
sum_off zero l f h e = absurd (not-suc-le-zero h)
sum_off (suc k) l f h e = pick (eq-or-lt_of_le (le_of_suc-le-suc h)) (λ g. sum_off k l f g e)
  where
    pick : (l ≡ k) ⊎ (l < k) → (l < k → Off (sum_to k f)) → Off (sum_to k f ⊕ f k)
    pick (inr g) before = add_left binary64 (sum_to k f) (f k) (before g)
    pick (inl g) before = add_right binary64 (sum_to k f) (f k) (rw g at e)

sum_but_off : (k l : ℕ) (out : ℕ → Bool) (f : ℕ → Float) → l < k → out l ≡ false → Off (f l) → Off (sum_but k out f)
unfolding sum_but
sum_but_off zero l out f h q e = absurd (not-suc-le-zero h)
sum_but_off (suc k) l out f h q e = pick (eq-or-lt_of_le (le_of_suc-le-suc h)) (λ g. sum_but_off k l out f g q e)
  where
    pick : (l ≡ k) ⊎ (l < k) → (l < k → Off (sum_but k out f)) → Off (cond (out k) (sum_but k out f) (sum_but k out f ⊕ f k))
    pick (inr g) before = either_off (out k) (sum_but k out f) (sum_but k out f ⊕ f k) (before g) (add_left binary64 (sum_but k out f) (f k) (before g))
    pick (inl g) before =
        let o : out k ≡ false = ap out (sym g) ∙ q in
        ap (λ (b : Bool). is_finite (cond b (sum_but k out f) (sum_but k out f ⊕ f k))) o ∙ add_right binary64 (sum_but k out f) (f k) (rw g at e)

-- ---- entry (i, j) of P* through a period's elements and its step

module _ (m i j : ℕ) (i< : i < m) (j< : j < m) where
  outer_off : (p a b : List Float) → Off (ent m p i j) → Off (ent m (outer_sub m p a b) i j)
  unfolding outer_sub outer_sub_at less_of
  outer_off p a b h =
      ap is_finite (matrix_at m m i j (outer_sub_at m p a b) i< j<)
      ∙ either_off (is_zero (at b j)) (ent m p i j) (ent m p i j ⊖ at a i ⊗ at b j) h (sub_left binary64 (ent m p i j) (at a i ⊗ at b j) h)

  apply_off : (z : List Float) (k : ℕ) (s : Inner) (d : Decision) → Off (ent m s.star i j) → Off (ent m (apply m z k s d).star i j)
  unfolding apply
  apply_off z k s (skipped c) h = h
  apply_off z k s (usual f m*) h = outer_off s.star m* (over m m* f) h
  apply_off z k s (diffuse f f∞ m* m∞) h =
      let k0 = over m m∞ f∞ in outer_off (outer_sub m s.star m* k0) m∞ (k1_of m m* k0 f f∞) (outer_off s.star m* k0 h)

  sym_off : (a : List Float) → Off (ent m a i j) → Off (ent m (symmetrise m a) i j)
  unfolding symmetrise sym_at
  sym_off a h =
      let up = half ⊗ (ent m a i j ⊕ ent m a j i) in
      let low = half ⊗ (ent m a j i ⊕ ent m a i j) in
      ap is_finite (matrix_at m m i j (sym_at m a) i< j<)
      ∙ either_off (ltb i j) up (cond (ltb j i) low (ent m a i j))
      (mul_right binary64 half (ent m a i j ⊕ ent m a j i) (add_left binary64 (ent m a i j) (ent m a j i) h))
      (either_off (ltb j i) low (ent m a i j) (mul_right binary64 half (ent m a j i ⊕ ent m a i j) (add_right binary64 (ent m a j i) (ent m a i j) h)) h)

  -- T P has a whole column of it, and (T P) T' nothing else
  column_off : (t p : List Float) → Off (ent m p i j) → (k : ℕ) → k < m → Off (ent m (matMul m t p) k j)
  unfolding product product_at product_term
  column_off t p h k k< = ap is_finite (matrix_at m m k j (product_at m m t p) k< j<) ∙ sum_off m i (product_term m m t p k j) i< (mul_right binary64 (ent m t k i) (ent m p i j) h)

  sandwich_off : (t p : List Float) → Off (ent m p i j) → Off (ent m (sandwich m t p) i j)
  unfolding sandwich product product_at product_term
  sandwich_off t p h =
      let tp = matMul m t p in
      ap is_finite (matrix_at m m i j (product_at m m tp (transposed m t)) i< j<)
      ∙ sum_off m j (product_term m m tp (transposed m t) i j) j< (mul_left binary64 (ent m tp i j) (ent m (transposed m t) j j) (column_off t p h i i<))

  step_off : (t rqr p : List Float) → Off (ent m p i j) → Off (ent m (step_star m t rqr p) i j)
  unfolding step_star plus plus_at
  step_off t rqr p h =
      let s = sandwich m t p in
      sym_off (plus m s rqr) (ap is_finite (matrix_at m m i j (plus_at m s rqr) i< j<) ∙ add_left binary64 (ent m s i j) (ent m rqr i j) (sandwich_off t p h))

-- ---- a list with an entry that is not finite

entry_off : (l : List Float) → T (not_finite l) → (k : ℕ) × (k < length l) × Off (at l k)
unfolding any_of
entry_off [] h = absurd h
entry_off (x ∷ l) h = pick (is_finite x) refl h (λ g. entry_off l g)
  where
    pick : (b : Bool) → is_finite x ≡ b → T (not b || not_finite l) → (T (not_finite l) → (k : ℕ) × (k < length l) × Off (at l k)) → (k : ℕ) × (k < suc (length l)) × Off (at (x ∷ l) k)
    pick true e h rest = let r = rest h in (suc r.0, omega (arith, r.1), r.2)
    pick false e h rest = (0, omega arith, e)

off_entry : (l : List Float) (k : ℕ) → k < length l → Off (at l k) → T (not_finite l)
unfolding any_of
off_entry [] k h e = absurd (not-suc-le-zero h)
off_entry (x ∷ l) zero h e = rw e tt
off_entry (x ∷ l) (suc k) h e = right (not (is_finite x)) (not_finite l) (off_entry l k (le_of_suc-le-suc h) e)
  where
    right : (a b : Bool) → T b → T (a || b)
    right true b h = tt
    right false b h = h

-- a matrix b has one where a has
matrix_stays : (m : ℕ) (a b : List Float) → length a ≡ m * m → length b ≡ m * m → ((i j : ℕ) → i < m → j < m → Off (ent m a i j) → Off (ent m b i j)) → T (not_finite a) → T (not_finite b)
matrix_stays m a b la lb stays h =
    let e = entry_off a h in
    let k = e.0 in
    let k< : k < m * m = rw la at e.1 in
    let m0 = some_column m m k k< in
    let here : k / m * m + k % m ≡ k = div-add-mod' k m in
    let off : Off (ent m a (k / m) (k % m)) = rw here e.2 in
    off_entry b k (rw lb k<) (rw here at (stays (k / m) (k % m) ((div-lt_iff_lt-mul m0).1 k<) (mod-lt k m0) off))

vector_stays : (m : ℕ) (a b : List Float) → length a ≡ m → length b ≡ m → ((i : ℕ) → i < m → Off (at a i) → Off (at b i)) → T (not_finite a) → T (not_finite b)
vector_stays m a b la lb stays h =
    let e = entry_off a h in
    let k< : e.0 < m = rw la at e.1 in
    off_entry b e.0 (rw lb k<) (stays e.0 k< e.2)

zeros_fine : (k : ℕ) → not_finite (zeros k) ≡ false
unfolding any_of is_finite of_bits
zeros_fine zero = refl
zeros_fine (suc k) = zeros_fine k

whole : (n : ℕ) (l : List Bool) → length l ≡ n → take n l ≡ l
whole n l e = take_all n l (omega (arith, e))

first_after : (k : ℕ) (b : Bool) (l r : List Bool) → first_from (suc k) l ≡ first_from (suc k) r → first_from k (b ∷ l) ≡ first_from k (b ∷ r)
unfolding first_from
first_after k true l r e = refl
first_after k false l r e = e

-- what would make a test that fails hold does not hold
kept_out : (a b : Bool) → (T a → T b) → b ≡ false → a ≡ false
kept_out true true f e = e
kept_out true false f e = absurd (f tt)
kept_out false b f e = refl

-- ---- the covariances

step_long : (m : ℕ) (t rqr p : List Float) → length (step_star m t rqr p) ≡ m * m
unfolding step_star
step_long m t rqr p = symmetrise_long m _

module _ (y : System) where
  filt_off : (t : ℕ) (c : Cov) (g : List Bool) → Sized y.m c → T (not_finite c.star) → T (not_finite (period y t c g).0.filt)
  unfolding period_of ended element_of
  filt_off t c g sz =
      let m = y.m in
      matrix_stays m c.star _ sz.star (symmetrise_long m _) (λ i j i< j< h.
      sym_off m i j i< j< _ (scan_keeps (element_of y.p m y.h _) (λ (s : Inner). Off (ent m s.star i j)) (λ k s b e. apply_off m i j i< j< _ k s _ e) g 0 _ h))

  next_off : (t : ℕ) (c : Cov) (g : List Bool) → T (not_finite (period y t c g).0.filt) → T (not_finite (period y t c g).1.star)
  unfolding period_of ended stepped
  next_off t c g = let m = y.m in matrix_stays m _ _ (symmetrise_long m _) (step_long m _ _ _) (λ i j i< j< h. step_off m i j i< j< (y.transition_at t) y.rqr _ h)

  end_off : (rows : List (List Bool)) (t : ℕ) (c : Cov) → Sized y.m c → T (not_finite c.star) → T (not_finite (scan (period y) t c rows).1.star)
  unfolding scan
  end_off [] t c sz h = h
  end_off (g ∷ rows) t c sz h = end_off rows (suc t) (period y t c g).1 ((period_keeps y).goes_on t c g sz) (next_off t c g (filt_off t c g sz h))

  pred_inf_fine : (t : ℕ) (c : Cov) (g : List Bool) → (period y t c g).0.diffuse ≡ false → not_finite (period y t c g).0.pred_inf ≡ false
  unfolding period_of ended entered
  pred_inf_fine t c g e = rw e (zeros_fine (y.m * y.m))

  -- a period that is not diffuse, before an end that is finite
  period_fine : (rows : List (List Bool)) (t : ℕ) (c : Cov) (g : List Bool) → Sized y.m c → (period y t c g).0.diffuse ≡ false → not_finite (scan (period y) (suc t) (period y t c g).1 rows).1.star ≡ false → cov_is_off (period y t c g).0 ≡ false
  unfolding cov_is_off period_of ended
  period_fine rows t c g sz d e =
      let onward = end_off rows (suc t) (period y t c g).1 ((period_keeps y).goes_on t c g sz) in
      let pred : not_finite (period y t c g).0.pred ≡ false = kept_out _ _ (λ h. onward (next_off t c g (filt_off t c g sz h))) e in
      let filt : not_finite (period y t c g).0.filt ≡ false = kept_out _ _ (λ h. onward (next_off t c g h)) e in
      rw (pred, pred_inf_fine t c g d, filt)

  settled_fine : (rows : List (List Bool)) (t : ℕ) (c : Cov) → Sized y.m c → c.live ≡ false → not_finite (scan (period y) t c rows).1.star ≡ false → None (map cov_is_off (scan (period y) t c rows).0)
  unfolding scan
  settled_fine [] t c sz l e = tt
  settled_fine (g ∷ rows) t c sz l e =
      let d = (period_first y).stays t c g l in
      (period_fine rows t c g sz d e, settled_fine rows (suc t) (period y t c g).1 ((period_keeps y).goes_on t c g sz) ((period_first y).ends t c g d) e)

  -- the periods that are looked at: all, or where the end is finite the diffuse ones
  abbrev pub cov_until : List CovPeriod × Cov → ℕ
  cov_until r = cond (not_finite r.1.star) (length r.0) (count (λ (c : CovPeriod). c.diffuse) r.0)

  fine_until : (rows : List (List Bool)) (t : ℕ) (c : Cov) (k : ℕ) → Sized y.m c → not_finite (scan (period y) t c rows).1.star ≡ false
      → let ps = (scan (period y) t c rows).0 in first_from k (map cov_is_off ps) ≡ first_from k (take (count (λ (c : CovPeriod). c.diffuse) ps) (map cov_is_off ps))
  unfolding scan count
  fine_until [] t c k sz e = refl
  fine_until (g ∷ rows) t c k sz e = by (period y t c g).0.diffuse refl (fine_until rows (suc t) (period y t c g).1 (suc k) ((period_keeps y).goes_on t c g sz) e)
    where
      q : CovPeriod
      q = (period y t c g).0

      rest : List CovPeriod
      rest = (scan (period y) (suc t) (period y t c g).1 rows).0

      many : ℕ
      many = count (λ (c : CovPeriod). c.diffuse) rest

      by : (b : Bool) → q.diffuse ≡ b → first_from (suc k) (map cov_is_off rest) ≡ first_from (suc k) (take many (map cov_is_off rest))
          → first_from k (cov_is_off q ∷ map cov_is_off rest) ≡ first_from k (take (cond q.diffuse 1 0 + many) (cov_is_off q ∷ map cov_is_off rest))
      by true d later =
          let one : cond q.diffuse 1 0 + many ≡ suc many = ap (λ (b : Bool). cond b 1 0 + many) d ∙ omega arith in
          first_after k (cov_is_off q) (map cov_is_off rest) (take many (map cov_is_off rest)) later ∙ ap (λ (n : ℕ). first_from k (take n (cov_is_off q ∷ map cov_is_off rest))) (sym one)
      by false d later =
          let none : None (cov_is_off q ∷ map cov_is_off rest) = (period_fine rows t c g sz d e, settled_fine rows (suc t) (period y t c g).1 ((period_keeps y).goes_on t c g sz) ((period_first y).ends t c g d) e) in
          first_none k _ none ∙ sym (first_none k _ (all_take (λ b. b ≡ false) (cond q.diffuse 1 0 + many) (cov_is_off q ∷ map cov_is_off rest) none))

  pub cov_found : (rows : List (List Bool)) (t : ℕ) (c : Cov) (k : ℕ) → Sized y.m c → let r = cov_run y t c rows in cov_report k r.0 ≡ first_from k (take (cov_until r) (map cov_is_off r.0))
  unfolding cov_run cov_report
  cov_found rows t c k sz = by (not_finite (scan (period y) t c rows).1.star) refl
    where
      ps : List CovPeriod
      ps = (scan (period y) t c rows).0

      by : (b : Bool) → not_finite (scan (period y) t c rows).1.star ≡ b → first_from k (map cov_is_off ps) ≡ first_from k (take (cond (not_finite (scan (period y) t c rows).1.star) (length ps) (count (λ (c : CovPeriod). c.diffuse) ps)) (map cov_is_off ps))
      by true e = rw e (ap (first_from k) (sym (whole (length ps) (map cov_is_off ps) (length-map ps cov_is_off))))
      by false e = rw e (fine_until rows t c k sz e)

-- ---- the means

module _ (m i : ℕ) (i< : i < m) where
  axpy_off : (a : List Float) (v : Float) (b : List Float) → Off (at a i) → Off (at (axpy m a v b) i)
  unfolding axpy axpy_at
  axpy_off a v b h = ap is_finite (vector_at m i (axpy_at a v b) i<) ∙ add_left binary64 (at a i) (v ⊗ at b i) h

  heed_off : (s : Mean) (v : Float) (d : Decision) → Off (at s.a i) → Off (at (heed m s v d).a i)
  unfolding heed
  heed_off s v (skipped c) h = h
  heed_off s v (usual f m*) h = axpy_off s.a v (over m m* f) h
  heed_off s v (diffuse f f∞ m* m∞) h = axpy_off s.a v (over m m∞ f∞) h

  mean_step_off : (t c a : List Float) → Off (at a i) → Off (at (mean_step m t c a) i)
  unfolding mean_step mat_vec mat_vec_at mat_vec_term zero_at
  mean_step_off t c a h =
      axpy_off (mat_vec m t a) _ c
      (ap is_finite (vector_at m i (mat_vec_at m t a) i<) ∙ sum_but_off m i (zero_at a) (mat_vec_term m t a i) i< (off_not_zero (at a i) h) (mul_right binary64 (ent m t i i) (at a i) h))

heed_long : (m : ℕ) (s : Mean) (v : Float) (d : Decision) → length s.a ≡ m → length (heed m s v d).a ≡ m
unfolding heed axpy
heed_long m s v (skipped c) h = h
heed_long m s v (usual f m*) h = length_tab m 0 _
heed_long m s v (diffuse f f∞ m* m∞) h = length_tab m 0 _

module _ (y : Frame) (x : Shift) where
  pub filt_long : (t : ℕ) (s : Mean) (e : List Decision × List Float) → length s.a ≡ y.m → length (mean_period y x t s e).0.filt ≡ y.m
  unfolding mean_period_of mean_ended hear
  filt_long t s e h = scan_keeps (hear y.m (y.design_at t) x.d) (λ (s : Mean). length s.a ≡ y.m) (λ i s d g. heed_long y.m s _ d.0 g) (pairs e.0 e.1) 0 s h

  pub next_long : (t : ℕ) (s : Mean) (e : List Decision × List Float) → length (mean_period y x t s e).1.a ≡ y.m
  unfolding mean_period_of mean_ended mean_step axpy
  next_long t s e = length_tab y.m 0 _

  mean_filt_off : (t : ℕ) (s : Mean) (e : List Decision × List Float) → length s.a ≡ y.m → T (not_finite s.a) → T (not_finite (mean_period y x t s e).0.filt)
  unfolding mean_period_of mean_ended hear
  mean_filt_off t s e l =
      vector_stays y.m s.a _ l (filt_long t s e l) (λ i i< h.
      scan_keeps (hear y.m (y.design_at t) x.d) (λ (s : Mean). Off (at s.a i)) (λ k s d g. heed_off y.m i i< s _ d.0 g) (pairs e.0 e.1) 0 s h)

  mean_next_off : (t : ℕ) (s : Mean) (e : List Decision × List Float) → length s.a ≡ y.m → T (not_finite (mean_period y x t s e).0.filt) → T (not_finite (mean_period y x t s e).1.a)
  unfolding mean_period_of mean_ended
  mean_next_off t s e l = vector_stays y.m _ _ (filt_long t s e l) (next_long t s e) (λ i i< h. mean_step_off y.m i i< (y.transition_at t) x.c _ h)

  mean_end_off : (es : List (List Decision × List Float)) (t : ℕ) (s : Mean) → length s.a ≡ y.m → T (not_finite s.a) → T (not_finite (scan (mean_period y x) t s es).1.a)
  unfolding scan
  mean_end_off [] t s l h = h
  mean_end_off (e ∷ es) t s l h = mean_end_off es (suc t) (mean_period y x t s e).1 (next_long t s e) (mean_next_off t s e l (mean_filt_off t s e l h))

  means_fine : (es : List (List Decision × List Float)) (t : ℕ) (s : Mean) → length s.a ≡ y.m → not_finite (scan (mean_period y x) t s es).1.a ≡ false → None (map mean_is_off (scan (mean_period y x) t s es).0)
  unfolding scan mean_is_off mean_period_of mean_ended
  means_fine [] t s l q = tt
  means_fine (e ∷ es) t s l q =
      let onward = mean_end_off es (suc t) (mean_period y x t s e).1 (next_long t s e) in
      let pred : not_finite (mean_period y x t s e).0.pred ≡ false = kept_out _ _ (λ h. onward (mean_next_off t s e l (mean_filt_off t s e l h))) q in
      let filt : not_finite (mean_period y x t s e).0.filt ≡ false = kept_out _ _ (λ h. onward (mean_next_off t s e l h)) q in
      (rw (pred, filt), means_fine es (suc t) (mean_period y x t s e).1 (next_long t s e) q)

  -- the periods that are looked at: all, or where the end is finite none
  abbrev pub mean_until : List MeanPeriod × Mean → ℕ
  mean_until r = cond (not_finite r.1.a) (length r.0) 0

  pub mean_found : (es : List (List Decision × List Float)) (t : ℕ) (s : Mean) (k : ℕ) → length s.a ≡ y.m → let r = mean_run y x t s es in mean_report k r.0 ≡ first_from k (take (mean_until r) (map mean_is_off r.0))
  unfolding mean_run mean_report
  mean_found es t s k l = by (not_finite (scan (mean_period y x) t s es).1.a) refl
    where
      ps : List MeanPeriod
      ps = (scan (mean_period y x) t s es).0

      by : (b : Bool) → not_finite (scan (mean_period y x) t s es).1.a ≡ b → first_from k (map mean_is_off ps) ≡ first_from k (take (cond (not_finite (scan (mean_period y x) t s es).1.a) (length ps) 0) (map mean_is_off ps))
      by true e = rw e (ap (first_from k) (sym (whole (length ps) (map mean_is_off ps) (length-map ps mean_is_off))))
      by false e = rw e (first_none k _ (means_fine es t s l e) ∙ sym (first_none k [] tt))
