-- smoother.rs: the backward pass, Durbin and Koopman, 5.3 and 6.4.4, in the same two tracks. Elements last to first; its gains multiply by 1 / F.
-- The Rust goes back through both tracks in one loop; neither reads the other, so the order of each one's operations is the Rust's.
use Rattle.std.specs.Prelude.{ℕ, ◌-◌, ◌*◌, Bool, cond, List, eqb, Float}
use Rattle.std.specs.Float.Ieee.{neg}
use Rattle.definition.specs.Num.{◌⊕◌, ◌⊖◌, ◌⊗◌, ◌⊘◌, 0ᶠ, 1ᶠ, tabulate, matrix, zeros, at}
use Rattle.definition.specs.Dense.{axpy, scaled, mat_vec, mat_tVec, outer_scaled, mul, transposed, plus, minus, quad, symmetrise, row}
use Rattle.definition.specs.Run.{scan_back, fold_back, pairs}
use Rattle.definition.specs.Cov.{Decision, skipped, usual, diffuse, CovPeriod}
use Rattle.definition.specs.Mean.{Frame, MeanPeriod}

-- N0, N1, N2 and r0, r1
pub record Ns : Type 0 where
  pub n0 : List Float
  pub n1 : List Float
  pub n2 : List Float

pub record Rs : Type 0 where
  pub r0 : List Float
  pub r1 : List Float

-- ---- the gains and L: L0 = I - K z', L1 = - K1 z', F1 = 1 / F∞, F2 = - F* F1 F1, K1 = M* F1 + M∞ F2

unfoldable pub l_zero_at : List Float → List Float → ℕ → ℕ → Float
l_zero_at k z i j = cond (eqb i j) 1ᶠ 0ᶠ ⊖ at k i ⊗ at z j

unfoldable pub l_zero : ℕ → List Float → List Float → List Float
l_zero m k z = matrix m m (l_zero_at k z)

unfoldable pub l_one_at : List Float → List Float → ℕ → ℕ → Float
l_one_at k z i j = neg (at k i) ⊗ at z j

unfoldable pub l_one : ℕ → List Float → List Float → List Float
l_one m k z = matrix m m (l_one_at k z)

unfoldable pub f_one : Float → Float
f_one f∞ = 1ᶠ ⊘ f∞

unfoldable pub f_two : Float → Float → Float
f_two f f∞ = neg f ⊗ f_one f∞ ⊗ f_one f∞

unfoldable pub k_one_at : List Float → List Float → Float → Float → ℕ → Float
k_one_at m* m∞ f1 f2 j = at m* j ⊗ f1 ⊕ at m∞ j ⊗ f2

unfoldable pub k_one : ℕ → Float → Float → List Float → List Float → List Float
k_one m f f∞ m* m∞ = tabulate m (k_one_at m* m∞ (f_one f∞) (f_two f f∞))

-- L of a usual element, and L0 and L1 of a diffuse one
unfoldable pub l_usual : ℕ → List Float → Float → List Float → List Float
l_usual m z f m* = l_zero m (scaled m m* (f_one f)) z

unfoldable pub l_diffuse : ℕ → List Float → Float → Float → List Float → List Float → List Float
l_diffuse m z f f∞ m* m∞ = l_one m (k_one m f f∞ m* m∞) z

-- ---- an element, back through the covariances: N0, N1, N2 from those after it

-- N0 = z z' / F + L' N0 L
unfoldable pub usual_n0 : ℕ → List Float → Float → List Float → List Float → List Float
usual_n0 m z g l n0 = plus m (outer_scaled m z z g) (quad m l n0 l)

-- N1 = z z' F1 + L0' N1 L0 + L1' N0 L0
unfoldable pub diffuse_n1 : ℕ → List Float → Float → List Float → List Float → Ns → List Float
diffuse_n1 m z f1 l0 l1 n = plus m (plus m (outer_scaled m z z f1) (quad m l0 n.n1 l0)) (quad m l1 n.n0 l0)

-- N2 = z z' F2 + L0' N2 L0 + L0' N1 L1 + L1' N1' L0 + L1' N0 L1
unfoldable pub diffuse_n2 : ℕ → List Float → Float → List Float → List Float → Ns → List Float
diffuse_n2 m z f2 l0 l1 n =
    let a = plus m (outer_scaled m z z f2) (quad m l0 n.n2 l0) in
    let b = plus m a (quad m l0 n.n1 l1) in
    let c = plus m b (quad m l1 (transposed m n.n1) l0) in
    plus m c (quad m l1 n.n0 l1)

-- a usual element moves N1, to N1 L, in a diffuse period alone, and N2 never
unfoldable pub back_n : ℕ → Bool → List Float → Ns → Decision → Ns
back_n m live z n (skipped c) = n
back_n m live z n (usual f m*) =
    let l = l_usual m z f m* in
    let n1 = mul m n.n1 l in
    record { n0 = usual_n0 m z (f_one f) l n.n0; n1 = cond live n1 n.n1; n2 = n.n2 }
back_n m live z n (diffuse f f∞ m* m∞) =
    let l0 = l_usual m z f∞ m∞ in
    let l1 = l_diffuse m z f f∞ m* m∞ in
    record { n0 = quad m l0 n.n0 l0; n1 = diffuse_n1 m z (f_one f∞) l0 l1 n; n2 = diffuse_n2 m z (f_two f f∞) l0 l1 n }

-- ---- and through the means. r1 of a diffuse element takes r0 as it was after the element

unfoldable pub usual_r : ℕ → List Float → Float → Float → List Float → List Float → List Float
usual_r m z v g l r = axpy m (mat_tVec m l r) (v ⊗ g) z

unfoldable pub diffuse_r : ℕ → List Float → Float → Float → List Float → List Float → Rs → List Float
diffuse_r m z v f1 l0 l1 r = axpy m (axpy m (mat_tVec m l0 r.r1) 1ᶠ (mat_tVec m l1 r.r0)) (v ⊗ f1) z

unfoldable pub back_r : ℕ → List Float → Rs → Decision → Float → Rs
back_r m z r (skipped c) v = r
back_r m z r (usual f m*) v = record { r0 = usual_r m z v (f_one f) (l_usual m z f m*) r.r0; r1 = r.r1 }
back_r m z r (diffuse f f∞ m* m∞) v =
    let l0 = l_usual m z f∞ m∞ in
    let l1 = l_diffuse m z f f∞ m* m∞ in
    record { r0 = mat_tVec m l0 r.r0; r1 = diffuse_r m z v (f_one f∞) l0 l1 r }

-- ---- the elements of a period, last to first

unfoldable pub back_element : ℕ → Bool → List Float → ℕ → Ns → Decision → Ns
back_element m live design i n d = back_n m live (row m design i) n d

unfoldable pub elements_n : ℕ → Bool → List Float → Ns → List Decision → Ns
elements_n m live design n ds = fold_back (back_element m live design) 0 n ds

unfoldable pub back_mean_element : ℕ → List Float → ℕ → Rs → Decision × Float → Rs
back_mean_element m design i r e = back_r m (row m design i) r e.0 e.1

unfoldable pub elements_r : ℕ → List Float → Rs → List (Decision × Float) → Rs
elements_r m design r es = fold_back (back_mean_element m design) 0 r es

-- ---- one period back: its elements, its smoothed moments, and the step to the period before

-- A N B
unfoldable pub between : ℕ → List Float → List Float → List Float → List Float
between m a n b = mul m (mul m a n) b

-- V = P - P N0 P, and in a diffuse period less P∞ N1 P, its transpose and P∞ N2 P∞; symmetrised
unfoldable pub diffuse_v : ℕ → List Float → List Float → Ns → List Float → List Float
diffuse_v m p p∞ n v =
    let x = between m p∞ n.n1 p in
    minus m (minus m (minus m v x) (transposed m x)) (between m p∞ n.n2 p∞)

unfoldable pub back_v : ℕ → Bool → List Float → List Float → Ns → List Float
back_v m live p p∞ n =
    let v = minus m p (between m p n.n0 p) in
    let w = diffuse_v m p p∞ n v in
    symmetrise m (cond live w v)

-- α = a + P r0, and in a diffuse period + P∞ r1
unfoldable pub back_a : ℕ → Bool → List Float → List Float → List Float → Rs → List Float
back_a m live p p∞ a r =
    let b = axpy m a 1ᶠ (mat_vec m p r.r0) in
    let c = axpy m b 1ᶠ (mat_vec m p∞ r.r1) in
    cond live c b

-- T' N T, three times, and T' r, twice. The Rust leaves this step out at period 0; nothing reads it there.
unfoldable pub step_ns : ℕ → List Float → Ns → Ns
step_ns m t n = record { n0 = quad m t n.n0 t; n1 = quad m t n.n1 t; n2 = quad m t n.n2 t }

unfoldable pub step_rs : ℕ → List Float → Rs → Rs
step_rs m t r = record { r0 = mat_tVec m t r.r0; r1 = mat_tVec m t r.r1 }

-- of a period it reads all but the filtered moments
unfoldable pub back_cov_of : ℕ → List Float → List Float → Ns → CovPeriod → List Float × Ns
back_cov_of m t design n c =
    let e = elements_n m c.diffuse design n c.decisions in
    (back_v m c.diffuse c.pred c.pred_inf e, step_ns m t e)

unfoldable pub back_mean_of : ℕ → List Float → List Float → Rs → CovPeriod × MeanPeriod → List Float × Rs
back_mean_of m t design r c =
    let e = elements_r m design r (pairs c.0.decisions c.1.vs) in
    (back_a m c.0.diffuse c.0.pred c.0.pred_inf c.1.pred e, step_rs m t e)

-- Durbin and Koopman: the step from t to t - 1 takes the T of t - 1, the one that led into t. (At 0 nothing reads the step, whichever T it takes.)
abbrev pub back_transition : Frame → ℕ → List Float
back_transition y t = y.transition_at (t - 1)

abbrev pub back_cov : Frame → ℕ → Ns → CovPeriod → List Float × Ns
back_cov y t n c = back_cov_of y.m (back_transition y t) (y.design_at t) n c

abbrev pub back_mean : Frame → ℕ → Rs → CovPeriod × MeanPeriod → List Float × Rs
back_mean y t r c = back_mean_of y.m (back_transition y t) (y.design_at t) r c

-- ---- the run back: the smoothed moments of each period, the first period's first

unfoldable pub no_ns : ℕ → Ns
no_ns m = let o = zeros (m * m) in record { n0 = o; n1 = o; n2 = o }

unfoldable pub no_rs : ℕ → Rs
no_rs m = let o = zeros m in record { r0 = o; r1 = o }

unfoldable pub smooth_cov : Frame → List CovPeriod → List (List Float)
smooth_cov y cs = (scan_back (back_cov y) 0 (no_ns y.m) cs).0

unfoldable pub smooth_mean : Frame → List CovPeriod → List MeanPeriod → List (List Float)
smooth_mean y cs ss = (scan_back (back_mean y) 0 (no_rs y.m) (pairs cs ss)).0
