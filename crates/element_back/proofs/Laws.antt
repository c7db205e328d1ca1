-- What the steps of an element back come to, over plain variables: each is handed what a call left.
use mathlib.Core.Path.{◌≡◌, refl, ◌∙◌}
use Prim.Native.Nat.{ℕ, ◌+◌, ◌-◌, ◌*◌, ◌≤◌}
use mathlib.Core.Bool.{Bool, cond}
use mathlib.Core.List.{List}
use lib.ListN.{length, take, drop}
use lib.Ieee.{Float, binary64}
use Rattle.definition.specs.Dense.{row, row_at, outer_scaled, plus, plus_at, quad, mul, transposed}
use Rattle.definition.specs.Cov.{usual, diffuse}
use Rattle.laws.specs.Lists.{tab_cong}
use Rattle.laws.specs.Flat.{block_at}
use Rattle.laws.specs.Backward.{part_block, block_long}
use Rattle.dense.specs.Views.{vec}
use Rattle.dense.proofs.Laws.{loaded_vec}
use Rattle.laws.specs.Swap.{add_swap}
use Rattle.definition.specs.Smooth.{Ns, f_one, f_two, l_usual, l_diffuse, usual_n0, diffuse_n1, diffuse_n2, back_n}

-- the m entries from place k * m on, loaded
pub loaded_block : (k m : ℕ) (l r : List Float) → k * m + m ≤ length l → vec (length (take (k * m + m - k * m) (drop (k * m) l))) r ≡ take (k * m + m - k * m) (drop (k * m) l) → vec m r ≡ block_at m l k
loaded_block k m l r h e = loaded_vec m r (block_long k m l h) e ∙ part_block k m l h

-- of a design it is row k
pub block_row : (m : ℕ) (l : List Float) (k : ℕ) → block_at m l k ≡ row m l k
unfolding block_at row row_at
block_row m l k = refl

-- a sum of matrices does not turn on their order
plus_swap : (m : ℕ) (a b : List Float) → plus m a b ≡ plus m b a
unfolding plus plus_at
plus_swap m a b = tab_cong (m * m) 0 _ _ (λ k u v. add_swap binary64 _ _)

module _ (m : ℕ) (z : List Float) where
  pub usual_n0_lem : (g : Float) (l n0 ln q s r : List Float) → ln ≡ mul m (transposed m l) n0 → q ≡ mul m ln l → s ≡ outer_scaled m z z g → r ≡ plus m q s → r ≡ usual_n0 m z g l n0
  unfolding usual_n0 quad
  usual_n0_lem _ _ _ _ q s _ a b c d = let e = plus_swap m q s in cc

  pub usual_n : (f g : Float) (live : Bool) (m* l a b c a' b' : List Float) → l ≡ l_usual m z f m* → g ≡ f_one f → a' ≡ usual_n0 m z g l a → b' ≡ cond live (mul m b l) b → ◌≡◌ {A = Ns} (record { n0 = a'; n1 = b'; n2 = c }) (back_n m live z (record { n0 = a; n1 = b; n2 = c }) (usual f m*))
  unfolding back_n
  usual_n _ _ _ _ _ _ _ _ _ _ el eg e0 e1 = cc

  pub diffuse_n1_lem : (f1 : Float) (l0 l1 a b c s s' r : List Float) → s ≡ outer_scaled m z z f1 → s' ≡ plus m s (quad m l0 b l0) → r ≡ plus m s' (quad m l1 a l0) → r ≡ diffuse_n1 m z f1 l0 l1 (record { n0 = a; n1 = b; n2 = c })
  unfolding diffuse_n1
  diffuse_n1_lem _ _ _ _ _ _ _ _ _ e1 e2 e3 = cc

  pub diffuse_n2_lem : (f2 : Float) (l0 l1 a b c t s0 s1 s2 s3 r : List Float) → s0 ≡ outer_scaled m z z f2 → s1 ≡ plus m s0 (quad m l0 c l0) → s2 ≡ plus m s1 (quad m l0 b l1) → t ≡ transposed m b → s3 ≡ plus m s2 (quad m l1 t l0) → r ≡ plus m s3 (quad m l1 a l1) → r ≡ diffuse_n2 m z f2 l0 l1 (record { n0 = a; n1 = b; n2 = c })
  unfolding diffuse_n2
  diffuse_n2_lem _ _ _ _ _ _ _ _ _ _ _ _ e1 e2 e3 e4 e5 e6 = cc

  pub diffuse_n : (f f∞ f1 f2 : Float) (live : Bool) (m* m∞ l0 l1 a b c a' b' c' : List Float) → l0 ≡ l_usual m z f∞ m∞ → l1 ≡ l_diffuse m z f f∞ m* m∞ → f1 ≡ f_one f∞ → f2 ≡ f_two f f∞ → c' ≡ diffuse_n2 m z f2 l0 l1 (record { n0 = a; n1 = b; n2 = c }) → b' ≡ diffuse_n1 m z f1 l0 l1 (record { n0 = a; n1 = b; n2 = c' }) → a' ≡ quad m l0 a l0 → ◌≡◌ {A = Ns} (record { n0 = a'; n1 = b'; n2 = c' }) (back_n m live z (record { n0 = a; n1 = b; n2 = c }) (diffuse f f∞ m* m∞))
  unfolding back_n diffuse_n1
  diffuse_n _ _ _ _ live _ _ _ _ _ _ _ _ _ _ e1 e2 e3 e4 e5 e6 e7 = cc
