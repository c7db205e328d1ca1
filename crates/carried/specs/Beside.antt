-- What the covariance track leaves of the state is not the mean's: that stands where it stood.
use Rattle.std.specs.Prelude.{◌≡◌, ℕ, ◌+◌, ◌*◌, Bool, List, ◌++◌, take, Float}
use Rattle.std.proofs.Math.Path.{refl, ap}
use Rattle.std.proofs.Common.{◌∙◌, arith, append_assoc, length-append, length-drop}
use Rattle.std.proofs.Math.Nat.{zero-mul}
use Rattle.std.proofs.Math.Bool.{true, false, cond}
use Rattle.std.proofs.Math.ListN.{length, drop}
use Rattle.std.proofs.Math.Seq.{take_at, length-take-le}
use Rattle.std.proofs.Math.Dec.{eqb}
use borrow.Author.Tests.{eqb-false, ne_eqb}
use Rattle.carried.specs.State.{StateFits, cov_laid, mean_from}

module _ (m : ℕ) (s a b c d : List Float) where
  -- a state that is not empty, with the covariances laid over
  abbrev laid : List Float
  laid = ((((take m s ++ a) ++ b) ++ c) ++ d) ++ drop (m + m * m + m * m + m * m + m * m) s

  pub mean_beside : (a1 : List Float) → StateFits m (length s) → mean_from m (cov_laid m s a b c d) a1 ≡ mean_from m s a1
  unfolding mean_from cov_laid
  mean_beside a1 f = by (eqb (length s) 0) refl
    where
      by : (t : Bool) → eqb (length s) 0 ≡ t → cond (eqb (length (cond t s laid)) 0) a1 (take m (cond t s laid)) ≡ cond t a1 (take m s)
      by true e = rw e refl
      by false e =
          let some = eqb-false (length s) 0 e in
          let w = f.whole some in
          let l : length (take m s) ≡ m = length-take-le m s (omega arith) in
          let o : length laid ≡ 0 → ⊥ =
          λ z.
          let sum = simp (length-append, length-drop) at z in
          let none : m ≡ 0 = omega (arith, sum, l) in
          some (omega (arith, sum, ap (λ (i : ℕ). i * i) none, zero-mul 0)) in
          rw (ne_eqb _ _ o) (ap (take m) (simp append_assoc) ∙ take_at (take m s) (a ++ (b ++ (c ++ (d ++ drop (m + m * m + m * m + m * m + m * m) s)))) m l)
