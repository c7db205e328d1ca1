-- The steps of the kernels that go column by column: what one column does, and what stands after the first j. And P + a b'.
use Rattle.std.specs.Prelude.{ℕ, cond, List, eqb, ltb, Float}
use Rattle.definition.specs.Num.{◌⊕◌, ◌⊖◌, ◌⊗◌, at, ent, sum_but}
use Rattle.definition.specs.Dense.{zero_at, mat_vec_term, outer_sub_at}

-- M x: o and the terms of column j; the same, or o where x is 0 at j; the first j columns
unfoldable pub more_at : ℕ → List Float → List Float → ℕ → List Float → ℕ → Float
more_at m a x j o i = at o i ⊕ mat_vec_term m a x i j

unfoldable pub more_kept_at : ℕ → List Float → List Float → ℕ → List Float → ℕ → Float
more_kept_at m a x j o i = cond (zero_at x j) (at o i) (more_at m a x j o i)

unfoldable pub mat_vec_to : ℕ → List Float → List Float → ℕ → ℕ → Float
mat_vec_to m a x j i = sum_but j (zero_at x) (mat_vec_term m a x i)

-- P - a b': entry i of column j; all of P with that column less; the same, or P where b is 0 at j; the first j columns
unfoldable pub less_at : ℕ → List Float → List Float → List Float → ℕ → ℕ → Float
less_at m p a b j i = ent m p i j ⊖ at a i ⊗ at b j

unfoldable pub column_less : ℕ → List Float → List Float → List Float → ℕ → ℕ → ℕ → Float
column_less m p a b j i k = cond (eqb k j) (less_at m p a b j i) (ent m p i k)

unfoldable pub column_kept : ℕ → List Float → List Float → List Float → ℕ → ℕ → ℕ → Float
column_kept m p a b j i k = cond (eqb k j) (outer_sub_at m p a b i k) (ent m p i k)

unfoldable pub outer_sub_to : ℕ → List Float → List Float → List Float → ℕ → ℕ → ℕ → Float
outer_sub_to m p a b j i k = cond (ltb k j) (outer_sub_at m p a b i k) (ent m p i k)

-- P + a b', nothing left out
unfoldable pub outer_more_at : ℕ → List Float → List Float → List Float → ℕ → ℕ → Float
outer_more_at m a b p i j = ent m p i j ⊕ at a i ⊗ at b j
