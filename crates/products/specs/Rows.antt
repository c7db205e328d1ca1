-- A product row by row: what one row of B adds to a row of A B, and what stands after the first l. And a factor that is read turned.
use Rattle.std.specs.Prelude.{ℕ, List, Float}
use Rattle.definition.specs.Num.{◌⊕◌, ◌⊗◌, at, ent, sum_to}
use Rattle.definition.specs.Dense.{product_term, transpose}
use Rattle.dense.specs.Views.{rect}

-- o and x times row l of B
unfoldable pub row_more_at : ℕ → Float → List Float → ℕ → List Float → ℕ → Float
row_more_at m x b l o j = at o j ⊕ x ⊗ ent m b l j

unfoldable pub row_to : ℕ → List Float → List Float → ℕ → ℕ → ℕ → Float
row_to m a b i l j = sum_to l (product_term m m a b i j)

-- a factor of r rows and c columns that lies with c rows and r columns
abbrev pub turned : ℕ → ℕ → List Float → List Float
turned r c a = transpose c r (rect c r a)
