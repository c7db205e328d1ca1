-- The definition's root and logarithm at the edges: benches/roots/edges.py made the rows, by exact fractions. antt computes them all at once. Assumes nothing.
use Rattle.std.specs.Prelude.{Bool, true, ◌&&◌, List, [], ◌∷◌, ℕ, T, eqb}
use Rattle.std.specs.Float.{binary64}
use Rattle.std.specs.Float.Ieee.{size, units, odd, of_bits, to_bits, add, sub, mul, div, lt, round, of_int}
use Rattle.definition.specs.Root.{cut_root, isqrt, smallests_in, root_of, sqrt_in, sqrt_of}
use Rattle.definition.specs.Log.{coefficient, series, log_of, reduced, log_count, ln_of}

-- the bit patterns of a value, of its root and of its logarithm
pub record Row : Type 0 where
  pub x : ℕ
  pub root : ℕ
  pub log : ℕ

pub row : ℕ → ℕ → ℕ → Row
row x root log = record { x = x; root = root; log = log }

pub holds : Row → Bool
holds r = eqb (to_bits binary64 (sqrt_of (of_bits binary64 r.x))) r.root && eqb (to_bits binary64 (ln_of (of_bits binary64 r.x))) r.log

pub all : List Row → Bool
all [] = true
all (r ∷ rs) = holds r && all rs

pub edges : List Row
edges =
    row 0x0000000000000000 0x0000000000000000 0xFFF0000000000000 ∷
    row 0x8000000000000000 0x8000000000000000 0xFFF0000000000000 ∷
    row 0x0000000000000001 0x1E60000000000000 0xC0874385446D71C3 ∷
    row 0x000FFFFFFFFFFFFF 0x1FFFFFFFFFFFFFFF 0xC086232BDD7ABCD2 ∷
    row 0x0010000000000000 0x2000000000000000 0xC086232BDD7ABCD2 ∷
    row 0x3FEFFFFFFFFFFFFF 0x3FEFFFFFFFFFFFFF 0xBCA0000000000000 ∷
    row 0x3FF0000000000000 0x3FF0000000000000 0x0000000000000000 ∷
    row 0x3FF0000000000001 0x3FF0000000000000 0x3CB0000000000000 ∷
    row 0x3FF7FFFFFFFFFFFF 0x3FF3988E1409212E 0x3FD9F323ECBF9848 ∷
    row 0x3FF8000000000000 0x3FF3988E1409212E 0x3FD9F323ECBF984C ∷
    row 0x4000000000000000 0x3FF6A09E667F3BCD 0x3FE62E42FEFA39EF ∷
    row 0x400FFFFFFFFFFFFF 0x3FFFFFFFFFFFFFFF 0x3FF62E42FEFA39EF ∷
    row 0x401921FB54442D18 0x40040D931FF62705 0x3FFD67F1C864BEB4 ∷
    row 0x7FEFFFFFFFFFFFFF 0x5FEFFFFFFFFFFFFF 0x40862E42FEFA39EF ∷
    row 0x7FF0000000000000 0x7FF0000000000000 0x7FF0000000000000 ∷
    row 0x7FF8000000000000 0x7FF8000000000000 0x7FF8000000000000 ∷
    row 0x8000000000000001 0x7FF8000000000000 0x7FF8000000000000 ∷
    row 0xBFF0000000000000 0x7FF8000000000000 0x7FF8000000000000 ∷
    row 0xFFF0000000000000 0x7FF8000000000000 0x7FF8000000000000 ∷
    []

pub at_the_edges : T (all edges)
unfolding all edges row holds sqrt_in root_of isqrt cut_root smallests_in units odd size of_bits to_bits ln_of log_count reduced log_of series coefficient add sub mul div lt round of_int
at_the_edges = tt
