-- Laws for the leaves: the places of a matrix, products of sizes in range, the start of arrays that hold the inputs.
use mathlib.Core.Path.{◌≡◌, refl}
use mathlib.Core.Bool.{Bool, not}
use mathlib.Core.List.{List}
use Prim.Native.Nat.{ℕ, ◌+◌, ◌*◌, ◌≤◌, ◌<◌}
use native.Mathlib.Omega.{arith}
use native.Mathlib.Nat.{mul-le-mul}
use lib.ListN.{length}
use lib.Dec.{eqb}
use lib.Ieee.{Float, eq, ne}
use Rattle.definition.specs.Run.{any_of}
use Rattle.definition.specs.Inputs.{start_inf, start_root, start_from}
use Rattle.laws.specs.Lists.{place_lt}
use Rattle.laws.specs.Accepted.{InRange}
use Rattle.dense.specs.Views.{vec, rect}
use Rattle.dense.proofs.Laws.{area, loaded_rect}
use Rattle.model.specs.Places.{Place, StartFits}
use Rattle.track.specs.View.{cov_of}

-- a place lies within its matrix, and is small
pub place_in : {k size i j : ℕ} → Place k size i j → i * k + j < size
place_in {k} {size} {i} {j} h = omega (arith, place_lt k k i j h.row h.col, h.whole)

pub place_most : {k size i j : ℕ} → Place k size i j → i * k + j < 64
place_most {k} {size} {i} {j} h = omega (arith, place_lt k k i j h.row h.col, area h.most h.most)

-- `!=` is no `==`
pub other : (a b : Float) → ne a b ≡ not (eq a b)
unfolding ne
other a b = refl

-- sizes in range: their products are small
pub record Small (p m r n : ℕ) : Type 0 where
  pub pp : p * p ≤ 64
  pub pm : p * m ≤ 64
  pub mm : m * m ≤ 64
  pub mr : m * r ≤ 64
  pub rr : r * r ≤ 64
  pub np : n * p ≤ 32768
  pub nm : n * m ≤ 32768
  pub npm : n * (p * m) ≤ 262144
  pub nmm : n * (m * m) ≤ 262144

pub small : {p m r n : ℕ} → InRange p m r n → Small p m r n
small {p} {m} {r} {n} i =
    let pm = area i.p8 i.m8 in
    let mm = area i.m8 i.m8 in
    record {
      pp = area i.p8 i.p8;
      pm = pm;
      mm = mm;
      mr = area i.m8 i.r8;
      rr = area i.r8 i.r8;
      np = mul-le-mul {n₁ = n} {m₁ = p} {n₂ = 4096} {m₂ = 8} i.n4096 i.p8;
      nm = mul-le-mul {n₁ = n} {m₁ = m} {n₂ = 4096} {m₂ = 8} i.n4096 i.m8;
      npm = mul-le-mul {n₁ = n} {m₁ = p * m} {n₂ = 4096} {m₂ = 64} i.n4096 pm;
      nmm = mul-le-mul {n₁ = n} {m₁ = m * m} {n₂ = 4096} {m₂ = 64} i.n4096 mm;
    }

-- the start, of an array that holds P*
pub started : (m : ℕ) {p* : List Float} (flags : List ℕ) (star p∞ root : List Float) {live : Bool} → StartFits m (length p*) (length flags) → vec (length p*) star ≡ p* → rect m m p∞ ≡ start_inf m flags
    → rect m m root ≡ start_root m flags → live ≡ any_of (eqb 1) flags → cov_of m star p∞ root p∞ live ≡ start_from m p* flags
unfolding start_from
started m {p*} flags star p∞ root {live} f e i r a = let l : rect m m star ≡ p* = loaded_rect m m (length p*) star f.p* e in cc
