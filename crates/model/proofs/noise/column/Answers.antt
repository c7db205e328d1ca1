-- Each place that is read lies within the list.
use native.Mathlib.Omega.{arith}
use Prim.Native.Nat.{ℕ, ◌<◌, ◌*◌, ◌+◌}
use Rattle.definition.specs.Num.{ent}
use Rattle.laws.specs.Lists.{place_lt}
use Rattle.model.specs.Noise.{Column}
use Rattle.model.proofs.noise.column.Goals as goal

place : {m r l size i : ℕ} → Column m r l size → i < m → i * r + l < size
place {m} {r} {l} {size} {i} f h = omega (arith, place_lt m r i l h f.column, f.whole)

pub returns : goal.returns
returns c = let a = c.args in c.vector.ensures (λ i. ent a.r a.a.now i a.l) (λ i v h p. cc)
