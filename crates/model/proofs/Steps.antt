-- Laws for a loop that takes one period's T after the other: what stands in its array before the first, and after each.
use mathlib.Core.Path.{◌≡◌, ◌∙◌}
use mathlib.Core.List.{List}
use Prim.Native.Nat.{ℕ, ◌≤◌}
use native.Mathlib.Omega.{arith}
use lib.ListN.{length}
use lib.Ieee.{Float}
use Rattle.definition.specs.Inputs.{transition_from}
use Rattle.dense.specs.Views.{vec, mat}
use Rattle.dense.proofs.Laws.{area, loaded_rect}
use Rattle.laws.specs.Entries.{part_once}
use Rattle.model.specs.Lists.{PartFits, Stands, constant, at_most_one}

-- the constant T fits into the array
pub loads : {m once list : ℕ} → PartFits m m once list → once ≤ 64
loads f = omega (arith, at_most_one f.chosen, area f.m8 f.m8)

pub loaded : (m : ℕ) (once list a : List Float) → PartFits m m (length once) (length list) → vec (length once) a ≡ once → Stands m once list a
loaded m once list a f e h = loaded_rect m m (length once) a (constant f.chosen h) e

pub stepped : (m t : ℕ) (once list a : List Float) → mat m a ≡ transition_from m once list t → Stands m once list a
stepped m t once list a e h = e ∙ part_once _ once list t h
