-- The constant T is there already; of a list, the entry is loaded.
use mathlib.Core.Path.{◌≡◌, sym, ap, ◌∙◌}
use Prim.Native.Nat.{ℕ, ◌*◌}
use native.Mathlib.Omega.{arith}
use mathlib.Core.List.{List}
use lib.ListN.{length}
use lib.Ieee.{Float}
use Rattle.definition.specs.Inputs.{part_from}
use Rattle.dense.proofs.Laws.{area, loaded_rect}
use Rattle.laws.specs.Entries.{part_once}
use Rattle.model.specs.Lists.{PartFits, length_part}
use Rattle.model.proofs.lists.transition.Goals as goal

-- the part has m by m numbers
whole : {m : ℕ} (t : ℕ) (once list : List Float) {part : List Float} → PartFits m m (length once) (length list) → part ≡ part_from (m * m) once list t
    → length part ≡ m * m
whole t once list f e = ap length e ∙ length_part once list t f.chosen

pub returns-then-list-eq0 : goal.returns-then-list-eq0
returns-then-list-eq0 c = c.requires.2 c.if-list-eq0.true ∙ sym (part_once _ _ _ c.args.t c.if-list-eq0.true)

pub part-requires : goal.part-requires
part-requires c = (c.requires.0, c.requires.1)

pub fill-requires : goal.fill-requires
fill-requires c = omega (arith, whole _ _ _ c.requires.0 c.part.ensures, area c.requires.0.m8 c.requires.0.m8)

pub returns : goal.returns
returns c = loaded_rect _ _ _ _ (whole _ _ _ c.requires.0 c.part.ensures) c.fill.ensures ∙ c.part.ensures
